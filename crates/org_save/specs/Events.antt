-- What a program did to a file and to those beside it.
use Rattle.std.specs.Prelude.{◌≡◌, ℕ, List, [], cond, ◌==◌, refl, slice_index}
use mathlib.Core.Path.{ap, ◌∙◌}
use Rattle.std.specs.Coded.{Coded, code_by, coded×, coded_list, coded_ℕ}
use Rattle.org_save.specs.declared.name.Name.{Name}
use Rattle.org_save.specs.declared.name.Name.TheVariants.{Target, Temporary, Rescue}

pub data Event : Type 0 where
  -- a file that wasn't there was made, empty
  made : Name → Event
  -- it got the owner, the group and the mode that the target has
  gave_access : Name → Event
  -- these bytes were written at its end, whole
  wrote : Name → List ℕ → Event
  -- a write failed, and some of its bytes may stand there
  tore : Name → Event
  -- what was written is on the disk
  synced : Name → Event
  -- it was read, and had these bytes
  found : Name → List ℕ → Event
  -- the file that was read last as the target was read once more, and had these bytes, whichever name it has by now
  found_former : List ℕ → Event
  -- the first took the place of the second, in one step
  renamed : Name → Name → Event
  removed : Name → Event
  -- the folder's names are on the disk
  listed : Event
  -- the file that was the target before got these bytes, on the disk, and took the target's place again, in one step
  restored : List ℕ → Event

-- how the logic stores an event

abbrev pub number : Name → ℕ
number Target = 0
number Temporary = 1
number Rescue = 2

abbrev pub name : ℕ → Name
name n = cond (n == 0) Target (cond (n == 1) Temporary Rescue)

pub names_are_numbered : (a : Name) → name (number a) ≡ a
names_are_numbered Target = refl
names_are_numbered Temporary = refl
names_are_numbered Rescue = refl

abbrev pub Parts : Type 0
Parts = ℕ × (ℕ × (ℕ × List ℕ))

abbrev to_parts : Event → Parts
to_parts (made a) = (0, (number a, (0, [])))
to_parts (gave_access a) = (1, (number a, (0, [])))
to_parts (wrote a bytes) = (2, (number a, (0, bytes)))
to_parts (tore a) = (3, (number a, (0, [])))
to_parts (synced a) = (4, (number a, (0, [])))
to_parts (found a bytes) = (5, (number a, (0, bytes)))
to_parts (found_former bytes) = (6, (0, (0, bytes)))
to_parts (renamed a b) = (7, (number a, (number b, [])))
to_parts (removed a) = (8, (number a, (0, [])))
to_parts listed = (9, (0, (0, [])))
to_parts (restored bytes) = (10, (0, (0, bytes)))

abbrev pub from_parts : Parts → Event
from_parts p =
    cond (p.0 == 0) (made (name p.1.0)) (cond (p.0 == 1) (gave_access (name p.1.0)) (cond (p.0 == 2) (wrote (name p.1.0) p.1.1.1)
    (cond (p.0 == 3) (tore (name p.1.0)) (cond (p.0 == 4) (synced (name p.1.0)) (cond (p.0 == 5) (found (name p.1.0) p.1.1.1)
    (cond (p.0 == 6) (found_former p.1.1.1) (cond (p.0 == 7) (renamed (name p.1.0) (name p.1.1.0))
    (cond (p.0 == 8) (removed (name p.1.0)) (cond (p.0 == 9) listed (restored p.1.1.1))))))))))

pub from_parts-to_parts : (e : Event) → from_parts (to_parts e) ≡ e
from_parts-to_parts (made a) = ap made (names_are_numbered a)
from_parts-to_parts (gave_access a) = ap gave_access (names_are_numbered a)
from_parts-to_parts (wrote a bytes) = ap (λ (b : Name). wrote b bytes) (names_are_numbered a)
from_parts-to_parts (tore a) = ap tore (names_are_numbered a)
from_parts-to_parts (synced a) = ap synced (names_are_numbered a)
from_parts-to_parts (found a bytes) = ap (λ (b : Name). found b bytes) (names_are_numbered a)
from_parts-to_parts (found_former bytes) = refl
from_parts-to_parts (renamed a b) =
    ap (λ (c : Name). renamed c (name (number b))) (names_are_numbered a) ∙ ap (renamed a) (names_are_numbered b)
from_parts-to_parts (removed a) = ap removed (names_are_numbered a)
from_parts-to_parts listed = refl
from_parts-to_parts (restored bytes) = refl

abbrev pub events_code : Coded (List Event)
events_code = coded_list (code_by Parts (coded× coded_ℕ (coded× coded_ℕ (coded× coded_ℕ (coded_list coded_ℕ)))) to_parts from_parts from_parts-to_parts)

-- the event of a number, two names by theirs, and bytes
abbrev pub event_of : List ℕ → List ℕ → Event
event_of words bytes = from_parts (slice_index words 0, (slice_index words 1, (slice_index words 2, bytes)))
