-- What a command does that names a version of a file that an answer named.
use Rattle.std.proofs.Common.{◌≡◌, ◌≢◌, ◌∙◌, ◌+◌, ℕ, zero, suc, List, [], ◌∷◌, ◌++◌, Bool, true, false, cond, refl, ap, sym, subst, inl, inr, append_assoc, eqb}
use Rattle.std.proofs.lemmas.Bool.{ne_eqb}
use Rattle.std.specs.Prelude.{None, Option, Some, Result, Ok, Err, slice_get}
use Rattle.org_base.specs.declared.code.Code.TheVariants as code
use Rattle.org_base.specs.declared.fault.Fault.{Fault}
use Rattle.org_base.specs.declared.fault.Fault.TheVariants as fault
use Rattle.org_base.specs.declared.profile.Profile.{Profile}
use Rattle.org_complete.specs.Completion.{completed}
use Rattle.org_engine.specs.Laws.{AllIn, IsIn, WorksOnGiven, after_all, file_given, files_given}
use Rattle.org_clocktable.specs.declared.row.Of.{Of}
use Rattle.org_clocktable.specs.declared.row.Of.TheVariants as of
use Rattle.org_store.proofs.HeadingLemmas.{headings_are_there}
use Rattle.org_layout.specs.declared.shown.Line.{Line}
use Rattle.org_layout.specs.declared.shown.Line.TheVariants as line
use Rattle.org_engine.specs.PlaceLaws.{LeadsBack, LeadsTo, LeadsToOf, PlacesLeadBack, VersionsLeadBack, files_for, named_by}
use Rattle.org_engine.specs.Views.{files_named}
use Rattle.org_engine.specs.Views.{is_wanted}
use Rattle.org_engine.specs.Step.{Command, AddFile, At, Ask, Complete, DropFile, EditFile, Inherit, PinWorld, Refused, SetProfile, TextOf, KeywordsOf, Version, Unpin, added, changes, dropped, edited, file_named, is_session, pinned_by, put, refused, released, step, text_seen, unpinned_by, world_for, world_of}
use Rattle.org_engine.proofs.StepWords.{completed_at, is_unused, kept_world, profiled, text_at}
use Rattle.org_engine.specs.World.{FileView, PinView, State, WorldView}
use Rattle.org_engine.proofs.GivenLemmas.{all_left, in_left, one_after, texts_are_given}
use Rattle.org_engine.proofs.LawLemmas.{changes_pins}
use Rattle.org_engine.proofs.SeenLemmas.{named_in, works_on_text_seen}

-- the files of all worlds that sessions keep are among others
abbrev PinsIn : List PinView → List FileView → Type 0
PinsIn [] gs = Unit {0}
PinsIn (pin ∷ pins) gs = AllIn pin.world.files gs × PinsIn pins gs

pins_left : (pins : List PinView) (gs hs : List FileView) → PinsIn pins gs → PinsIn pins (gs ++ hs)
pins_left [] gs hs k = tt
pins_left (pin ∷ pins) gs hs k = (all_left pin.world.files gs hs k.0, pins_left pins gs hs k.1)

pins_more : (pins : List PinView) (pin : PinView) (gs : List FileView) → PinsIn pins gs → AllIn pin.world.files gs → PinsIn (pins ++ pin ∷ []) gs
pins_more [] pin gs k h = (h, tt)
pins_more (p ∷ pins) pin gs k h = (k.0, pins_more pins pin gs k.1 h)

pins_less : (session : ℕ) (pins : List PinView) (gs : List FileView) → PinsIn pins gs → PinsIn (released session pins) gs
pins_less session [] gs k = tt
pins_less session (p ∷ pins) gs k =
    elim (eqb p.session session) as (λ b. PinsIn (cond b pins (p ∷ released session pins)) gs) [ true ↦ k.1 | false ↦ (k.0, pins_less session pins gs k.1) ]

-- so it is after one command
pin_in : (session : ℕ) (s : State) (gs : List FileView) (b : Bool) (o : Option WorldView) → AllIn s.world.files gs → PinsIn s.pins gs →
    PinsIn (cond b (pinned_by session s o) (refused (fault.Plain code.Session) s)).after.pins gs
pin_in session s gs false o h k = k
pin_in session s gs true (Some w) h k = k
pin_in session s gs true None h k = pins_more s.pins _ gs k h

unpin_in : (session : ℕ) (s : State) (gs : List FileView) (b : Bool) (o : Option WorldView) → PinsIn s.pins gs →
    PinsIn (cond b (unpinned_by session s o) (refused (fault.Plain code.Session) s)).after.pins gs
unpin_in session s gs false o k = k
unpin_in session s gs true None k = k
unpin_in session s gs true (Some w) k = pins_less session s.pins gs k

profile_in : (p : Profile) (s : State) (gs : List FileView) (b : Bool) → PinsIn s.pins gs → PinsIn (profiled p s b).after.pins gs
profile_in p s gs true k = k
profile_in p s gs false k = k

changed_in : (s : State) (r : Result (List FileView) Fault) (gs : List FileView) → PinsIn s.pins gs → PinsIn (changes s r).after.pins gs
changed_in s r gs k = subst (λ (pins : List PinView). PinsIn pins gs) (sym (changes_pins s r)) k

one_in : (c : Command) (s : State) (gs : List FileView) → AllIn s.world.files gs → PinsIn s.pins gs → PinsIn (step c s).after.pins gs
one_in (AddFile name text) s gs h k = changed_in s (added name text (s.serial + 1) s.world.files) gs k
one_in (DropFile name) s gs h k = changed_in s (dropped name s.world.files) gs k
one_in (EditFile by name serial at del ins) s gs h k = changed_in s (put name s (edited at del ins (text_seen by name serial s.world.files))) gs k
one_in (Complete by name serial line keyword) s gs h k = changed_in s (put name s (completed_at line keyword s.world.moment (text_seen by name serial s.world.files))) gs k
one_in (At moment) s gs h k = k
one_in (SetProfile p) s gs h k = profile_in p s gs (is_unused s) k
one_in (Inherit names) s gs h k = k
one_in (PinWorld session) s gs h k = pin_in session s gs (is_session session) (world_of session s.pins) h k
one_in (Unpin session) s gs h k = unpin_in session s gs (is_session session) (world_of session s.pins) k
one_in (TextOf name) s gs h k = k
one_in (KeywordsOf name) s gs h k = k
one_in Version s gs h k = k
one_in (Ask question form session) s gs h k = k

-- and after many: the files of worlds that are kept are files that were given
pins_given : (cs : List Command) (s : State) (gs : List FileView) → AllIn s.world.files gs → PinsIn s.pins gs → PinsIn (after_all cs s).pins (gs ++ files_given cs s)
pins_given [] s gs h k = pins_left s.pins gs [] k
pins_given (c ∷ cs) s gs h k =
    let now = file_given c (step c s).reply (step c s).after in
    subst (λ (hs : List FileView). PinsIn (after_all cs (step c s).after).pins hs) (append_assoc gs now (files_given cs (step c s).after))
    (pins_given cs (step c s).after (gs ++ now) (one_after c s gs h) (pins_left (step c s).after.pins gs now (one_in c s gs h k)))

-- a file of the world that is asked is one of those
all_in : (fs gs : List FileView) (file : FileView) → AllIn fs gs → IsIn file fs → IsIn file gs
all_in [] gs file h i = absurd i
all_in (f ∷ fs) gs file h (inl is) = subst (λ (g : FileView). IsIn g gs) is h.0
all_in (f ∷ fs) gs file h (inr i) = all_in fs gs file h.1 i

same_world : (v w : WorldView) → Some v ≡ Some w → v ≡ w
same_world v w h = cc

kept_in : (session : ℕ) (pins : List PinView) (world : WorldView) (gs : List FileView) → PinsIn pins gs → world_of session pins ≡ Some world → AllIn world.files gs
kept_in session [] world gs k is = absurd cc
kept_in session (p ∷ pins) world gs k is =
    elim (eqb p.session session) as (λ b. cond b (Some p.world) (world_of session pins) ≡ Some world → AllIn world.files gs) [
      | true ↦ λ e. subst (λ (w : WorldView). AllIn w.files gs) (same_world p.world world e) k.0
      | false ↦ λ e. kept_in session pins world gs k.1 e
    ] is

some_kept : (o : Option WorldView) (world : WorldView) → kept_world o ≡ Ok world → o ≡ Some world
some_kept None world h = absurd cc
some_kept (Some w) world h = cc

asked_in : (asked : Option ℕ) (s : State) (world : WorldView) (gs : List FileView) → AllIn s.world.files gs → PinsIn s.pins gs → world_for asked s ≡ Ok world → AllIn world.files gs
asked_in None s world gs h k is = let same : s.world ≡ world = cc in subst (λ (w : WorldView). AllIn w.files gs) same h
asked_in (Some session) s world gs h k is = by (is_session session) is
  where
    by : (b : Bool) → cond b (kept_world (world_of session s.pins)) (Err (fault.Plain code.Session)) ≡ Ok world → AllIn world.files gs
    by false e = absurd cc
    by true e = kept_in session s.pins world gs k (some_kept (world_of session s.pins) world e)

-- what commands do after others
after_append : (cs ds : List Command) (s : State) → after_all (cs ++ ds) s ≡ after_all ds (after_all cs s)
after_append [] ds s = refl
after_append (c ∷ cs) ds s = after_append cs ds (step c s).after

given_append : (cs ds : List Command) (s : State) → files_given (cs ++ ds) s ≡ files_given cs s ++ files_given ds (after_all cs s)
given_append [] ds s = refl
given_append (c ∷ cs) ds s =
    let now = file_given c (step c s).reply (step c s).after in
    ap (λ (fs : List FileView). now ++ fs) (given_append cs ds (step c s).after) ∙ sym (append_assoc now (files_given cs (step c s).after) (files_given ds (after_all cs (step c s).after)))

none_in : (fs gs : List FileView) → fs ≡ [] → AllIn fs gs
none_in fs gs none = subst (λ (xs : List FileView). AllIn xs gs) (sym none) tt

none_kept : (pins : List PinView) (gs : List FileView) → pins ≡ [] → PinsIn pins gs
none_kept pins gs none = subst (λ (xs : List PinView). PinsIn xs gs) (sym none) tt

-- a command that names a version which the file hasn't any more is refused
module _ (session : ℕ) (file : FileView) (s : State) (valid : is_session session ≡ true) where
  seen_is : (found : Option FileView) → file_named file.name s.world.files ≡ found → text_seen session file.name file.serial s.world.files ≡ text_at file.serial found
  seen_is found is = ap (λ b. cond b (text_at file.serial (file_named file.name s.world.files)) (Err (fault.Plain code.Session))) valid ∙ ap (text_at file.serial) is

  seen_gone : file_named file.name s.world.files ≡ None → text_seen session file.name file.serial s.world.files ≡ Err (fault.Plain code.Unknown)
  seen_gone is = seen_is None is

  seen_stale : (now : FileView) → file_named file.name s.world.files ≡ Some now → (now.serial ≡ file.serial → ⊥) →
      text_seen session file.name file.serial s.world.files ≡ Err (fault.Stale now.serial)
  seen_stale now is other = seen_is (Some now) is ∙ ap (λ b. cond b (Ok now.text) (Err (fault.Stale now.serial))) (ne_eqb now.serial file.serial other)

  complete_refused : (line : ℕ) (keyword : List ℕ) (f : Fault) → text_seen session file.name file.serial s.world.files ≡ Err f →
      (step (Complete session file.name file.serial line keyword) s).reply ≡ Refused f
  complete_refused line keyword f is = ap (λ (r : Result (List ℕ) Fault). (changes s (put file.name s (completed_at line keyword s.world.moment r))).reply) is

  edit_refused : (at del : ℕ) (ins : List ℕ) (f : Fault) → text_seen session file.name file.serial s.world.files ≡ Err f →
      (step (EditFile session file.name file.serial at del ins) s).reply ≡ Refused f
  edit_refused at del ins f is = ap (λ (r : Result (List ℕ) Fault). (changes s (put file.name s (edited at del ins r))).reply) is

-- in what state commands leave an engine that began without files, a version of a file that was given leads back
module _ (all : List Command) (start : State) (none : start.world.files ≡ []) (file : FileView) (own : IsIn file (files_given all start)) where
  abbrev s : State
  s = after_all all start

  given : WorksOnGiven all start
  given = works_on_text_seen all start none

  other_serial : (now : FileView) → file_named file.name s.world.files ≡ Some now → now ≢ file → now.serial ≡ file.serial → ⊥
  other_serial now is other same = other (given.one now file (named_in file.name s.world.files (files_given all start) now (texts_are_given all start none) is) own same)

  back : LeadsBack file s
  back = record {
    completes = λ session line keyword valid. record {
      works = λ next accepted.
          let on = given.completes session file.name file.serial line keyword next accepted in
          let same : on.0 ≡ file = given.one on.0 file on.2 own on.4 in (
            on.1,
            subst (λ (f : FileView). completed f.text line keyword s.world.moment ≡ Ok on.1) same on.5,
            subst (λ (f : FileView). file_named file.name (step (Complete session file.name file.serial line keyword) s).after.world.files ≡ Some (record f { text = on.1; serial = next })) same on.6,
          );
      stale = λ now is other. complete_refused session file s valid line keyword (fault.Stale now.serial) (seen_stale session file s valid now is (other_serial now is other));
      gone = λ is. complete_refused session file s valid line keyword (fault.Plain code.Unknown) (seen_gone session file s valid is);
    };
    edits = λ session at del ins valid. record {
      works = λ next accepted.
          let on = given.edits session file.name file.serial at del ins next accepted in
          let same : on.0 ≡ file = given.one on.0 file on.2 own on.4 in (
            on.1,
            subst (λ (f : FileView). edited at del ins (Ok f.text) ≡ Ok on.1) same on.5,
            subst (λ (f : FileView). file_named file.name (step (EditFile session file.name file.serial at del ins) s).after.world.files ≡ Some (record f { text = on.1; serial = next })) same on.6,
          );
      stale = λ now is other. edit_refused session file s valid at del ins (fault.Stale now.serial) (seen_stale session file s valid now is (other_serial now is other));
      gone = λ is. edit_refused session file s valid at del ins (fault.Plain code.Unknown) (seen_gone session file s valid is);
    };
  }

pub versions_lead_back : VersionsLeadBack
versions_lead_back before between start asked world file none unpinned is inside =
    let mid : State = after_all before start in
    let files = files_given before start in
    let given : AllIn mid.world.files files = texts_are_given before start none in
    let pinned : PinsIn mid.pins files = pins_given before start [] (none_in start.world.files [] none) (none_kept start.pins [] unpinned) in
    let first : IsIn file files = all_in world.files files file (asked_in asked mid world files given pinned is) inside in
    let own : IsIn file (files_given (before ++ between) start) =
    subst (λ (fs : List FileView). IsIn file fs) (sym (given_append before between start)) (in_left file files (files_given between mid) first) in
    subst (λ (s : State). LeadsBack file s) (after_append before between start) (back (before ++ between) start none file own)

-- a line of a view leads to a file of the world that is asked
slice_in : (fs : List FileView) (i : ℕ) (file : FileView) → slice_get fs i ≡ Some file → IsIn file fs
slice_in [] i file is = absurd cc
slice_in (f ∷ fs) zero file is = inl cc
slice_in (f ∷ fs) (suc i) file is = inr (slice_in fs i file is)

one_or_more : (f : FileView) (some all : List FileView) (file : FileView) → (IsIn file some → IsIn file all) → IsIn file (f ∷ some) → IsIn file (f ∷ all)
one_or_more f some all file rest (inl is) = inl is
one_or_more f some all file rest (inr k) = inr (rest k)

named_inside : (name : Option (List ℕ)) (fs : List FileView) (file : FileView) → IsIn file (files_named name fs) → IsIn file fs
named_inside name [] file h = h
named_inside name (f ∷ fs) file h =
    let rest = named_inside name fs file in
    elim (is_wanted name f.name) as (λ b. IsIn file (cond b (f ∷ files_named name fs) (files_named name fs)) → IsIn file (f ∷ fs)) [
      | true ↦ λ k. one_or_more f (files_named name fs) fs file rest k
      | false ↦ λ k. inr (rest k)
    ] h

leads_inside : (files : List FileView) (l : Line) (file : FileView) (heading : ℕ) → LeadsTo files l file heading → IsIn file files
leads_inside files (line.Day day) file heading h = absurd h
leads_inside files (line.Step first last) file heading h = absurd h
leads_inside files (line.Row shown) file heading h = slice_in files shown.row.file file h.0
leads_inside files (line.Table row) file heading h = of_inside row.of h
  where
    of_inside : (o : Of) → LeadsToOf files o file heading → IsIn file files
    of_inside of.All k = absurd k
    of_inside (of.File place) k = absurd k
    of_inside (of.Heading place section level) k = slice_in files place file k.0

pub places_lead_back : PlacesLeadBack
places_lead_back before between start asked question world k heading l file place none unpinned is shown leads at some =
    let inside : IsIn file world.files = named_inside (named_by question) world.files file (leads_inside (files_for question world) l file heading leads) in
    (headings_are_there file.text heading place at some, versions_lead_back before between start asked world file none unpinned is inside)
