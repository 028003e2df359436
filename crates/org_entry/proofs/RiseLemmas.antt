-- The stamps of an entry rise by their places.
use Rattle.std.proofs.Common.{◌≡◌, ℕ, zero, suc, ◌+◌, ◌-◌, ◌<◌, ◌≤◌, Bool, true, false, List, [], ◌∷◌, ◌++◌, drop, length, take, refl, sym, subst, arith, inl, inr}
use Rattle.std.specs.Prelude.{Option, None, Some, if◌then◌else◌, nat_lt}
use Rattle.std.specs.List.{flat_map}
use Rattle.std.proofs.lemmas.Bool.{cases_Bool}
use Rattle.std.proofs.lemmas.Bool.Decides.{nat_tests}
use Rattle.std.proofs.lemmas.List.Concat.{flat_map-cons}
use Rattle.org_base.specs.Spans.{bytes_in}
use Rattle.org_base.specs.declared.span.Span.{Span}
use Rattle.org_class.specs.Classes.{section_classes}
use Rattle.org_class.specs.declared.class.Class.{Class}
use Rattle.org_class.specs.declared.class.Class.TheVariants as class
use Rattle.org_drawer.specs.declared.planning.Planning.{Planning}
use Rattle.org_head.specs.Head.{head_of}
use Rattle.org_head.proofs.Inside.{head_inside}
use Rattle.org_lines.specs.Cuts.{lines}
use Rattle.org_settings.specs.Settings.{FileSettings}
use Rattle.org_stamp.specs.Line.{stamps_from, stamps_of as stamps_of_line}
use Rattle.org_stamp.proofs.LineWords.{one_more}
use Rattle.org_stamp.specs.Read.{stamp_of}
use Rattle.org_stamp.specs.declared.stamp.Found.{Found}
use Rattle.org_stamp.specs.declared.stamp.Stamp.{Stamp}
use Rattle.org_entry.specs.Active.{plain_stamps, put, stamp_at, with_planned}
use Rattle.org_entry.proofs.ActiveWords.{with_planning}
use Rattle.org_entry.specs.Entry.{PlacedLine, active_at, entry_of, if_active, placed, stamps_of, title_stamps}
use Rattle.org_entry.specs.Laws.{Rise, StampsRise}
use Rattle.org_entry.specs.Planning.{entry_planning}
use Rattle.org_entry.specs.declared.active.EntryStamp.{EntryStamp}
use Rattle.org_entry.specs.declared.active.Role.{Role}
use Rattle.org_entry.specs.declared.active.Role.TheVariants.{Scheduled, Deadline}

-- they rise from one place to below another
abbrev Between : ℕ → ℕ → List Found → Type 0
Between low high [] = low ≤ high
Between low high (f ∷ fs) = (low ≤ f.at) × (f.at < high) × Between f.at high fs

lower : (less low high : ℕ) (fs : List Found) → less ≤ low → Between low high fs → Between less high fs
lower less low high [] le h = omega (arith, le, h)
lower less low high (f ∷ fs) le h = (omega (arith, le, h.0), h.1, h.2)

higher : (low high more : ℕ) (fs : List Found) → high ≤ more → Between low high fs → Between low more fs
higher low high more [] le h = omega (arith, le, h)
higher low high more (f ∷ fs) le h = (h.0, omega (arith, le, h.1), higher f.at high more fs le h.2)

joined : (low mid high : ℕ) (fs gs : List Found) → Between low mid fs → Between mid high gs → mid ≤ high → Between low high (fs ++ gs)
joined low mid high [] gs h k le = lower low mid high gs h k
joined low mid high (f ∷ fs) gs h k le = (h.0, omega (arith, le, h.1), joined f.at mid high fs gs h.2 k le)

found_here : (at high : ℕ) (later : ℕ → List Found) (o : Option (Stamp × ℕ)) → at < high → ((n : ℕ) → Between (at + 1) high (later n)) → Between at high (one_more at later o)
found_here at high later None le more = lower at (at + 1) high (later 0) (omega arith) (more 0)
found_here at high later (Some found) le more = (omega arith, le, lower at (at + 1) high (later (found.1 - 1)) (omega arith) (more (found.1 - 1)))

stamps_between : (bytes : List ℕ) (at inside high : ℕ) → at + length bytes ≤ high → Between at high (stamps_from bytes at inside)
unfolding stamps_from
stamps_between [] at zero high le = omega (arith, le)
stamps_between [] at (suc inside) high le = omega (arith, le)
stamps_between (b ∷ bs) at zero high le =
    found_here at high (stamps_from bs (at + 1)) (stamp_of (b ∷ bs)) (omega (arith, le)) (λ n. stamps_between bs (at + 1) n high (omega (arith, le)))
stamps_between (b ∷ bs) at (suc inside) high le = lower at (at + 1) high (stamps_from bs (at + 1) inside) (omega arith) (stamps_between bs (at + 1) inside high (omega (arith, le)))

actives : (at low high : ℕ) (fs : List Found) → Between low high fs → Between (at + low) (at + high) (flat_map (if_active at) fs)
actives at low high [] h = omega (arith, h)
actives at low high (f ∷ fs) h =
    let rest = actives at f.at high fs h.2 in
    subst (Between (at + low) (at + high)) (sym (flat_map-cons (if_active at) f fs))
    (elim (f.stamp.active) as (λ t. Between (at + low) (at + high) ((if t then record { at = at + f.at; len = f.len; stamp = f.stamp } ∷ [] else []) ++ flat_map (if_active at) fs)) [
      | true ↦ (omega (arith, h.0), omega (arith, h.1), rest)
      | false ↦ lower (at + low) (at + f.at) (at + high) (flat_map (if_active at) fs) (omega (arith, h.0)) rest
    ])

active_between : (at high : ℕ) (bytes : List ℕ) → at + length bytes ≤ high → Between at high (active_at at bytes)
active_between at high bytes le =
    let zero_on : at ≡ at + 0 = omega arith in
    let line = stamps_between bytes 0 0 (length bytes) (omega arith) in
    higher at (at + length bytes) high (active_at at bytes) le
    (subst (λ low. Between low (at + length bytes) (active_at at bytes)) (sym zero_on) (actives at 0 (length bytes) (stamps_of_line bytes) line))

length-part : (xs : List ℕ) (from to : ℕ) → from + length (take to (drop from xs)) ≤ from + (length xs - from)
length-part [] zero zero = omega arith
length-part [] zero (suc to) = omega arith
length-part [] (suc from) zero = omega arith
length-part [] (suc from) (suc to) = omega arith
length-part (x ∷ xs) zero zero = omega arith
length-part (x ∷ xs) zero (suc to) = omega (arith, length-part xs zero to)
length-part (x ∷ xs) (suc from) to = omega (arith, length-part xs from to)

title_between : (settings : FileSettings) (at : ℕ) (bytes : List ℕ) → Between at (at + length bytes) (title_stamps settings at bytes)
title_between settings at bytes =
    let title : Span = (head_of settings bytes).title in
    let inside = (head_inside settings bytes (head_of settings bytes) refl).title in
    let short = length-part bytes title.at (title.at + title.len - title.at) in
    lower at (at + title.at) (at + length bytes) (title_stamps settings at bytes) (omega arith)
    (active_between (at + title.at) (at + length bytes) (bytes_in bytes title) (omega (arith, inside, short)))

line_between : (settings : FileSettings) (at : ℕ) (c : Class) (bytes : List ℕ) → Between at (at + length bytes) (stamps_of settings at c bytes)
line_between settings at class.Heading bytes = title_between settings at bytes
line_between settings at class.Setting bytes = active_between at (at + length bytes) bytes (omega arith)
line_between settings at class.Plain bytes = active_between at (at + length bytes) bytes (omega arith)
line_between settings at _ bytes = omega arith

-- how many bytes lines have
abbrev size : List (List ℕ) → ℕ
size [] = 0
size (l ∷ ls) = length l + size ls

lines_between : (settings : FileSettings) (at : ℕ) (ls : List (List ℕ)) (cs : List Class) →
    Between at (at + size ls) (flat_map (λ (l : PlacedLine). stamps_of settings l.at l.class l.bytes) (placed at ls cs))
lines_between settings at [] cs = omega arith
lines_between settings at (l ∷ ls) [] = omega arith
lines_between settings at (l ∷ ls) (c ∷ cs) =
    let of_line : PlacedLine → List Found = λ m. stamps_of settings m.at m.class m.bytes in
    let rest : List Found = flat_map of_line (placed (at + length l) ls cs) in
    subst (Between at (at + size (l ∷ ls))) (sym (flat_map-cons of_line (record { at = at; class = c; bytes = l }) (placed (at + length l) ls cs)))
    (joined at (at + length l) (at + size (l ∷ ls)) (stamps_of settings at c l) rest (line_between settings at c l)
    (higher (at + length l) (at + length l + size ls) (at + size (l ∷ ls)) rest (omega arith) (lines_between settings (at + length l) ls cs)) (omega arith))

-- with those of the planning line

plain_rise : (opens : Bool) (low high : ℕ) (fs : List Found) → Between low high fs → Rise low (plain_stamps opens fs)
plain_rise opens low high [] h = tt
plain_rise opens low high (f ∷ fs) h = (h.0, plain_rise opens f.at high fs h.2)

not_less : (a b : ℕ) → nat_lt a b ≡ false → b ≤ a
not_less a b h = grind (arith, nat_tests)

less : (a b : ℕ) → nat_lt a b ≡ true → a ≤ b
less a b h = grind (arith, nat_tests)

put_rise : (s : EntryStamp) (low : ℕ) (ts : List EntryStamp) → low ≤ s.at → Rise low ts → Rise low (put s ts)
put_rise s low [] le h = (le, tt)
put_rise s low (t ∷ ts) le h = elim (cases_Bool (nat_lt s.at t.at)) [
  | inl before ↦ rw before (le, (less s.at t.at before, h.1))
  | inr behind ↦ rw behind (h.0, put_rise s t.at ts (not_less s.at t.at behind) h.1)
]

planned_rise : (opens : Bool) (role : Role) (o : Option (Stamp × Span)) (ts : List EntryStamp) → Rise 0 ts → Rise 0 (with_planned opens role o ts)
planned_rise opens role None ts h = h
planned_rise opens role (Some found) ts h =
    elim (found.0.active) as (λ b. Rise 0 (if b then put (stamp_at opens role found.1.at found.0) ts else ts))
    [ true ↦ put_rise (stamp_at opens role found.1.at found.0) 0 ts (omega arith) h | false ↦ h ]

line_rise : (opens : Bool) (o : Option Planning) (ts : List EntryStamp) → Rise 0 ts → Rise 0 (with_planning opens o ts)
line_rise opens None ts h = h
line_rise opens (Some p) ts h = planned_rise opens Deadline p.deadline (with_planned opens Scheduled p.scheduled ts) (planned_rise opens Scheduled p.scheduled ts h)

pub stamps_rise : StampsRise
stamps_rise settings section opens =
    let e = entry_of settings section in
    line_rise opens (entry_planning e) (plain_stamps opens e.details.stamps)
    (plain_rise opens 0 (0 + size (lines section)) e.details.stamps (lines_between settings 0 (lines section) (section_classes section)))
