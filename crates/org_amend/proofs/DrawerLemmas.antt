-- The drawer that is found among lines, and where its opening line stands.
use Rattle.std.proofs.Common.{◌≡◌, ◌≤◌, ◌∙◌, ℕ, ◌+◌, inl, inr, true, ◌&&◌, ◌==◌, List, [], ◌∷◌, ◌++◌, length, refl, sym, ap, arith, length-append}
use Rattle.std.specs.Prelude.{Option, Some, None, nat_lt, slice_get}
use Rattle.std.specs.List.{concat}
use Rattle.std.proofs.lemmas.Bool.{and_parts, cases_Bool, eqb-true}
use Rattle.std.proofs.lemmas.List.Folds.{concat-append}
use Rattle.org_amend.specs.Cancelled.{LiesIn, emptied_part}
use Rattle.org_amend.specs.Places.{drawer_from, opened, opens}
use Rattle.org_amend.specs.Within.{IsWithin, LiesInside}
use Rattle.org_amend.specs.declared.place.DrawerName.{DrawerName}
use Rattle.org_amend.specs.declared.running.RunningClock.{RunningClock}
use Rattle.org_base.specs.declared.span.Span.{Span}
use Rattle.org_class.specs.Drawers.{is_drawer_end}
use Rattle.org_class.specs.declared.class.Class.{Class}
use Rattle.org_class.specs.declared.class.Class.TheVariants.{Heading, Planning, DrawerOpen, Node, DrawerEnd, Clock, Setting, Comment, BlockOpen, Verbatim, BlockEnd, Plain}

-- the opening line, and the lines before and behind it
pub record IsDrawer (name : DrawerName) (cs : List Class) (place at : ℕ) (ls : List (List ℕ)) (d : Span) : Type 0 where
  pub before : List (List ℕ)
  pub line : List ℕ
  pub after : List (List ℕ)
  pub lines_are : ls ≡ before ++ line ∷ after
  pub class_is : slice_get cs (place + length before) ≡ Some Plain
  pub opens_so : opens name line ≡ true
  pub at_is : d.at ≡ at + length (concat before)
  pub len_is : d.len ≡ length line

-- what a line opens

record IsOpened (name : DrawerName) (class : Option Class) (at : ℕ) (l : List ℕ) (d : Span) : Type 0 where
  class_is : class ≡ Some Plain
  opens_so : opens name l ≡ true
  is : d ≡ record { at = at; len = length l }

opened_is : (name : DrawerName) (class : Option Class) (at : ℕ) (l : List ℕ) (d : Span) → opened name class at l ≡ Some d → IsOpened name class at l d
opened_is name None at l d e = absurd cc
opened_is name (Some Plain) at l d e = elim (cases_Bool (opens name l)) [
  | inl o ↦ (let same : ◌≡◌ {A = Option Span} (Some (record { at = at; len = length l })) (Some d) = rw o at e in record { class_is = refl; opens_so = o; is = cc })
  | inr o ↦ absurd (let wrong : ◌≡◌ {A = Option Span} None (Some d) = rw o at e in cc)
]
opened_is name (Some Heading) at l d e = absurd cc
opened_is name (Some Planning) at l d e = absurd cc
opened_is name (Some DrawerOpen) at l d e = absurd cc
opened_is name (Some Node) at l d e = absurd cc
opened_is name (Some DrawerEnd) at l d e = absurd cc
opened_is name (Some Clock) at l d e = absurd cc
opened_is name (Some Setting) at l d e = absurd cc
opened_is name (Some Comment) at l d e = absurd cc
opened_is name (Some BlockOpen) at l d e = absurd cc
opened_is name (Some Verbatim) at l d e = absurd cc
opened_is name (Some BlockEnd) at l d e = absurd cc

-- a drawer that is open is the one that is found
open_stays : (name : DrawerName) (found d : Span) (cs : List Class) (place at : ℕ) (ls : List (List ℕ)) → drawer_from name (Some found) cs place at ls ≡ Some d → d ≡ found
unfolding drawer_from
open_stays name found d cs place at [] e = absurd cc
open_stays name found d cs place at (l ∷ ls) e = elim (cases_Bool (is_drawer_end l)) [
  | inl ends ↦ (let same : ◌≡◌ {A = Option Span} (Some found) (Some d) = rw ends at e in cc)
  | inr other ↦ open_stays name found d cs (place + 1) (at + length l) ls (rw other at e)
]

here : (name : DrawerName) (cs : List Class) (place at : ℕ) (l : List ℕ) (ls : List (List ℕ)) (d : Span) → IsOpened name (slice_get cs place) at l d → IsDrawer name cs place at (l ∷ ls) d
here name cs place at l ls d o =
    let same : place + 0 ≡ place = omega arith in
    let from : at ≡ at + 0 = omega arith in
    record {
      before = [];
      line = l;
      after = ls;
      lines_are = refl;
      class_is = ap (slice_get cs) same ∙ o.class_is;
      opens_so = o.opens_so;
      at_is = ap (λ (s : Span). s.at) o.is ∙ from;
      len_is = ap (λ (s : Span). s.len) o.is;
    }

there : (name : DrawerName) (cs : List Class) (place at : ℕ) (l : List ℕ) (ls : List (List ℕ)) (d : Span) → IsDrawer name cs (place + 1) (at + length l) ls d → IsDrawer name cs place at (l ∷ ls) d
there name cs place at l ls d h =
    let size : length (concat (l ∷ h.before)) ≡ length l + length (concat h.before) = length-append l (concat h.before) in
    let count : place + length (l ∷ h.before) ≡ place + 1 + length h.before = omega arith in
    let from : at + length l + length (concat h.before) ≡ at + length (concat (l ∷ h.before)) = omega (arith, size) in
    record {
      before = l ∷ h.before;
      line = h.line;
      after = h.after;
      lines_are = ap (λ xs. l ∷ xs) h.lines_are;
      class_is = ap (slice_get cs) count ∙ h.class_is;
      opens_so = h.opens_so;
      at_is = h.at_is ∙ from;
      len_is = h.len_is;
    }

here_or_there : (name : DrawerName) (cs : List Class) (place at : ℕ) (l : List ℕ) (ls : List (List ℕ)) (d : Span) →
    (drawer_from name None cs (place + 1) (at + length l) ls ≡ Some d → IsDrawer name cs (place + 1) (at + length l) ls d) →
    (o : Option Span) → opened name (slice_get cs place) at l ≡ o → drawer_from name o cs (place + 1) (at + length l) ls ≡ Some d → IsDrawer name cs place at (l ∷ ls) d
here_or_there name cs place at l ls d later None was e = there name cs place at l ls d (later e)
here_or_there name cs place at l ls d later (Some s) was e =
    let same = open_stays name s d cs (place + 1) (at + length l) ls e in
    here name cs place at l ls d (opened_is name (slice_get cs place) at l d (was ∙ ap Some (sym same)))

-- the drawer that is found stands there
pub drawer_found : (name : DrawerName) (cs : List Class) (place at : ℕ) (ls : List (List ℕ)) (d : Span) → drawer_from name None cs place at ls ≡ Some d → IsDrawer name cs place at ls d
unfolding drawer_from
drawer_found name cs place at [] d e = absurd cc
drawer_found name cs place at (l ∷ ls) d e =
    here_or_there name cs place at l ls d (λ later. drawer_found name cs (place + 1) (at + length l) ls d later) (opened name (slice_get cs place) at l) refl e

-- it lies within the lines

pub found_within : (name : DrawerName) (cs : List Class) (place : ℕ) (section : Span) (ls : List (List ℕ)) (found : Option Span) → section.at + length (concat ls) ≤ section.at + section.len →
    drawer_from name None cs place section.at ls ≡ found → LiesInside section found
found_within name cs place section ls None ends e = tt
found_within name cs place section ls (Some d) ends e =
    let h = drawer_found name cs place section.at ls d e in
    let whole : length (concat ls) ≡ length (concat h.before) + (length h.line + length (concat h.after)) =
    ap (λ (x : List (List ℕ)). length (concat x)) h.lines_are ∙ (ap length (concat-append h.before (h.line ∷ h.after)) ∙ simp length-append) in
    (omega (arith, h.at_is), omega (arith, h.at_is, h.len_is, whole, ends))

-- so do the lines that go
pub emptied_within : (section : Span) (found : Option Span) (clock : RunningClock) (closing : ℕ) → LiesInside section found → IsWithin section clock →
    clock.at + clock.len + closing ≤ section.at + section.len → LiesIn section (emptied_part found clock closing)
emptied_within section None clock closing inside is ends = (is.low, is.high)
emptied_within section (Some d) clock closing inside is ends = elim (cases_Bool ((d.at + d.len == clock.at) && nat_lt 0 closing)) [
  | inr other ↦ rw other (is.low, is.high)
  | inl both ↦
      let same : d.at + d.len ≡ clock.at = eqb-true (d.at + d.len) clock.at (and_parts (d.at + d.len == clock.at) (nat_lt 0 closing) both).0 in
      rw both (inside.0, omega (arith, same, ends))
]
