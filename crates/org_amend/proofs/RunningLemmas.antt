-- The first running clock, line by line.
use Rattle.std.proofs.Common.{◌≡◌, ℕ, ◌+◌, List, [], ◌∷◌, length, map, refl, sym, subst, ◌∙◌, ap, arith, length-append}
use Rattle.std.specs.Prelude.{Option, Some, None, slice_get}
use Rattle.std.specs.List.{concat}
use Rattle.org_amend.specs.Clocks.{first_running, or_later, running_line, running_of, since, stamp_end}
use Rattle.org_amend.specs.Laws.{FoundClocksRun, IsFirst}
use Rattle.org_amend.specs.declared.running.RunningClock.{RunningClock}
use Rattle.org_class.specs.declared.class.Class.{Class}
use Rattle.org_class.specs.declared.class.Class.TheVariants.{Heading, Planning, DrawerOpen, Node, DrawerEnd, Clock, Setting, Comment, BlockOpen, Verbatim, BlockEnd, Plain}
use Rattle.org_stamp.proofs.SpelledMarkLemmas.{mapped}
use Rattle.org_lines.specs.Cuts.{Cut}

abbrev pub bytes_of : List Cut → List (List ℕ)
bytes_of cuts = map (λ (c : Cut). c.bytes) cuts

-- one line fewer
pub length_more : (cuts later : List Cut) (cut : Cut) (l : List ℕ) → cuts ≡ cut ∷ later → l ≡ cut.bytes →
    length (concat (bytes_of cuts)) ≡ length l + length (concat (bytes_of later))
length_more cuts later cut l steps is =
    ap (λ (c : List Cut). length (concat (bytes_of c))) steps ∙ (length-append cut.bytes (concat (bytes_of later)) ∙ ap (λ (b : List ℕ). length b + length (concat (bytes_of later))) (sym is))

-- a line of class Clock whose clock runs

running_is : (class : Option Class) (at : ℕ) (l : List ℕ) (r : RunningClock) → running_of class at l ≡ Some r → (class ≡ Some Clock) × (running_line at l ≡ Some r)
running_is None at l r e = absurd cc
running_is (Some Clock) at l r e = (refl, e)
running_is (Some Heading) at l r e = absurd cc
running_is (Some Planning) at l r e = absurd cc
running_is (Some DrawerOpen) at l r e = absurd cc
running_is (Some Node) at l r e = absurd cc
running_is (Some DrawerEnd) at l r e = absurd cc
running_is (Some Setting) at l r e = absurd cc
running_is (Some Comment) at l r e = absurd cc
running_is (Some BlockOpen) at l r e = absurd cc
running_is (Some Verbatim) at l r e = absurd cc
running_is (Some BlockEnd) at l r e = absurd cc
running_is (Some Plain) at l r e = absurd cc

-- what is said of it
record IsRunning (at : ℕ) (l : List ℕ) (r : RunningClock) : Type 0 where
  pub runs : since l ≡ Some r.from
  pub at_is : r.at ≡ at
  pub len_is : r.len ≡ length l
  pub end_is : r.end ≡ r.at + stamp_end l

line_runs : (at : ℕ) (l : List ℕ) (r : RunningClock) → running_line at l ≡ Some r → IsRunning at l r
line_runs at l r e = mapped _ (since l) r e (λ from was made. subst (IsRunning at l) made (record { runs = was; at_is = refl; len_is = refl; end_is = refl }))

-- the first line runs
here : (cs : List Class) (place at : ℕ) (l : List ℕ) (ls : List (List ℕ)) (r : RunningClock) → running_of (slice_get cs place) at l ≡ Some r → IsFirst cs place at (l ∷ ls) r
unfolding first_running
here cs place at l ls r e =
    let is = running_is (slice_get cs place) at l r e in
    let h = line_runs at l r is.1 in
    let same : place + 0 ≡ place = omega arith in
    let from : at ≡ at + 0 = omega arith in
    record {
      before = [];
      line = l;
      after = ls;
      lines_are = refl;
      none_before = refl;
      class_is = ap (slice_get cs) same ∙ is.0;
      runs = h.runs;
      at_is = h.at_is ∙ from;
      len_is = h.len_is;
      end_is = h.end_is;
    }

-- a later one does
there : (cs : List Class) (place at : ℕ) (l : List ℕ) (ls : List (List ℕ)) (r : RunningClock) → running_of (slice_get cs place) at l ≡ None →
    IsFirst cs (place + 1) (at + length l) ls r → IsFirst cs place at (l ∷ ls) r
unfolding first_running
there cs place at l ls r none h =
    let size : length (concat (l ∷ h.before)) ≡ length l + length (concat h.before) = length-append l (concat h.before) in
    let count : place + length (l ∷ h.before) ≡ place + 1 + length h.before = omega arith in
    let from : at + length l + length (concat h.before) ≡ at + length (concat (l ∷ h.before)) = omega (arith, size) in
    record {
      before = l ∷ h.before;
      line = h.line;
      after = h.after;
      lines_are = ap (λ xs. l ∷ xs) h.lines_are;
      none_before = ap (λ o. or_later o (first_running cs (place + 1) (at + length l) h.before)) none ∙ h.none_before;
      class_is = ap (slice_get cs) count ∙ h.class_is;
      runs = h.runs;
      at_is = h.at_is ∙ from;
      len_is = h.len_is;
      end_is = h.end_is;
    }

first_or_later : (cs : List Class) (place at : ℕ) (l : List ℕ) (ls : List (List ℕ)) (r : RunningClock) →
    (first_running cs (place + 1) (at + length l) ls ≡ Some r → IsFirst cs (place + 1) (at + length l) ls r) →
    (o : Option RunningClock) → running_of (slice_get cs place) at l ≡ o → or_later o (first_running cs (place + 1) (at + length l) ls) ≡ Some r → IsFirst cs place at (l ∷ ls) r
first_or_later cs place at l ls r later None none e = there cs place at l ls r none (later e)
first_or_later cs place at l ls r later (Some found) some same = here cs place at l ls r (some ∙ same)

pub found_clocks_run : FoundClocksRun
unfolding first_running
found_clocks_run cs place at [] r e = absurd cc
found_clocks_run cs place at (l ∷ ls) r e = first_or_later cs place at l ls r (found_clocks_run cs (place + 1) (at + length l) ls r) (running_of (slice_get cs place) at l) refl e
