-- What a heading has in pieces of a period.
use Rattle.std.proofs.Common.{◌≡◌, ◌∙◌, ℕ, zero, suc, ◌+◌, ◌≤◌, Bool, true, false, if◌then◌else◌, ◌&&◌, is_some, List, [], ◌∷◌, length, refl, ap, arith}
use Rattle.std.specs.List.{sum_by}
use Rattle.std.proofs.lemmas.List.Sums.{sum_by-cons}
use Rattle.org_cal.specs.Pieces.{AreJoined}
use Rattle.org_drawer.proofs.ClockLemmas.{pieces_make_the_whole as clock_pieces}
use Rattle.org_drawer.specs.Clock.{minutes_in}
use Rattle.org_drawer.specs.declared.clock.ClockLine.{ClockLine}
use Rattle.org_entry.specs.declared.entry.Entry.{Entry}
use Rattle.org_outline.specs.Levels.{level_of}
use Rattle.org_sum.specs.Laws.{PiecesMakeTheWhole}
use Rattle.org_sum.specs.Measures.{clock_minutes, minutes_of}
use Rattle.org_sum.specs.Sums.{own_at, sum_below}

-- a sum of nothing, and of two things
sum_zero : {X : Type 0} (xs : List X) → sum_by (λ x. 0) xs ≡ 0
sum_zero [] = refl
sum_zero (x ∷ xs) = omega (arith, sum_by-cons (λ x. 0) x xs, sum_zero xs)

sum_both : {X : Type 0} (f g : X → ℕ) (xs : List X) → sum_by (λ x. f x + g x) xs ≡ sum_by f xs + sum_by g xs
sum_both f g [] = refl
sum_both f g (x ∷ xs) = omega (arith, sum_by-cons (λ x. f x + g x) x xs, sum_by-cons f x xs, sum_by-cons g x xs, sum_both f g xs)

sum_same : {X : Type 0} (f g : X → ℕ) (xs : List X) → ((x : X) → f x ≡ g x) → sum_by f xs ≡ sum_by g xs
sum_same f g [] h = refl
sum_same f g (x ∷ xs) h = omega (arith, sum_by-cons f x xs, sum_by-cons g x xs, sum_same f g xs h, h x)

sum_if : {X : Type 0} (b : Bool) (f : X → ℕ) (xs : List X) → sum_by (λ x. if b then f x else 0) xs ≡ (if b then sum_by f xs else 0)
sum_if true f xs = refl
sum_if false f xs = sum_zero xs

clocks : (first last : ℕ) (ps : List (ℕ × ℕ)) (cs : List ClockLine) → 1 ≤ first → AreJoined first ps last →
    sum_by (λ p. minutes_of p cs) ps ≡ minutes_of (first, last) cs
clocks first last ps [] one joined = sum_zero ps
clocks first last ps (c ∷ cs) one joined =
    sum_same (λ p. minutes_of p (c ∷ cs)) (λ p. minutes_in c p + minutes_of p cs) ps (λ p. sum_by-cons (λ (d : ClockLine). minutes_in d p) c cs)
    ∙ omega (
      arith,
      sum_both (λ p. minutes_in c p) (λ p. minutes_of p cs) ps,
      clock_pieces c first last ps one joined,
      clocks first last ps cs one joined,
      sum_by-cons (λ (d : ClockLine). minutes_in d (first, last)) c cs,
    )

entry : (first last : ℕ) (ps : List (ℕ × ℕ)) (e : Entry) → 1 ≤ first → AreJoined first ps last → sum_by (λ p. clock_minutes p e) ps ≡ clock_minutes (first, last) e
unfolding clock_minutes
entry first last ps e one joined = clocks first last ps e.details.clocks one joined

at_place : (first last : ℕ) (ps : List (ℕ × ℕ)) (es : List Entry) (cs : List Bool) (j : ℕ) → 1 ≤ first → AreJoined first ps last →
    sum_by (λ p. own_at (clock_minutes p) es cs j) ps ≡ own_at (clock_minutes (first, last)) es cs j
at_place first last ps [] cs j one joined = sum_zero ps
at_place first last ps (e ∷ es) [] j one joined = sum_zero ps
at_place first last ps (e ∷ es) (c ∷ cs) zero one joined =
    sum_if (is_some (level_of e) && c) (λ p. clock_minutes p e) ps ∙ ap (λ n. if is_some (level_of e) && c then n else 0) (entry first last ps e one joined)
at_place first last ps (e ∷ es) (c ∷ cs) (suc j) one joined = at_place first last ps es cs j one joined

below : (test : ℕ → Bool) (first last : ℕ) (ps : List (ℕ × ℕ)) (es : List Entry) (cs : List Bool) (n : ℕ) → 1 ≤ first → AreJoined first ps last →
    sum_by (λ p. sum_below (λ j. if test j then own_at (clock_minutes p) es cs j else 0) n) ps
    ≡ sum_below (λ j. if test j then own_at (clock_minutes (first, last)) es cs j else 0) n
below test first last ps es cs zero one joined = sum_zero ps
below test first last ps es cs (suc n) one joined =
    sum_both (λ p. sum_below (λ j. if test j then own_at (clock_minutes p) es cs j else 0) n) (λ p. if test n then own_at (clock_minutes p) es cs n else 0) ps
    ∙ omega (
      arith,
      below test first last ps es cs n one joined,
      sum_if (test n) (λ p. own_at (clock_minutes p) es cs n) ps,
      ap (λ v. if test n then v else 0) (at_place first last ps es cs n one joined),
    )

pub pieces_make_the_whole : PiecesMakeTheWhole
pieces_make_the_whole first last ps es counted i one joined = below _ first last ps es counted (length es) one joined
