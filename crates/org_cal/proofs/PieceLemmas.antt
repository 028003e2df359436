-- Pieces of a period.
use Rattle.std.proofs.Common.{◌≡◌, ℕ, zero, suc, ◌+◌, ◌-◌, ◌/◌, ◌<◌, ◌≤◌, true, false, nat_lt, length, [], ◌∷◌, inl, inr, refl, sym, ◌∙◌, ap, arith}
use Rattle.std.proofs.lemmas.Bool.{cases_lt}
use Rattle.std.proofs.lemmas.Bool.Decides.{nat_tests}
use Rattle.org_cal.specs.declared.steps.Step.{Step}
use Rattle.org_cal.specs.declared.steps.Step.TheVariants.{Whole, Day, Week}
use Rattle.org_cal.specs.Pieces.{piece_end, cut_from, pieces, IsPiece, AreCut}
use Rattle.org_cal.specs.Weeks.{monday_of}

-- a piece ends between its first day and the last of the period
end_bounds : (step : Step) (last first : ℕ) → first ≤ last → (first ≤ piece_end step last first) × (piece_end step last first ≤ last)
end_bounds Whole last first h = (h, omega arith)
end_bounds Day last first h = (omega arith, h)
end_bounds Week last first h = (omega arith, omega arith)

cut_none : (n : ℕ) (step : Step) (last first : ℕ) → last < first → cut_from n step last first ≡ []
unfolding cut_from
cut_none zero step last first h = refl
cut_none (suc n) step last first h = let e : nat_lt last first ≡ true = grind (arith, nat_tests) in rw e refl

cut_some : (n : ℕ) (step : Step) (last first : ℕ) → first ≤ last → cut_from (suc n) step last first ≡ (first, piece_end step last first) ∷ cut_from n step last (piece_end step last first + 1)
unfolding cut_from
cut_some n step last first h = let e : nat_lt last first ≡ false = grind (arith, nat_tests) in rw e refl

-- more than enough pieces are enough
enough : (n m : ℕ) (step : Step) (last first : ℕ) → last + 1 ≤ first + n → last + 1 ≤ first + m → cut_from n step last first ≡ cut_from m step last first
enough zero m step last first h k = cut_none zero step last first (omega arith) ∙ sym (cut_none m step last first (omega arith))
enough (suc n) zero step last first h k = cut_none (suc n) step last first (omega arith) ∙ sym (cut_none zero step last first (omega arith))
enough (suc n) (suc m) step last first h k =
    elim (cases_lt last first) [
      | inl a ↦ cut_none (suc n) step last first a ∙ sym (cut_none (suc m) step last first a)
      | inr a ↦
          let ends = end_bounds step last first a in
          let rest = enough n m step last (piece_end step last first + 1) (omega (arith, ends)) (omega (arith, ends)) in
          cut_some n step last first a ∙ (ap (λ ps. (first, piece_end step last first) ∷ ps) rest ∙ sym (cut_some m step last first a))
    ]

pub pieces_none : (step : Step) (last first : ℕ) → last < first → pieces step last first ≡ []
pieces_none step last first h = cut_none (last + 1 - first) step last first h

pub pieces_some : (step : Step) (last first : ℕ) → first ≤ last → pieces step last first ≡ (first, piece_end step last first) ∷ pieces step last (piece_end step last first + 1)
pieces_some step last first h =
    let ends = end_bounds step last first h in
    enough (last + 1 - first) (suc (last - first)) step last first (omega arith) (omega arith)
    ∙ (cut_some (last - first) step last first h
    ∙ ap (λ ps. (first, piece_end step last first) ∷ ps) (enough (last - first) (last + 1 - (piece_end step last first + 1)) step last (piece_end step last first + 1) (omega (arith, ends)) (omega (arith, ends))))

-- each piece is what its step asks
is_piece : (step : Step) (last first : ℕ) → 1 ≤ first → first ≤ last → IsPiece step last (first, piece_end step last first)
is_piece Whole last first one h = refl
is_piece Day last first one h = refl
is_piece Week last first one h = (
  λ day after before. omega (arith, after, before, one),
  elim (cases_lt last (monday_of first + 6)) [
    | inl a ↦ inl (omega (arith, a))
    | inr a ↦ inr (omega (arith, a, one))
  ],
)

cut_is : (n : ℕ) (step : Step) (last first : ℕ) → 1 ≤ first → first ≤ last + 1 → last + 1 ≤ first + n → AreCut step first last (cut_from n step last first)
unfolding cut_from
cut_is zero step last first one low enough_n = record { joined = omega arith; each = tt }
cut_is (suc n) step last first one low enough_n =
    elim (cases_lt last first) [
      | inl a ↦
          let e : nat_lt last first ≡ true = grind (arith, nat_tests, a) in
          rw e (record { joined = omega (arith, a); each = tt })
      | inr a ↦
          let e : nat_lt last first ≡ false = grind (arith, nat_tests, a) in
          let ends = end_bounds step last first a in
          let rest = cut_is n step last (piece_end step last first + 1) (omega arith) (omega (arith, ends)) (omega (arith, ends)) in
          rw e (record { joined = (refl, ends.0, rest.joined); each = (is_piece step last first one a, rest.each) })
    ]

-- the pieces of a period are its cut
pub pieces_are_cut : (step : Step) (last first : ℕ) → 1 ≤ first → first ≤ last → AreCut step first last (pieces step last first)
pieces_are_cut step last first one h = cut_is (last + 1 - first) step last first one (omega arith) (omega arith)

-- how many pieces a step makes of the days from the first to the last
abbrev pub count_of : Step → ℕ → ℕ → ℕ
count_of Whole last first = 1
count_of Day last first = last + 1 - first
count_of Week last first = (last + 6) / 7 - (first + 6) / 7 + 1

-- a piece counts one, and the rest what is left
count_more : (step : Step) (last first : ℕ) → 1 ≤ first → piece_end step last first < last → first ≤ last → count_of step last first ≡ 1 + count_of step last (piece_end step last first + 1)
count_more Whole last first one lt h = absurd (omega (arith, lt))
count_more Day last first one lt h = omega (arith, lt, h)
count_more Week last first one lt h = omega (arith, lt, h, one)

count_last : (step : Step) (last first : ℕ) → 1 ≤ first → last ≤ piece_end step last first → first ≤ last → count_of step last first ≡ 1
count_last Whole last first one le h = refl
count_last Day last first one le h = omega (arith, le, h)
count_last Week last first one le h = omega (arith, le, h, one)

length_cut : (n : ℕ) (step : Step) (last first : ℕ) → 1 ≤ first → first ≤ last → last + 1 ≤ first + n → length (cut_from n step last first) ≡ count_of step last first
length_cut zero step last first one h k = absurd (omega (arith, h, k))
length_cut (suc n) step last first one h k =
    let ends = end_bounds step last first h in
    let some = ap length (cut_some n step last first h) in
    elim (cases_lt (piece_end step last first) last) [
      | inl a ↦ omega (arith, some, length_cut n step last (piece_end step last first + 1) (omega arith) (omega (arith, a)) (omega (arith, ends, k)), count_more step last first one a h)
      | inr a ↦ omega (arith, some, ap length (cut_none n step last (piece_end step last first + 1) (omega (arith, a))), count_last step last first one a h)
    ]

pub length_pieces : (step : Step) (last first : ℕ) → 1 ≤ first → first ≤ last → length (pieces step last first) ≡ count_of step last first
length_pieces step last first one h = length_cut (last + 1 - first) step last first one h (omega arith)
