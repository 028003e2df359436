-- What one more day adds to those that are shown.
use Rattle.std.proofs.Common.{◌≡◌, ◌∙◌, ℕ, zero, suc, ◌+◌, List, ◌++◌, ap, sym, arith, append-nil, append_assoc}
use Rattle.std.specs.List.{flat_map, range_with_len}
use Rattle.org_client.specs.declared.next.Upcoming.{Upcoming}
use Rattle.org_answer.specs.Ahead.{lines_of_days, lines_under, rows_on}

one_more : {X : Type 0} (f : ℕ → List X) (first n : ℕ) → flat_map f (range_with_len first (suc n)) ≡ flat_map f (range_with_len first n) ++ f (first + n)
one_more f first zero = let here : first ≡ first + zero = omega arith in append-nil (f first) ∙ ap f here
one_more f first (suc n) =
    let here : first + 1 + n ≡ first + suc n = omega arith in
    let others = flat_map f (range_with_len (first + 1) n) in
    ap (λ l. f first ++ l) (one_more f (first + 1) n ∙ ap (λ k. others ++ f k) here) ∙ sym (append_assoc (f first) others (f (first + suc n)))

next_number : (n : ℕ) → n + 1 ≡ suc n
next_number n = omega arith

pub adds_lines : (all : List Upcoming) (first n : ℕ) → lines_of_days all first (n + 1) ≡ lines_of_days all first n ++ lines_under (first + n) (rows_on all (first + n))
adds_lines all first n = ap (lines_of_days all first) (next_number n) ∙ one_more (λ day. lines_under day (rows_on all day)) first n
