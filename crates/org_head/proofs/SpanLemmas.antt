-- One more byte between colons.
use Rattle.std.proofs.Common.{◌≡◌, ℕ, ◌+◌, ◌-◌, ◌<◌, ◌≤◌, true, false, cond, ◌==◌, List, ◌++◌, length, drop, get_or, ap, ◌∙◌, arith}
use Rattle.std.proofs.lemmas.List.{drop_more, drop_all}
use Rattle.org_head.specs.Tags.{span, spans_from}
use Rattle.org_base.specs.declared.span.Span.{Span}

-- the parts so far, and those of the bytes from the place i on, after an open part from start on
abbrev pub spans_left : ℕ → ℕ → ℕ → List ℕ → List Span
spans_left at start i t = spans_from (at + start) (i - start) (drop i t)

pub at_colon : (at start i : ℕ) (t : List ℕ) → start ≤ i → i < length t → (get_or t i 0 == 58) ≡ true → spans_left at start i t ≡ span (at + start) (i - start) ++ spans_left at (i + 1) (i + 1) t
at_colon at start i t h inside e =
    let place : at + start + (i - start) + 1 ≡ at + (i + 1) = omega arith in
    let none : 0 ≡ i + 1 - (i + 1) = omega arith in
    ap (spans_from (at + start) (i - start)) (drop_more t i 0 inside)
    ∙ ap (λ c. cond c (span (at + start) (i - start) ++ spans_from (at + start + (i - start) + 1) 0 (drop (i + 1) t)) (spans_from (at + start) (i - start + 1) (drop (i + 1) t))) e
    ∙ ap (λ p. span (at + start) (i - start) ++ spans_from p 0 (drop (i + 1) t)) place
    ∙ ap (λ n. span (at + start) (i - start) ++ spans_from (at + (i + 1)) n (drop (i + 1) t)) none

pub at_other : (at start i : ℕ) (t : List ℕ) → start ≤ i → i < length t → (get_or t i 0 == 58) ≡ false → spans_left at start i t ≡ spans_left at start (i + 1) t
at_other at start i t h inside e =
    let count : i - start + 1 ≡ i + 1 - start = omega arith in
    ap (spans_from (at + start) (i - start)) (drop_more t i 0 inside)
    ∙ ap (λ c. cond c (span (at + start) (i - start) ++ spans_from (at + start + (i - start) + 1) 0 (drop (i + 1) t)) (spans_from (at + start) (i - start + 1) (drop (i + 1) t))) e
    ∙ ap (λ n. spans_from (at + start) n (drop (i + 1) t)) count

pub at_end : (at start i : ℕ) (t : List ℕ) → length t ≤ i → spans_left at start i t ≡ span (at + start) (i - start)
at_end at start i t h = ap (spans_from (at + start) (i - start)) (drop_all i t h)
