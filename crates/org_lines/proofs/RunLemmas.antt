-- The first line of a span, and the rest, in what a text lends.
use Rattle.std.proofs.Common.{◌≡◌, ℕ, ◌+◌, ◌-◌, ◌<◌, ◌≤◌, List, ◌∷◌, length, nat_le, take, drop, slice_index, sym, ap, ◌∙◌, arith, length-take, length-drop}
use Rattle.std.specs.List.{slice_range}
use Rattle.std.proofs.lemmas.List.{drop-drop, take-take, drop-take, get_or-take, get_or-drop}
use Rattle.org_base.specs.declared.span.Span.{Span}
use Rattle.org_lines.specs.Runs.{EndsIn, EndsLine, IsFirstLine, IsRun, behind}
use Rattle.org_lines.specs.Cuts.{Cut, cuts, lines}
use Rattle.org_lines.proofs.LineLemmas.{cuts_view, range_is}

-- what is lent is no longer than the run, and than the span
pub run_fits : (run_len : ℕ → ℕ) (c : List ℕ) (span : Span) (run : List ℕ) → IsRun run_len c span run → length run ≤ span.len
run_fits run_len c span run is = let l = is.len in omega arith

pub run_within : (run_len : ℕ → ℕ) (c : List ℕ) (span : Span) (run : List ℕ) → IsRun run_len c span run → length run ≤ run_len span.at
run_within run_len c span run is = let l = is.len in omega arith

-- a run that reaches as far as the span is its bytes; one that doesn't ends where the text lends no more
pub whole_run : (run_len : ℕ → ℕ) (c : List ℕ) (span : Span) (run : List ℕ) → IsRun run_len c span run → span.len ≤ length run → run ≡ slice_range c span.at (span.at + span.len)
whole_run run_len c span run is long =
    let count : length run ≡ span.len = omega (arith, run_fits run_len c span run is, long) in
    is.bytes ∙ ap (λ n. take n (drop span.at c)) count ∙ sym (range_is c span.at span.len)

pub short_run : (run_len : ℕ → ℕ) (c : List ℕ) (span : Span) (run : List ℕ) → IsRun run_len c span run → length run < span.len → run_len span.at < span.len
short_run run_len c span run is short = let l = is.len in omega arith

-- the rest of a run is the run of the rest
pub run_rest : (run_len : ℕ → ℕ) (c : List ℕ) (span : Span) (run : List ℕ) (n : ℕ) → IsRun run_len c span run → n < length run → IsRun run_len c (behind span n) (take (length run - n) (drop n run))
run_rest run_len c span run n is lt =
    let l = is.len in
    let all : ℕ = length run in
    let rest : List ℕ = take (all - n) (drop n run) in
    let size : length rest ≡ all - n = omega (arith, length-take (all - n) (drop n run), length-drop n run) in
    let later : run_len (span.at + n) ≡ run_len span.at - n = is.goes_on n (omega arith) (omega arith) in
    let split : all ≡ n + (all - n) = omega arith in
    let moved : drop n run ≡ take (all - n) (drop (span.at + n) c) =
    ap (drop n) is.bytes ∙ (ap (λ m. drop n (take m (drop span.at c))) split ∙ (drop-take n (all - n) (drop span.at c) ∙ ap (take (all - n)) (drop-drop n span.at c))) in
    record {
      len = omega arith;
      bytes = ap (take (all - n)) moved ∙ (take-take (all - n) (all - n) (drop (span.at + n) c) (omega arith) ∙ ap (λ m. take m (drop (span.at + n) c)) (sym size));
      goes_on = λ k in_span h.
          let sum : span.at + n + k ≡ span.at + (n + k) = omega arith in
          let whole : run_len (span.at + (n + k)) ≡ run_len span.at - (n + k) = is.goes_on (n + k) (omega arith) (omega arith) in
          ap run_len sum ∙ (whole ∙ omega arith);
    }

-- a byte of a run is one of the text
run_at : (run_len : ℕ → ℕ) (c : List ℕ) (span : Span) (run : List ℕ) (k : ℕ) → IsRun run_len c span run → k < length run → slice_index run k ≡ slice_index c (span.at + k)
run_at run_len c span run k is lt =
    ap (λ xs. slice_index xs k) is.bytes ∙ (get_or-take (length run) (drop span.at c) k 0 lt ∙ get_or-drop span.at c k 0)

-- a line that ends in a run is the first of the span
pub line_in_run : (run_len : ℕ → ℕ) (c : List ℕ) (span : Span) (run : List ℕ) (n : ℕ) → IsRun run_len c span run → EndsIn run span.len n → IsFirstLine c span (take n run)
line_in_run run_len c span run n is e =
    let w = e.within in
    let fits = run_fits run_len c span run is in
    let size : length (take n run) ≡ n = omega (arith, length-take n run) in
    record {
      bytes =
          ap (take n) is.bytes ∙ (take-take n (length run) (drop span.at c) w ∙ (sym (range_is c span.at n) ∙ ap (λ m. slice_range c span.at (span.at + m)) (sym size)));
      ends = record {
        some = let s = e.some in omega arith;
        within = omega arith;
        one = λ k lo hi same.
            let place : span.at + (k - span.at) ≡ k = omega arith in
            e.one (k - span.at) (omega arith) (run_at run_len c span run (k - span.at) is (omega arith) ∙ (ap (λ i. slice_index c i) place ∙ same));
        ends = λ more.
            let place : span.at + (n - 1) ≡ span.at + length (take n run) - 1 = let s = e.some in omega arith in
            sym (ap (λ i. slice_index c i) place) ∙ (sym (run_at run_len c span run (n - 1) is (let s = e.some in omega arith)) ∙ e.ends (omega arith));
      };
    }

-- what an iterator shows where the first line of its span is known, and what is left after it
pub first_cut : (run_len : ℕ → ℕ) (c : List ℕ) (span left : Span) (n m : ℕ) (shown : List Cut) →
    cuts run_len span.at (lines (slice_range c span.at (span.at + span.len))) ≡ shown → span.at + span.len ≤ length c → EndsLine c span n → n ≡ m → left ≡ behind span m →
    shown ≡ record { at = span.at; bytes = slice_range c span.at (span.at + n); lent = nat_le n (run_len span.at) } ∷ cuts run_len left.at (lines (slice_range c left.at (left.at + left.len)))
first_cut run_len c span left n m shown is within e same rest =
    let first : Cut = record { at = span.at; bytes = slice_range c span.at (span.at + n); lent = nat_le n (run_len span.at) } in
    cuts_view run_len c span.at span.len n shown is within e.some (let w = e.within in omega arith) e.one e.ends
    ∙ ap (λ (s : Span). first ∷ cuts run_len s.at (lines (slice_range c s.at (s.at + s.len)))) (ap (behind span) same ∙ sym rest)
