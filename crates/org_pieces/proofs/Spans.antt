-- The front and the back of a span.
use Rattle.std.proofs.Common.{◌≡◌, ℕ, ◌+◌, ◌-◌, ◌≤◌, List, length, take, drop, arith, length-take, length-drop, ap, sym, ◌∙◌}
use Rattle.std.specs.List.{slice_range}
use Rattle.std.proofs.lemmas.List.{drop-drop, take-take, drop-take}

pub front_span : (bs : List ℕ) (from len at : ℕ) → at ≤ len → slice_range bs from (from + at) ≡ take at (slice_range bs from (from + len))
front_span bs from len at le =
    let a : from + at - from ≡ at = omega arith in
    let b : from + len - from ≡ len = omega arith in
    rw (a, b) (sym (take-take at len (drop from bs) le))

pub back_span : (bs : List ℕ) (from len at : ℕ) → at ≤ len → slice_range bs (from + at) (from + at + (len - at)) ≡ drop at (slice_range bs from (from + len))
back_span bs from len at le =
    let a : from + at + (len - at) - (from + at) ≡ len - at = omega arith in
    let b : from + len - from ≡ at + (len - at) = omega arith in
    rw (a, b) (ap (take (len - at)) (sym (drop-drop at from bs)) ∙ sym (drop-take at (len - at) (drop from bs)))

pub span_len : (bs : List ℕ) (from len : ℕ) → from + len ≤ length bs → length (slice_range bs from (from + len)) ≡ len
span_len bs from len le = omega (arith, length-take (from + len - from) (drop from bs), length-drop from bs)
