-- Bars that lie in lanes.
use Rattle.std.specs.Prelude.{◌≡◌, ℕ, ◌<◌, ◌≤◌, List, Result, IfOk, length, map, slice_index}
use Rattle.org_look.specs.declared.span.Span.{Span}

-- on which day a bar begins, and on which it ends
abbrev pub firsts : List Span → List ℕ
firsts spans = map (λ span. span.first) spans

abbrev pub lasts : List Span → List ℕ
lasts spans = map (λ span. span.last) spans

-- of two bars in one lane the later one begins after the earlier one has ended; the number behind the last lane is none
abbrev pub AreApart : List Span → List ℕ → ℕ → Type 0
AreApart spans lanes most =
    (i j : ℕ) → i < j → j < length spans → slice_index lanes i ≡ slice_index lanes j → slice_index lanes i < most →
    slice_index (lasts spans) i < slice_index (firsts spans) j

-- what is said of a lane, where there is one below so many, unless memory is refused
abbrev pub IfLane : {E : Type 0} → Result ℕ E → ℕ → (ℕ → Type 0) → Type 0
IfLane result most P = IfOk result (λ lane. lane < most → P lane)

-- no number of the new ones is below that of the old ones in its place
abbrev pub Grows : List ℕ → List ℕ → Type 0
Grows old new = (k : ℕ) → slice_index old k ≤ slice_index new k
