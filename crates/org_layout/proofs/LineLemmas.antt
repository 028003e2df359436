-- The whole line of a heading, and sums as they are spelled.
use Rattle.std.proofs.Common.{◌≡◌, ◌≤◌, ◌+◌, ◌-◌, ◌*◌, ◌/◌, ◌%◌, ℕ, List, ◌++◌, ap, ap₂, arith, chars, inl, inr}
use Rattle.std.specs.Prelude.{◌⊎◌, codes, decimal, false, max, replicate}
use Rattle.std.proofs.Math.Nat.{div-eq_of_lt-le}
use Rattle.std.proofs.lemmas.Bool.{cases_lt}
use Rattle.org_cal.specs.Texts.{two}
use Rattle.org_inherit.specs.Category.{category}
use Rattle.org_layout.specs.Columns.{padded, shown}
use Rattle.org_layout.specs.Laws.{LinesAreWhole, SumsAreSpelled}
use Rattle.org_layout.specs.Lines.{category_column}
use Rattle.org_layout.proofs.TextLemmas.{lines_show_all}
use Rattle.unicode_width.specs.Width.{str_width}

filling : (width : ℕ) → (1 ≤ max 1 (12 - width)) × ((width + max 1 (12 - width) ≡ 12) ⊎ ((12 ≤ width + 1) × (max 1 (12 - width) ≡ 1)))
filling width = elim (cases_lt width 12) [
  | inl narrow ↦ (omega arith, inl (omega (arith, narrow)))
  | inr wide ↦ (omega arith, inr (omega (arith, wide), omega (arith, wide)))
]

column : (name : List ℕ) → shown name ≡ name → category_column name ≡ codes "  " ++ (name ++ codes ":") ++ replicate (max 1 (12 - str_width false (chars (name ++ codes ":")))) 32
unfolding category_column
column name whole = ap (λ (t : List ℕ). codes "  " ++ padded (t ++ codes ":") 12) whole

pub lines : LinesAreWhole
lines columns scope i e entries settings name there =
    let whole = lines_show_all scope i e entries settings name there in
    let own : List ℕ = category scope i in
    let head : List ℕ = own ++ codes ":" in
    let spaces : ℕ = max 1 (12 - str_width false (chars head)) in (
      spaces,
      filling (str_width false (chars head)),
      ap₂ (λ (c t : List ℕ). c ++ columns ++ t ++ codes "\n") (column own whole.0) whole.1,
    )

pub sums : SumsAreSpelled
sums hours minutes less =
    let first : (60 * hours + minutes) / 60 ≡ hours = div-eq_of_lt-le 60 (omega (arith, less)) (omega (arith, less)) in
    let last : (60 * hours + minutes) % 60 ≡ minutes = omega (arith, less, first) in
    ap₂ (λ (h m : ℕ). decimal h ++ codes ":" ++ two m) first last
