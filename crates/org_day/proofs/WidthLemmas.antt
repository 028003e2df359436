-- The width of nothing.
use Rattle.std.proofs.Common.{◌≡◌, ℕ, ◌≤◌, List, [], refl, ap, ◌∙◌, arith}
use Rattle.std.specs.Str.{chars}
use Rattle.unicode_width.specs.Width.{str_width}
use Rattle.org_day.specs.Widths.{columns_of}

nothing_wide : columns_of [] ≡ 0
unfolding chars str_width
nothing_wide = refl

pub nothing_within : (columns : ℕ) (text : List ℕ) → text ≡ [] → columns_of text ≤ columns
nothing_within columns text empty =
    let none : columns_of text ≡ 0 = ap columns_of empty ∙ nothing_wide in
    omega (arith, none)
