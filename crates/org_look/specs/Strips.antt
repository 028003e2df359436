-- Strips beside one another in a line.
use Rattle.std.specs.Prelude.{◌≡◌, ℕ, ◌+◌, ◌++◌, List, [], ◌∷◌, sum_by}
use Rattle.std.specs.String.{string_bytes}
use Rattle.org_look.specs.Signs.{sign_text}
use Rattle.org_look.specs.Widths.{columns_of}
use Rattle.org_look.specs.declared.sign.Sign.TheVariants.{Side}
use Rattle.org_look.specs.declared.sign.Signs.{Signs}
use Rattle.org_look.specs.declared.strip.Strip.{Strip}

-- strips beside one another, a border before each of them
abbrev pub strips_text : Signs → List Strip → List ℕ
strips_text signs [] = []
strips_text signs (strip ∷ strips) = sign_text signs Side ++ (string_bytes strip.text ++ strips_text signs strips)

-- a line of them behind a front, with a border at its end
abbrev pub line_text : Signs → Strip → List Strip → List ℕ
line_text signs front strips = string_bytes front.text ++ (strips_text signs strips ++ sign_text signs Side)

-- the columns of such a line
abbrev pub line_columns : Strip → List Strip → ℕ
line_columns front strips = front.columns + (sum_by (λ strip. 1 + strip.columns) strips + 1)

-- a line is as wide as its strips are together, and the borders beside them, whatever the strips say
abbrev pub LinesAddUp : Type 0
LinesAddUp = (signs : Signs) (front : Strip) (strips : List Strip) → columns_of (line_text signs front strips) ≡ line_columns front strips
