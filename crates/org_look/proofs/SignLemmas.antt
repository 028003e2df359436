-- Each sign is one column wide.
use Rattle.std.proofs.Common.{◌≡◌, ℕ, ◌+◌, true, false, List, [], ◌∷◌, ◌++◌, refl, ap, ◌∙◌}
use Rattle.std.specs.Str.{chars, IsUtf8}
use lib.Utf8.{encode}
use Rattle.std.specs.List.{list_all}
use Rattle.std.proofs.lemmas.Str.{chars-append}
use Rattle.unicode_width.specs.Width.{str_width}
use Rattle.unicode_width.proofs.Computing.{unicode_width}
use Rattle.unicode_width.proofs.Rules.{is_simple, str_width-append_simple}
use Rattle.org_look.specs.Signs.{sign_text, IsColumn, SignsAreColumns}
use Rattle.org_look.specs.declared.sign.Sign.{Sign}
use Rattle.org_look.specs.declared.sign.Sign.TheVariants.{Blank, Side, Level, TopLeft, Top, TopRight, Left, Cross, Right, BottomLeft, Bottom, BottomRight, Begin, Bar, End, From, On, Cut}
use Rattle.org_look.specs.declared.sign.Signs.{Signs}
use Rattle.org_look.specs.declared.sign.Signs.TheVariants.{Drawn, Ascii}

column : (sign : List ℕ) (c : ℕ) → chars sign ≡ c ∷ [] → list_all is_simple (c ∷ []) ≡ true → str_width false (c ∷ []) ≡ 1 → IsColumn sign
column sign c one simple wide before whole =
    ap (str_width false) (chars-append before sign whole ∙ ap (λ cs. chars before ++ cs) one)
    ∙ str_width-append_simple false (chars before) (c ∷ []) simple ∙ ap (λ n. str_width false (chars before) + n) wide

pub signs_are_columns : SignsAreColumns
unfolding unicode_width
signs_are_columns Drawn Blank = column (sign_text Drawn Blank) 32 refl refl refl
signs_are_columns Drawn Side = column (sign_text Drawn Side) 0x2502 refl refl refl
signs_are_columns Drawn Level = column (sign_text Drawn Level) 0x2500 refl refl refl
signs_are_columns Drawn TopLeft = column (sign_text Drawn TopLeft) 0x250C refl refl refl
signs_are_columns Drawn Top = column (sign_text Drawn Top) 0x252C refl refl refl
signs_are_columns Drawn TopRight = column (sign_text Drawn TopRight) 0x2510 refl refl refl
signs_are_columns Drawn Left = column (sign_text Drawn Left) 0x251C refl refl refl
signs_are_columns Drawn Cross = column (sign_text Drawn Cross) 0x253C refl refl refl
signs_are_columns Drawn Right = column (sign_text Drawn Right) 0x2524 refl refl refl
signs_are_columns Drawn BottomLeft = column (sign_text Drawn BottomLeft) 0x2514 refl refl refl
signs_are_columns Drawn Bottom = column (sign_text Drawn Bottom) 0x2534 refl refl refl
signs_are_columns Drawn BottomRight = column (sign_text Drawn BottomRight) 0x2518 refl refl refl
signs_are_columns Drawn Begin = column (sign_text Drawn Begin) 0x257A refl refl refl
signs_are_columns Drawn Bar = column (sign_text Drawn Bar) 0x2501 refl refl refl
signs_are_columns Drawn End = column (sign_text Drawn End) 0x2578 refl refl refl
signs_are_columns Drawn From = column (sign_text Drawn From) 0x25C2 refl refl refl
signs_are_columns Drawn On = column (sign_text Drawn On) 0x25B8 refl refl refl
signs_are_columns Drawn Cut = column (sign_text Drawn Cut) 0x2026 refl refl refl
signs_are_columns Ascii Blank = column (sign_text Ascii Blank) 32 refl refl refl
signs_are_columns Ascii Side = column (sign_text Ascii Side) 124 refl refl refl
signs_are_columns Ascii Level = column (sign_text Ascii Level) 45 refl refl refl
signs_are_columns Ascii TopLeft = column (sign_text Ascii TopLeft) 43 refl refl refl
signs_are_columns Ascii Top = column (sign_text Ascii Top) 43 refl refl refl
signs_are_columns Ascii TopRight = column (sign_text Ascii TopRight) 43 refl refl refl
signs_are_columns Ascii Left = column (sign_text Ascii Left) 43 refl refl refl
signs_are_columns Ascii Cross = column (sign_text Ascii Cross) 43 refl refl refl
signs_are_columns Ascii Right = column (sign_text Ascii Right) 43 refl refl refl
signs_are_columns Ascii BottomLeft = column (sign_text Ascii BottomLeft) 43 refl refl refl
signs_are_columns Ascii Bottom = column (sign_text Ascii Bottom) 43 refl refl refl
signs_are_columns Ascii BottomRight = column (sign_text Ascii BottomRight) 43 refl refl refl
signs_are_columns Ascii Begin = column (sign_text Ascii Begin) 91 refl refl refl
signs_are_columns Ascii Bar = column (sign_text Ascii Bar) 61 refl refl refl
signs_are_columns Ascii End = column (sign_text Ascii End) 93 refl refl refl
signs_are_columns Ascii From = column (sign_text Ascii From) 60 refl refl refl
signs_are_columns Ascii On = column (sign_text Ascii On) 62 refl refl refl
signs_are_columns Ascii Cut = column (sign_text Ascii Cut) 126 refl refl refl

pub IsUtf8-sign : (signs : Signs) (sign : Sign) → IsUtf8 (sign_text signs sign)
unfolding encode
IsUtf8-sign Drawn Blank = (32 ∷ [], (refl, refl))
IsUtf8-sign Drawn Side = (0x2502 ∷ [], (refl, refl))
IsUtf8-sign Drawn Level = (0x2500 ∷ [], (refl, refl))
IsUtf8-sign Drawn TopLeft = (0x250C ∷ [], (refl, refl))
IsUtf8-sign Drawn Top = (0x252C ∷ [], (refl, refl))
IsUtf8-sign Drawn TopRight = (0x2510 ∷ [], (refl, refl))
IsUtf8-sign Drawn Left = (0x251C ∷ [], (refl, refl))
IsUtf8-sign Drawn Cross = (0x253C ∷ [], (refl, refl))
IsUtf8-sign Drawn Right = (0x2524 ∷ [], (refl, refl))
IsUtf8-sign Drawn BottomLeft = (0x2514 ∷ [], (refl, refl))
IsUtf8-sign Drawn Bottom = (0x2534 ∷ [], (refl, refl))
IsUtf8-sign Drawn BottomRight = (0x2518 ∷ [], (refl, refl))
IsUtf8-sign Drawn Begin = (0x257A ∷ [], (refl, refl))
IsUtf8-sign Drawn Bar = (0x2501 ∷ [], (refl, refl))
IsUtf8-sign Drawn End = (0x2578 ∷ [], (refl, refl))
IsUtf8-sign Drawn From = (0x25C2 ∷ [], (refl, refl))
IsUtf8-sign Drawn On = (0x25B8 ∷ [], (refl, refl))
IsUtf8-sign Drawn Cut = (0x2026 ∷ [], (refl, refl))
IsUtf8-sign Ascii Blank = (32 ∷ [], (refl, refl))
IsUtf8-sign Ascii Side = (124 ∷ [], (refl, refl))
IsUtf8-sign Ascii Level = (45 ∷ [], (refl, refl))
IsUtf8-sign Ascii TopLeft = (43 ∷ [], (refl, refl))
IsUtf8-sign Ascii Top = (43 ∷ [], (refl, refl))
IsUtf8-sign Ascii TopRight = (43 ∷ [], (refl, refl))
IsUtf8-sign Ascii Left = (43 ∷ [], (refl, refl))
IsUtf8-sign Ascii Cross = (43 ∷ [], (refl, refl))
IsUtf8-sign Ascii Right = (43 ∷ [], (refl, refl))
IsUtf8-sign Ascii BottomLeft = (43 ∷ [], (refl, refl))
IsUtf8-sign Ascii Bottom = (43 ∷ [], (refl, refl))
IsUtf8-sign Ascii BottomRight = (43 ∷ [], (refl, refl))
IsUtf8-sign Ascii Begin = (91 ∷ [], (refl, refl))
IsUtf8-sign Ascii Bar = (61 ∷ [], (refl, refl))
IsUtf8-sign Ascii End = (93 ∷ [], (refl, refl))
IsUtf8-sign Ascii From = (60 ∷ [], (refl, refl))
IsUtf8-sign Ascii On = (62 ∷ [], (refl, refl))
IsUtf8-sign Ascii Cut = (126 ∷ [], (refl, refl))
