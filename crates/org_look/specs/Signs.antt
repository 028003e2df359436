-- The signs of a picture.
use Rattle.std.specs.Prelude.{◌≡◌, ℕ, ◌+◌, ◌++◌, List, [], ◌∷◌}
use Rattle.std.specs.Str.{IsUtf8}
use Rattle.org_look.specs.Widths.{columns_of}
use Rattle.org_look.specs.declared.sign.Sign.{Sign}
use Rattle.org_look.specs.declared.sign.Sign.TheVariants.{Blank, Side, Level, TopLeft, Top, TopRight, Left, Cross, Right, BottomLeft, Bottom, BottomRight, Begin, Bar, End, From, On, Cut}
use Rattle.org_look.specs.declared.sign.Signs.{Signs}
use Rattle.org_look.specs.declared.sign.Signs.TheVariants.{Drawn, Ascii}

-- a sign as it stands in a text, one column wide at its end
abbrev pub sign_text : Signs → Sign → List ℕ
sign_text Drawn Blank = 32 ∷ []
sign_text Drawn Side = 226 ∷ 148 ∷ 130 ∷ []
sign_text Drawn Level = 226 ∷ 148 ∷ 128 ∷ []
sign_text Drawn TopLeft = 226 ∷ 148 ∷ 140 ∷ []
sign_text Drawn Top = 226 ∷ 148 ∷ 172 ∷ []
sign_text Drawn TopRight = 226 ∷ 148 ∷ 144 ∷ []
sign_text Drawn Left = 226 ∷ 148 ∷ 156 ∷ []
sign_text Drawn Cross = 226 ∷ 148 ∷ 188 ∷ []
sign_text Drawn Right = 226 ∷ 148 ∷ 164 ∷ []
sign_text Drawn BottomLeft = 226 ∷ 148 ∷ 148 ∷ []
sign_text Drawn Bottom = 226 ∷ 148 ∷ 180 ∷ []
sign_text Drawn BottomRight = 226 ∷ 148 ∷ 152 ∷ []
sign_text Drawn Begin = 226 ∷ 149 ∷ 186 ∷ []
sign_text Drawn Bar = 226 ∷ 148 ∷ 129 ∷ []
sign_text Drawn End = 226 ∷ 149 ∷ 184 ∷ []
sign_text Drawn From = 226 ∷ 151 ∷ 130 ∷ []
sign_text Drawn On = 226 ∷ 150 ∷ 184 ∷ []
sign_text Drawn Cut = 226 ∷ 128 ∷ 166 ∷ []
sign_text Ascii Blank = 32 ∷ []
sign_text Ascii Side = 124 ∷ []
sign_text Ascii Level = 45 ∷ []
sign_text Ascii Begin = 91 ∷ []
sign_text Ascii Bar = 61 ∷ []
sign_text Ascii End = 93 ∷ []
sign_text Ascii From = 60 ∷ []
sign_text Ascii On = 62 ∷ []
sign_text Ascii Cut = 126 ∷ []
sign_text Ascii _ = 43 ∷ []

-- a text that is one column wide at the end of any text
abbrev pub IsColumn : List ℕ → Type 0
IsColumn sign = (before : List ℕ) → IsUtf8 before → columns_of (before ++ sign) ≡ columns_of before + 1

abbrev pub SignsAreColumns : Type 0
SignsAreColumns = (signs : Signs) (sign : Sign) → IsColumn (sign_text signs sign)
