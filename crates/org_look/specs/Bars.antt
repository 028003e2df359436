-- Bars over the days of a week.
use Rattle.std.specs.Prelude.{◌≡◌, ℕ, zero, suc, ◌-◌, ◌≤◌, ◌++◌, Bool, if◌then◌else◌, List, [], ◌∷◌}
use Rattle.std.specs.Str.{IsUtf8}
use Rattle.org_look.specs.Cuts.{cut_text}
use Rattle.org_look.specs.Signs.{sign_text}
use Rattle.org_look.specs.Widths.{columns_of}
use Rattle.org_look.specs.declared.sign.Sign.TheVariants.{Begin, Bar, End, From, On}
use Rattle.org_look.specs.declared.sign.Signs.{Signs}

-- a text so many times
abbrev pub times : ℕ → List ℕ → List ℕ
times zero text = []
times (suc n) text = times n text ++ text

-- the rest of a bar behind its label
abbrev pub bar_end : Signs → Bool → ℕ → List ℕ
bar_end signs goes_on columns = times columns (sign_text signs Bar) ++ sign_text signs (if goes_on then On else End)

-- a bar that many columns wide, with its label at its front: whether it comes from the week before, and goes on in the next
abbrev pub bar_text : Signs → Bool → Bool → ℕ → List ℕ → List ℕ
bar_text signs is_begun goes_on columns label =
    sign_text signs (if is_begun then From else Begin) ++ (32 ∷ (cut_text signs (columns - 4) label ++ (32 ∷ bar_end signs goes_on (columns - 4 - columns_of (cut_text signs (columns - 4) label)))))

-- a bar takes exactly its columns, whatever its label is
abbrev pub BarsAreWide : Type 0
BarsAreWide = (signs : Signs) (is_begun goes_on : Bool) (columns : ℕ) (label : List ℕ) → 5 ≤ columns → IsUtf8 label → columns_of (bar_text signs is_begun goes_on columns label) ≡ columns
