-- Laws of what is shown.
use Rattle.std.specs.Prelude.{◌≡◌, ◌<◌, ℕ, true, List, [], ◌∷◌}
use Rattle.std.specs.List.{All}
use Rattle.org_visible.specs.Clean.{IsClean, is_empty}
use Rattle.org_visible.specs.JsonReading.{string_text}
use Rattle.org_visible.specs.Unseen.{next}
use Rattle.org_visible.specs.Visible.{visible}
use Rattle.org_visible.specs.declared.front.Front.{Front}
use Rattle.org_visible.specs.declared.front.Front.TheVariants.{Empty}
use Rattle.org_visible.specs.declared.visible.Escape.{Escape}
use Rattle.org_visible.specs.declared.visible.Escape.TheVariants.{Json, Caret, Question}

-- what is shown of a text has no character that isn't shown as it is
abbrev pub VisibleIsClean : Type 0
VisibleIsClean = (escape : Escape) (text : List ℕ) → IsClean (visible escape text)

-- a text that has none is shown as it is
abbrev pub CleanStands : Type 0
CleanStands = (text : List ℕ) → IsClean text → visible Caret text ≡ text

-- what has come of such a character behind a text
abbrev pub front_behind : Front → List ℕ → Front
front_behind front [] = front
front_behind front (byte ∷ bytes) = front_behind (next front byte) bytes

-- what is written of a text in a string is read as that text, whatever it has of control characters, marks and quotation
-- marks, if it doesn't end within a character, as no text of UTF-8 does
abbrev pub StringsReadBack : Type 0
StringsReadBack = (text : List ℕ) → All (λ byte. byte < 256) text → is_empty (front_behind Empty text) ≡ true → string_text (visible Json text) ≡ text
