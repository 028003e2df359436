-- Text that is left of a section, by its front.
use Rattle.std.proofs.Common.{◌≡◌, ℕ, ◌==◌, Bool, true, false, ◌&&◌, List, refl}
use Rattle.std.specs.Str.{IsUtf8, is_utf8}
use Rattle.std.proofs.lemmas.Str.{IsUtf8-from_is_utf8, is_utf8-from_IsUtf8}
use Rattle.org_amend.specs.Cancelled.{front_lines, has_front}
use Rattle.org_class.specs.Classes.{section_classes}

pub front_read : (left : List ℕ) (front : ℕ) → IsUtf8 left → has_front left front ≡ (front_lines (section_classes left) == front)
front_read left front utf8 = rw (is_utf8-from_IsUtf8 left utf8) refl

pub front_refused : (left : List ℕ) (front : ℕ) → (IsUtf8 left → ⊥) → has_front left front ≡ false
front_refused left front other = by (is_utf8 left) refl
  where
    by : (b : Bool) → is_utf8 left ≡ b → (b && (front_lines (section_classes left) == front)) ≡ false
    by true e = absurd (other (IsUtf8-from_is_utf8 left e))
    by false e = refl
