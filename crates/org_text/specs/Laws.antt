-- Laws of changes (Unicode, UTF-8).
use Rattle.std.specs.Prelude.{◌≡◌, ◌↔◌, ℕ, ◌≤◌, true, List, length, take, drop}
use Rattle.std.specs.Str.{IsUtf8}
use Rattle.org_text.specs.Replace.{is_boundary}
use Rattle.org_text.specs.declared.text.TheConstants.{MAX_BYTES}

-- no character of a text is cut at a place exactly where what stands before it and what stands after it are texts
abbrev pub BoundariesCutNothing : Type 0
BoundariesCutNothing = (t : List ℕ) (at : ℕ) → IsUtf8 t → at ≤ length t →
    (is_boundary t at ≡ true) ↔ (IsUtf8 (take at t) × IsUtf8 (drop at t))

-- the most bytes of a text
abbrev pub LimitsAreNamed : Type 0
LimitsAreNamed = MAX_BYTES ≡ 67_108_864
