-- Lines of output without control characters, and without marks that turn or hide text.
use Rattle.std.specs.Prelude.{◌≡◌, ℕ, List, [], ◌∷◌, ◌++◌, Result, OnOk, Vec}
use Rattle.org_visible.specs.Clean.{IsClean}

-- nothing but such lines, each with a line feed
pub data AreCleanLines : List ℕ → Type 0 where
  no_line : AreCleanLines []
  one_more : (bytes line : List ℕ) → AreCleanLines bytes → IsClean line → AreCleanLines (bytes ++ (line ++ 10 ∷ []))

-- such lines stay such lines
abbrev pub KeepsClean : {T E A : Type 0} → Result T E → Vec ℕ A → Vec ℕ A → Type 0
KeepsClean result old new = AreCleanLines old.items → OnOk result (AreCleanLines new.items)
