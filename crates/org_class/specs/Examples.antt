-- Worked examples: what the definitions say of inputs at which a wrong rule says something else.
use Rattle.std.specs.Prelude.{◌≡◌, [], ◌∷◌, codes}
use Rattle.org_class.specs.Classes.{setting_lines}

-- a setting line counts, and none inside a block (Org Syntax, Blocks; profile)
pub record ExamplesHold : Type 0 where
  pub counts : setting_lines (codes "#+TODO: A | B\n") ≡ codes "#+TODO: A | B\n" ∷ []
  pub none_in_a_block : setting_lines (codes "#+BEGIN_EXAMPLE\n#+TODO: A | B\n#+END_EXAMPLE\n") ≡ []
