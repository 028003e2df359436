-- Worked examples: what the definitions say of inputs at which a wrong rule says something else.
use Rattle.std.specs.Prelude.{◌≡◌, Bool, true, false, [], ◌∷◌, None, Some}
use Rattle.org_project.specs.Blocked.{block_of}
use Rattle.org_project.specs.Flags.{both, either, is_value}
use Rattle.org_project.specs.declared.blocked.Block.TheVariants.{Below, Before}
use Rattle.std.specs.Prelude.{codes}

-- what isn't open is never blocked, and what is below comes before what is before; a property is set unless it is `nil`, whatever
-- else it says
pub record ExamplesHold : Type 0 where
  pub done : block_of false 1 true ≡ None
  pub both_reasons : block_of true 1 true ≡ Some Below
  pub waiting : block_of true 0 true ≡ Some Before
  pub free : block_of true 0 false ≡ None
  pub nil : is_value (Some (codes "nil")) ≡ false
  pub no : is_value (Some (codes "no")) ≡ true
  pub empty : is_value (Some []) ≡ true
  pub unset : is_value None ≡ false
  pub both_hold : both (true ∷ true ∷ false ∷ []) (true ∷ false ∷ true ∷ []) ≡ true ∷ false ∷ false ∷ []
  pub either_holds : either (true ∷ true ∷ false ∷ []) (true ∷ false ∷ false ∷ []) ≡ true ∷ true ∷ false ∷ []
