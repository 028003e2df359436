-- Worked examples: what the definitions say of inputs at which a wrong rule says something else.
use Rattle.std.specs.Prelude.{◌≡◌, [], ◌∷◌, Some, true, false, map, codes}
use Rattle.org_settings.specs.Priority.{is_priority}
use Rattle.org_settings.specs.Settings.{settings_of}

-- the last numeric priority, the first of two categories, and a value that is appended (Org manual 9.6, "Priorities",
-- "Categories", "Property Syntax")
pub record ExamplesHold : Type 0 where
  pub last_number : is_priority (codes "64") ≡ true
  pub too_great : is_priority (codes "65") ≡ false
  pub first_category : (settings_of (codes "#+CATEGORY: a" ∷ codes "#+CATEGORY: b" ∷ [])).category ≡ Some (codes "a")
  pub appended_value : map (λ p. p.value.text) (settings_of (codes "#+PROPERTY: a 1" ∷ codes "#+PROPERTY: a+ 2" ∷ [])).properties ≡ codes "1 2" ∷ []
