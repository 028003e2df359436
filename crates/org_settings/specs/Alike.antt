-- Settings that nothing which is asked of them tells apart (profile).
use Rattle.std.specs.Prelude.{◌≡◌, ◌↔◌, ℕ, IsTrue, List}
use Rattle.org_base.specs.Properties.{same_texts, value_in}
use Rattle.org_settings.specs.Settings.{FileSettings, settings_of}

-- they have the same keywords, tags, category and default priority, and the same names with the same texts
pub record AnswerAlike (a b : FileSettings) : Type 0 where
  pub keywords : a.keywords ≡ b.keywords
  pub file_tags : a.file_tags ≡ b.file_tags
  pub category : a.category ≡ b.category
  pub default_priority : a.default_priority ≡ b.default_priority
  pub properties : IsTrue (same_texts a.properties b.properties)

-- they say the same, and give the same value to each name
pub record SayTheSame (a b : FileSettings) : Type 0 where
  pub keywords : a.keywords ≡ b.keywords
  pub file_tags : a.file_tags ≡ b.file_tags
  pub category : a.category ≡ b.category
  pub default_priority : a.default_priority ≡ b.default_priority
  pub values : (name : List ℕ) → value_in a.properties name ≡ value_in b.properties name

-- settings of lines answer alike exactly where they say the same
abbrev pub AlikeSayTheSame : Type 0
AlikeSayTheSame = (ones others : List (List ℕ)) → AnswerAlike (settings_of ones) (settings_of others) ↔ SayTheSame (settings_of ones) (settings_of others)
