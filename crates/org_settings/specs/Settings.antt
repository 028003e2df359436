-- What the setting lines of a file say (Org manual 9.6, "In-buffer Settings"; which line counts of several: profile).
use Rattle.std.specs.Prelude.{ℕ, List, [], ◌∷◌, Option, None}
use Rattle.std.specs.List.{flat_map}
use Rattle.std.specs.Option.{option_or, unwrap_or}
use Rattle.org_base.specs.Properties.{Property, with_all}
use Rattle.org_settings.specs.Keywords.{Keyword, keywords}
use Rattle.org_settings.specs.SettingLines.{tags_in, category_in, property_in, default_in}

-- the keywords in order, the file's tags, its category if it names one, its properties, and the priority of a heading
-- without a cookie
pub record FileSettings : Type 0 where
  pub keywords : List Keyword
  pub file_tags : List (List ℕ)
  pub category : Option (List ℕ)
  pub properties : List Property
  pub default_priority : ℕ

-- settings of these parts
abbrev pub settings_with : List Keyword → List (List ℕ) → Option (List ℕ) → List Property → ℕ → FileSettings
settings_with keywords file_tags category properties default_priority = record {
  keywords = keywords;
  file_tags = file_tags;
  category = category;
  properties = properties;
  default_priority = default_priority;
}

-- what the first of the lines says that says anything
abbrev pub first_said : {X : Type 0} → (List ℕ → Option X) → List (List ℕ) → Option X
first_said says [] = None
first_said says (line ∷ lines) = option_or (says line) (first_said says lines)

-- what setting lines say together; where no line says it the default priority is B
abbrev pub settings_of : List (List ℕ) → FileSettings
settings_of lines = record {
  keywords = keywords lines;
  file_tags = flat_map tags_in lines;
  category = first_said category_in lines;
  properties = with_all [] (flat_map property_in lines);
  default_priority = unwrap_or (first_said default_in lines) 66;
}
