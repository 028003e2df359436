-- What setting lines have said so far.
use Rattle.std.specs.Prelude.{ℕ, ◌==◌, if◌then◌else◌, List, [], ◌∷◌, ◌++◌, length, Option, None}
use Rattle.std.specs.Option.{option_or, unwrap_or}
use Rattle.org_base.specs.Properties.{Property, with_all}
use Rattle.org_settings.specs.Keywords.{Keyword, add_line, standard_keywords}
use Rattle.org_settings.specs.SettingLines.{tags_in, category_in, property_in, default_in}
use Rattle.org_settings.specs.Settings.{FileSettings}

-- keywords, tags, category, properties and default priority that lines have named
pub record SettingsSoFar : Type 0 where
  pub keywords : List Keyword
  pub file_tags : List (List ℕ)
  pub category : Option (List ℕ)
  pub properties : List Property
  pub default_priority : Option ℕ

-- no line has said anything
abbrev pub nothing_said : SettingsSoFar
nothing_said = record { keywords = []; file_tags = []; category = None; properties = []; default_priority = None }

-- one line more
abbrev pub with_line : SettingsSoFar → List ℕ → SettingsSoFar
with_line said line = record {
  keywords = add_line said.keywords line;
  file_tags = said.file_tags ++ tags_in line;
  category = option_or said.category (category_in line);
  properties = with_all said.properties (property_in line);
  default_priority = option_or said.default_priority (default_in line);
}

-- lines, one after another
abbrev pub with_lines : SettingsSoFar → List (List ℕ) → SettingsSoFar
with_lines said [] = said
with_lines said (line ∷ lines) = with_lines (with_line said line) lines

-- what holds where no line says more
abbrev pub into_settings : SettingsSoFar → FileSettings
into_settings said = record {
  keywords = if length said.keywords == 0 then standard_keywords else said.keywords;
  file_tags = said.file_tags;
  category = said.category;
  properties = said.properties;
  default_priority = unwrap_or said.default_priority 66;
}
