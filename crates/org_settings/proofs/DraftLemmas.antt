-- One setting line more.
use Rattle.std.proofs.Common.{◌≡◌, ℕ, ◌+◌, ◌<◌, List, [], ◌∷◌, ◌++◌, length, drop, refl, sym, ap, ◌∙◌, append_assoc, append-nil, Some, None}
use Rattle.std.specs.Prelude.{Option, slice_get}
use Rattle.std.specs.Option.{option_or}
use Rattle.std.specs.List.{flat_map}
use Rattle.std.proofs.lemmas.List.{drop_more}
use Rattle.std.proofs.lemmas.Option.{get_or_from_slice_get}
use Rattle.org_base.specs.Properties.{Given, Property, with_given, with_all}
use Rattle.org_settings.proofs.KeywordsWords.{add_lines}
use Rattle.org_settings.specs.Laws.{NoLinesAreStandard}
use Rattle.org_settings.specs.Draft.{SettingsSoFar, nothing_said, with_line, with_lines, into_settings}
use Rattle.org_settings.specs.SettingLines.{tags_in, category_in, property_in, default_in}
use Rattle.org_settings.specs.Settings.{first_said, settings_of}

or_again : {X : Type 0} (a b c : Option X) → option_or (option_or a b) c ≡ option_or a (option_or b c)
or_again None b c = refl
or_again (Some x) b c = refl

-- what lines say after what was said
abbrev said_then : SettingsSoFar → List (List ℕ) → SettingsSoFar
said_then said lines = record {
  keywords = add_lines said.keywords lines;
  file_tags = said.file_tags ++ flat_map tags_in lines;
  category = option_or said.category (first_said category_in lines);
  properties = with_all said.properties (flat_map property_in lines);
  default_priority = option_or said.default_priority (first_said default_in lines);
}

or_nothing : {X : Type 0} (a : Option X) → option_or a None ≡ a
or_nothing None = refl
or_nothing (Some x) = refl

with_all-append : (ps : List Property) (xs ys : List Given) → with_all ps (xs ++ ys) ≡ with_all (with_all ps xs) ys
with_all-append ps [] ys = refl
with_all-append ps (x ∷ xs) ys = with_all-append (with_given ps x) xs ys

said_by_lines : (said : SettingsSoFar) (lines : List (List ℕ)) → with_lines said lines ≡ said_then said lines
said_by_lines said [] = rw (append-nil said.file_tags, or_nothing said.category, or_nothing said.default_priority) refl
said_by_lines said (line ∷ lines) =
    let tags = append_assoc said.file_tags (tags_in line) (flat_map tags_in lines) in
    let category = or_again said.category (category_in line) (first_said category_in lines) in
    let properties = sym (with_all-append said.properties (property_in line) (flat_map property_in lines)) in
    let default = or_again said.default_priority (default_in line) (first_said default_in lines) in
    said_by_lines (with_line said line) lines ∙ rw (tags, category, properties, default) refl

-- what all lines say, with the defaults where they say nothing
pub lines_settle : (lines : List (List ℕ)) → into_settings (with_lines nothing_said lines) ≡ settings_of lines
lines_settle lines = ap into_settings (said_by_lines nothing_said lines)

pub line_more : (said new all : SettingsSoFar) (lines : List (List ℕ)) (i : ℕ) (line : List ℕ) → i < length lines → slice_get lines i ≡ Some line → new ≡ with_line said line → with_lines said (drop i lines) ≡ all → with_lines new (drop (i + 1) lines) ≡ all
line_more said new all lines i line within there added so_far =
    let first : drop i lines ≡ line ∷ drop (i + 1) lines = drop_more lines i line within ∙ ap (λ l. l ∷ drop (i + 1) lines) (get_or_from_slice_get lines i line line there) in
    ap (λ s. with_lines s (drop (i + 1) lines)) added ∙ sym (ap (with_lines said) first) ∙ so_far

pub none_said : NoLinesAreStandard
none_said = refl
