-- What components say in words (RFC 5545, 3.8.1, "Descriptive Component Properties").
use Rattle.std.specs.Prelude.{ℕ, List, ◌∷◌, ◌++◌, codes}
use Rattle.org_ical.specs.Properties.{categories_lines, some_text, text_line}
use Rattle.org_ical.specs.Results.{bytes_of}
use Rattle.org_ical.specs.declared.words.Words.{Words}

-- words by their texts
pub record WordsText : Type 0 where
  pub summary : List ℕ
  pub categories : List (List ℕ)
  pub location : List ℕ
  pub description : List ℕ

abbrev pub words_text : Words → WordsText
words_text words = record {
  summary = words.summary.items;
  categories = bytes_of words.categories.items;
  location = words.location.items;
  description = words.description.items;
}

abbrev pub words_lines : WordsText → List (List ℕ)
words_lines words =
    text_line (codes "SUMMARY") words.summary
    ∷ categories_lines words.categories
    ++ (some_text (codes "LOCATION") words.location ++ some_text (codes "DESCRIPTION") words.description)

abbrev pub own_words : Words → List (List ℕ)
own_words words = words_lines (words_text words)
