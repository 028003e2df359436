-- The keywords and the tags of files, each once (profile).
use Rattle.std.specs.Prelude.{◌≡◌, ℕ, ◌+◌, Bool, if◌then◌else◌, List, [], ◌∷◌, ◌++◌, Option, None, Some, OnOk, Result, map, slice_get}
use Rattle.std.specs.List.{flat_map}
use Rattle.org_client.specs.Json.{field_text, quoted}
use Rattle.org_entry.specs.declared.entry.Entry.{Entry}
use Rattle.org_head.specs.declared.head.Head.{Head}
use Rattle.org_inherit.specs.Scope.{Scope}
use Rattle.org_inherit.specs.Tags.{all_tags, firsts, with_tags}
use Rattle.org_settings.specs.Settings.{FileSettings}
use Rattle.org_answer.specs.Shown.{shown_text}
use Rattle.org_answer.specs.declared.show.Form.{Form}
use Rattle.org_answer.specs.declared.show.Form.TheVariants.{Csv, Json}
use Rattle.org_answer.specs.declared.words.WordKind.{WordKind}
use Rattle.org_answer.specs.declared.words.WordKind.TheVariants.{Keywords, Tags}

-- the keywords of a file, in the order of its lines
abbrev pub keyword_words : FileSettings → List (List ℕ)
keyword_words settings = map (λ keyword. keyword.word) settings.keywords

-- all tags of the entry at a place, if it is a heading
abbrev pub head_tags : Scope → ℕ → Option Head → List (List ℕ)
head_tags scope i None = []
head_tags scope i (Some head) = all_tags scope i

abbrev pub entry_tags : Scope → ℕ → Option Entry → List (List ℕ)
entry_tags scope i None = []
entry_tags scope i (Some e) = head_tags scope i e.head

abbrev pub tags_under : Scope → ℕ → List (List ℕ)
tags_under scope i = entry_tags scope i (slice_get scope.entries i)

-- those of entries, of which the first stands at a place of its file
abbrev pub tags_from : Scope → ℕ → List Entry → List (List ℕ)
tags_from scope i [] = []
tags_from scope i (e ∷ es) = head_tags scope i e.head ++ tags_from scope (i + 1) es

abbrev pub headings_tags : Scope → List (List ℕ)
headings_tags scope = tags_from scope 0 scope.entries

-- the words of a kind that a file has: its keywords; the tags of the file, and then those of its headings
abbrev pub file_words : WordKind → Scope → List (List ℕ)
file_words Keywords scope = keyword_words scope.settings
file_words Tags scope = scope.settings.file_tags ++ headings_tags scope

-- those of all files in their order, each once, where it comes first
abbrev pub words_of : WordKind → List Scope → List (List ℕ)
words_of kind scopes = firsts (flat_map (file_words kind) scopes)

-- a word as it is written in a form
abbrev pub shown_word : Form → Bool → List ℕ → List ℕ
shown_word Json is_seen word = quoted word
shown_word Csv is_seen word = field_text word
shown_word _ is_seen word = shown_text is_seen word

-- its line
abbrev pub word_line : Form → Bool → List ℕ → List ℕ
word_line form is_seen word = shown_word form is_seen word ++ 10 ∷ []

abbrev pub word_lines : Form → Bool → List (List ℕ) → List ℕ
word_lines form is_seen words = flat_map (word_line form is_seen) words

-- words after others, each unless it is there, if it isn't refused
abbrev pub AddsOnce : {T E : Type 0} → Result T E → List (List ℕ) → List (List ℕ) → List (List ℕ) → Type 0
AddsOnce result old new words = OnOk result (new ≡ with_tags old words)
