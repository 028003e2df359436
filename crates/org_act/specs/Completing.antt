-- Completing a heading of a text, of which a part may be read after it and isn't its own: a setting line that names keywords.
use Rattle.std.specs.Prelude.{ℕ, suc, ◌+◌, Bool, false, ◌&&◌, ◌==◌, not, nat_lt, if◌then◌else◌, List, [], ◌∷◌, ◌++◌, length, Option, Some, None, Result, Ok, Err}
use Rattle.org_act.specs.declared.act.Refusal.{Refusal}
use Rattle.org_act.specs.declared.act.Refusal.TheVariants as refusal
use Rattle.org_act.specs.declared.completion.Completion.{Completion}
use Rattle.org_act.specs.declared.completion.KeywordChoice.{KeywordChoice}
use Rattle.org_act.specs.declared.completion.KeywordChoice.TheVariants.{Any, Done, FirstDone}
use Rattle.org_base.specs.declared.code.Code.TheVariants as code
use Rattle.org_base.specs.declared.fault.Fault.{Fault}
use Rattle.org_base.specs.declared.fault.Fault.TheVariants as fault
use Rattle.org_complete.specs.Completion.{completed, completion_part, line_start, section_at, sized}
use Rattle.org_complete.specs.Parts.{Part}
use Rattle.org_entry.specs.Entry.{entry_of}
use Rattle.org_entry.specs.Keyword.{keyword_in}
use Rattle.org_entry.specs.declared.entry.Entry.{Entry}
use Rattle.org_head.specs.declared.head.Head.{Head}
use Rattle.org_settings.specs.Keywords.{Keyword, keyword_done, keyword_first, keyword_place, keyword_word}
use Rattle.org_settings.specs.Settings.{FileSettings}
use Rattle.org_store.specs.Begun.{entry_there, has_heading}
use Rattle.org_store.specs.Outline.{file_settings}
use Rattle.org_text.specs.Replace.{replace}

-- no heading stands on the line
abbrev pub no_heading : Refusal
no_heading = refusal.Fault (fault.Plain code.Heading)

-- the place of the first done keyword, of those from a place on, of the sequence whose first keyword has this place
abbrev pub first_done : ℕ → ℕ → List Keyword → Option ℕ
first_done first place [] = None
first_done first place (k ∷ ks) = if k.done && k.first == first then Some place else first_done first (suc place) ks

-- the place of the first keyword of the sequence that holds the one at a place; without one the file's first
abbrev pub first_place : FileSettings → Option ℕ → ℕ
first_place settings None = 0
first_place settings (Some place) = keyword_first settings.keywords place

-- the same by a heading's keyword
abbrev pub sequence_of : FileSettings → Option (List ℕ) → ℕ
sequence_of settings None = 0
sequence_of settings (Some word) = first_place settings (keyword_place settings.keywords word)

-- the word of a done keyword at a place, if there is one
abbrev pub done_word_from : FileSettings → Option ℕ → Result (List ℕ) Refusal
done_word_from settings None = Err refusal.NoDone
done_word_from settings (Some place) = Ok (keyword_word settings.keywords place)

-- the first done keyword of the sequence that holds a heading's; of the file's first where it has none
abbrev pub done_word_in : FileSettings → List ℕ → Option Head → Result (List ℕ) Refusal
done_word_in settings text None = Err no_heading
done_word_in settings text (Some head) = done_word_from settings (first_done (sequence_of settings (keyword_in text head)) 0 settings.keywords)

-- the same by an entry's own head
abbrev pub done_word_of : FileSettings → Entry → Result (List ℕ) Refusal
done_word_of settings entry = done_word_in settings entry.text entry.head

-- the same of the heading of the section at a place
abbrev pub done_word_at : List ℕ → ℕ → Result (List ℕ) Refusal
done_word_at text place = done_word_of (file_settings text) (entry_there text place)

-- the entry of the heading on a line
abbrev pub entry_on : List ℕ → ℕ → Entry
entry_on text line = entry_of (file_settings text) (section_at text (line_start text line))

-- the first done keyword for the heading on a line
abbrev pub done_word : List ℕ → ℕ → Result (List ℕ) Refusal
done_word text line = if not (has_heading text line) then Err no_heading else done_word_of (file_settings text) (entry_on text line)

-- a word is a keyword of the file, and none of the done ones
abbrev pub is_open_at : FileSettings → Option ℕ → Bool
is_open_at settings None = false
is_open_at settings (Some place) = not (keyword_done settings.keywords place)

abbrev pub is_open_word : FileSettings → List ℕ → Bool
is_open_word settings word = is_open_at settings (keyword_place settings.keywords word)

-- the word of a keyword that is chosen
abbrev pub chosen_word : List ℕ → ℕ → KeywordChoice → Result (List ℕ) Refusal
chosen_word text line (Any word) = Ok word.now
chosen_word text line (Done word) = if is_open_word (file_settings text) word.now then Err refusal.NotDone else Ok word.now
chosen_word text line FirstDone = done_word text line

-- the text itself with what a completion replaces of the whole; a heading that stands after the text is none of its own
abbrev pub own_part : List ℕ → Result Part Fault → Result (List ℕ) Refusal
own_part text (Err fault) = Err (refusal.Fault fault)
own_part text (Ok part) =
    if nat_lt (length text) (part.at + part.del) then Err no_heading else Ok (replace text part.at part.del part.ins)

-- a text with something after it was completed; what it has then without that
abbrev pub own_text : List ℕ → List ℕ → Result (List ℕ) Fault → Result Part Fault → Result (List ℕ) Refusal
own_text text behind (Err fault) part = Err (refusal.Fault fault)
own_text text [] (Ok new) part = Ok new
own_text text (b ∷ bs) (Ok new) part = own_part text part

-- the text completed by a word, where the whole is read
abbrev pub amended_by : Completion → List ℕ → List ℕ → Result (List ℕ) Refusal → Result (List ℕ) Refusal
amended_by c text whole (Err why) = Err why
amended_by c text whole (Ok word) =
    own_text text c.behind.now (completed whole c.line word c.moment) (completion_part whole c.line word c.moment)

-- the same by the word that is chosen
abbrev pub amended_whole : Completion → List ℕ → List ℕ → Result (List ℕ) Refusal
amended_whole c text whole = amended_by c text whole (chosen_word whole c.line c.keyword)

-- the same, unless the whole is too long
abbrev pub amended_in : Completion → List ℕ → Result (List ℕ) Fault → Result (List ℕ) Refusal
amended_in c text (Err fault) = Err (refusal.Fault fault)
amended_in c text (Ok whole) = amended_whole c text whole

-- what a completion makes of a text, or why it is refused
unfoldable pub completed_text : Completion → List ℕ → Result (List ℕ) Refusal
completed_text c text = amended_in c text (sized (text ++ c.behind.now))

-- the same by the heading on another line
abbrev pub completed_on : Completion → ℕ → List ℕ → Result (List ℕ) Refusal
completed_on c line = completed_text (record c { line = line })
