-- The heading line of a new heading (Org Syntax, "Headings"). What is written is read back: a line that would be read as
-- something else is none.
-- Characters by their codes: 10 line feed, 13 carriage return, 42 *, 58 :.
use Rattle.std.specs.Prelude.{◌≡◌, ℕ, Bool, true, false, ◌&&◌, ◌||◌, not, ◌==◌, nat_le, if◌then◌else◌, List, [], ◌∷◌, ◌++◌, length, replicate, Option, Some, None, Result, Ok, Err, IfOk, String, string_bytes, bytes_eq, codes, is_some}
use Rattle.std.specs.List.{list_any}
use Rattle.std.specs.Option.{option_copied, option_map}
use Rattle.org_amend.specs.declared.head.NewHead.{NewHead}
use Rattle.org_amend.specs.declared.head.Unreadable.{Unreadable}
use Rattle.org_amend.specs.declared.head.Unreadable.TheVariants.{Keyword, Priority, Tags, Title}
use Rattle.org_base.specs.Results.{lent_in}
use Rattle.org_base.specs.Spans.{bytes_in}
use Rattle.org_base.specs.declared.span.Span.{Span}
use Rattle.org_head.specs.Cookie.{cookie_value}
use Rattle.org_head.specs.Head.{head_of}
use Rattle.org_head.specs.declared.head.Head.{Head}
use Rattle.org_settings.specs.Settings.{FileSettings}
use Rattle.org_text.specs.Replace.{max_bytes}

-- what a new heading is to say
pub record HeadWords : Type 0 where
  pub level : ℕ
  pub keyword : Option (List ℕ)
  pub priority : Option (List ℕ)
  pub title : List ℕ
  pub tags : List (List ℕ)

-- what a call asks for, as its words
abbrev pub words_of : NewHead → HeadWords
words_of head = record { level = head.level; keyword = option_copied head.keyword; priority = option_copied head.priority; title = head.title.now; tags = lent_in head.tags.now }

-- a word behind a space, if there is one
abbrev pub word_text : Option (List ℕ) → List ℕ
word_text None = []
word_text (Some word) = codes " " ++ word

-- the cookie of a priority
abbrev pub cookie : List ℕ → List ℕ
cookie priority = codes "[#" ++ (priority ++ codes "]")

-- the same behind a space, if there is a priority
abbrev pub cookie_text : Option (List ℕ) → List ℕ
cookie_text priority = word_text (option_map cookie priority)

-- tags, each with a colon behind it
abbrev pub tags_text : List (List ℕ) → List ℕ
tags_text [] = []
tags_text (tag ∷ tags) = tag ++ (codes ":" ++ tags_text tags)

-- the same behind a space and a colon, if there is one
abbrev pub all_tags_text : List (List ℕ) → List ℕ
all_tags_text [] = []
all_tags_text (tag ∷ tags) = codes " :" ++ tags_text (tag ∷ tags)

-- the heading line of these words, without what ends it
abbrev pub head_text : HeadWords → List ℕ
head_text words =
    replicate words.level 42 ++ (word_text words.keyword ++ (cookie_text words.priority ++ (codes " " ++ (words.title ++ all_tags_text words.tags))))

-- a part of a line is a word, or there is neither
abbrev pub same_part : List ℕ → Option Span → Option (List ℕ) → Bool
same_part line None None = true
same_part line None (Some word) = false
same_part line (Some span) None = false
same_part line (Some span) (Some word) = bytes_eq (bytes_in line span) word

-- a part of a line is the cookie of a priority, or there is neither
abbrev pub same_cookie : List ℕ → Option Span → Option (List ℕ) → Bool
same_cookie line None None = true
same_cookie line None (Some priority) = false
same_cookie line (Some span) None = false
same_cookie line (Some span) (Some priority) = bytes_eq (cookie_value (bytes_in line span)) priority

-- parts of a line are these words
abbrev pub same_parts : List ℕ → List Span → List (List ℕ) → Bool
same_parts line [] [] = true
same_parts line [] (word ∷ words) = false
same_parts line (span ∷ spans) [] = false
same_parts line (span ∷ spans) (word ∷ words) = bytes_eq (bytes_in line span) word && same_parts line spans words

-- what is to blame where a part isn't read back: what was asked for, or else the title
abbrev pub blamed : Bool → Unreadable → Unreadable
blamed was_asked part = if was_asked then part else Title

-- there are tags
abbrev pub has_tags : List (List ℕ) → Bool
has_tags [] = false
has_tags (tag ∷ tags) = true

-- the title, and that nothing hides the heading
abbrev pub same_title : List ℕ → Head → HeadWords → Bool
same_title line head words = not head.comment && bytes_eq (bytes_in line head.title) words.title

-- the first part of the words that the head of a line doesn't say
unfoldable pub lost_part : List ℕ → Head → HeadWords → Option Unreadable
lost_part line head words =
    if not (same_part line head.keyword words.keyword) then Some (blamed (is_some words.keyword) Keyword)
    else (if not (same_cookie line head.priority words.priority) then Some (blamed (is_some words.priority) Priority)
    else (if not (same_parts line head.tags words.tags) then Some (blamed (has_tags words.tags) Tags)
    else (if not (same_title line head words && head.level == words.level) then Some Title else None)))

-- the same of a line that is read in a file with these settings
abbrev pub lost_of : FileSettings → List ℕ → HeadWords → Option Unreadable
lost_of settings line words = lost_part line (head_of settings line) words

-- a byte that ends a line
abbrev pub is_break : ℕ → Bool
is_break b = (b == 10) || (b == 13)

-- there is a title, and the line is one and not too long
unfoldable pub is_line_of : HeadWords → List ℕ → Bool
is_line_of words text = not (length words.title == 0) && (nat_le (length text) max_bytes && not (list_any is_break text))

-- a line, unless something of it is lost
abbrev pub if_none_lost : List ℕ → Option Unreadable → Result (List ℕ) Unreadable
if_none_lost line None = Ok line
if_none_lost line (Some why) = Err why

-- the line as it is read in a file with these settings
abbrev pub read_back : FileSettings → HeadWords → List ℕ → Result (List ℕ) Unreadable
read_back settings words line = if_none_lost line (lost_of settings line words)

-- a text with this end as such a line, if it can be one
abbrev pub as_head_line : FileSettings → HeadWords → List ℕ → List ℕ → Result (List ℕ) Unreadable
as_head_line settings words end text = if is_line_of words text then read_back settings words (text ++ end) else Err Title

-- the heading line of these words with this end, in a file with these settings, or the part that would be read as something else
unfoldable pub head_line : FileSettings → HeadWords → List ℕ → Result (List ℕ) Unreadable
head_line settings words end = as_head_line settings words end (head_text words)

-- a line, or why there is none, as it is defined
abbrev pub seen : {A : Type 0} → Result (String A) Unreadable → Result (List ℕ) Unreadable
seen (Ok line) = Ok (string_bytes line)
seen (Err why) = Err why

abbrev pub GivesHead : {A E : Type 0} → Result (Result (String A) Unreadable) E → Result (List ℕ) Unreadable → Type 0
GivesHead result line = IfOk result (λ given. seen given ≡ line)
