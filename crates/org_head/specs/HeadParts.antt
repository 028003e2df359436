-- What the parts of a heading line are (Org Syntax, "Headings"; that each is a whole word, and what white space is:
-- profile). The line is the spelling of its parts: stars, a gap, and each optional, with a gap after it, a keyword, a
-- cookie and COMMENT; then the title, a gap and the tags; then a gap. A gap is white space and the line feed.
-- Characters by their codes: 32 space, 42 *.
use Rattle.std.specs.Prelude.{ℕ, ◌+◌, ◌≡◌, ◌<◌, ◌⊎◌, Bool, true, false, not, List, [], ◌∷◌, ◌++◌, length, replicate, slice_index, codes, Option, Some, None}
use Rattle.std.specs.List.{list_all}
use Rattle.org_base.specs.Words.{is_letter, is_blank, trim_start, trim_end, first_word}
use Rattle.org_base.specs.declared.span.Span.{Span}
use Rattle.org_head.specs.declared.head.Head.{Head}
use Rattle.org_settings.specs.Settings.{FileSettings}
use Rattle.org_head.specs.Cookie.{is_cookie}
use Rattle.org_head.specs.Parts.{is_keyword, is_comment_word, is_colon, is_tag_word, last_word}
use Rattle.org_base.specs.Spans.{bytes_in, IsInside}

-- the text begins with a word, whole; after it stand a gap and what is left, at whose front no gap stands
pub record Begins (text word left : List ℕ) : Type 0 where
  pub gap : List ℕ
  pub spelled : text ≡ word ++ (gap ++ left)
  pub letters : list_all is_letter word ≡ true
  pub blank : is_blank gap ≡ true
  pub whole : gap ≡ [] → left ≡ []
  pub next : trim_start left ≡ left

-- a part of the line that begins where the text does, which the line ends in
pub record StandsAt (line text : List ℕ) (span : Span) : Type 0 where
  pub inside : IsInside line span
  pub place : span.at + length text ≡ length line

-- An optional part of one kind, at the front of the text that the line ends in: it is there exactly where the text's
-- first word is of that kind. Then the rest is left.
abbrev pub MayBegin : (List ℕ → Bool) → List ℕ → List ℕ → Option Span → List ℕ → Type 0
MayBegin is_one line text (Some span) left = (is_one (bytes_in line span) ≡ true) × StandsAt line text span × Begins text (bytes_in line span) left
MayBegin is_one line text None left = (is_one (first_word text) ≡ false) × (left ≡ text)

-- the word COMMENT at the front of the text, as an optional part is: it is there exactly where it is the first word
abbrev pub MayBeComment : List ℕ → Bool → List ℕ → Type 0
MayBeComment text true left = Begins text (codes "COMMENT") left
MayBeComment text false left = (is_comment_word (first_word text) ≡ false) × (left ≡ text)

-- the text is empty, or a colon stands at its front
abbrev pub ends_tag : List ℕ → Bool
ends_tag [] = true
ends_tag (b ∷ bs) = is_colon b

-- After colons the text has a tag, which isn't empty, and the rest after it. The text begins at this place of the
-- line, and the tag is this part of the line.
pub record NextTag (at : ℕ) (text : List ℕ) (span : Span) (rest : List ℕ) : Type 0 where
  pub colons : List ℕ
  pub tag : List ℕ
  pub spelled : text ≡ colons ++ (tag ++ rest)
  pub between : list_all is_colon colons ≡ true
  pub letters : list_all (λ b. not (is_colon b)) tag ≡ true
  pub some : 0 < length tag
  pub whole : ends_tag rest ≡ true
  pub place : span ≡ record { at = at + length colons; len = length tag }

-- the text that begins at this place of the line is these tags, with colons around and between them
abbrev pub TagsAt : ℕ → List ℕ → List Span → Type 0
TagsAt at text [] = list_all is_colon text ≡ true
TagsAt at text (span ∷ spans) = (rest : List ℕ) × NextTag at text span rest × TagsAt (span.at + span.len) rest spans

-- the text that the line ends in is a title, a gap, tags as a whole word, and a gap
pub record EndsInTags (line text title : List ℕ) (tags : List Span) : Type 0 where
  pub gap : List ℕ
  pub word : List ℕ
  pub rest : List ℕ
  pub at : ℕ
  pub spelled : text ≡ title ++ (gap ++ (word ++ rest))
  pub blank : is_blank gap ≡ true
  pub whole : gap ≡ [] → title ≡ []
  pub letters : list_all is_letter word ≡ true
  pub are_tags : is_tag_word word ≡ true
  pub end : is_blank rest ≡ true
  pub place : at + length (word ++ rest) ≡ length line
  pub tags_at : TagsAt at word tags

-- the text is a title and a gap; the title doesn't end in tags
pub record EndsInTitle (text title : List ℕ) (tags : List Span) : Type 0 where
  pub rest : List ℕ
  pub spelled : text ≡ title ++ rest
  pub no_tags : is_tag_word (last_word title) ≡ false
  pub end : is_blank rest ≡ true
  pub none : tags ≡ []

-- the parts of a heading line in a file with these settings. First stand as many stars as the level, one or more; then a
-- gap that begins with a space, and the words. Of these `from_cookie`, `from_comment` and `text` are left after the
-- keyword, the cookie and COMMENT
pub record HasParts (settings : FileSettings) (line : List ℕ) (head : Head) : Type 0 where
  pub gap : List ℕ
  pub words : List ℕ
  pub from_cookie : List ℕ
  pub from_comment : List ℕ
  pub text : List ℕ
  pub spelled : line ≡ replicate head.level 42 ++ (gap ++ words)
  pub stars : 0 < head.level
  pub space : slice_index gap 0 ≡ 32
  pub blank : is_blank gap ≡ true
  pub next : trim_start words ≡ words
  pub keyword : MayBegin (is_keyword settings.keywords) line words head.keyword from_cookie
  pub cookie : MayBegin is_cookie line from_cookie head.priority from_comment
  pub comment : MayBeComment from_comment head.comment text
  pub title : StandsAt line text head.title
  pub trimmed : trim_end (bytes_in line head.title) ≡ bytes_in line head.title
  pub tags : EndsInTags line text (bytes_in line head.title) head.tags ⊎ EndsInTitle text (bytes_in line head.title) head.tags
