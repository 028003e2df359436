-- The heading line of a heading that gets other tags or another priority, or loses its keyword (Org manual 9.6, "Setting Tags";
-- "Priorities"; where each part goes: profile, as Org writes it). What is written is read back: a line that would say something
-- else is none.
-- Characters by their codes: 9 tab, 32 space.
use Rattle.std.specs.Prelude.{ℕ, ◌+◌, Bool, true, false, ◌&&◌, ◌||◌, not, ◌==◌, nat_lt, if◌then◌else◌, List, ◌++◌, length, take, drop, replicate, slice_index, Option, Some, None, is_some, Result, Ok, Err, bytes_eq, codes}
use Rattle.std.specs.List.{prefix_len}
use Rattle.std.specs.Option.{option_map}
use Rattle.org_amend.specs.Heads.{all_tags_text, blamed, has_tags, same_cookie, same_part, same_parts}
use Rattle.org_amend.specs.Planning.{ends_like, text_if}
use Rattle.org_amend.specs.TagsColumn.{spaces_before}
use Rattle.org_amend.specs.Tails.{line_tail}
use Rattle.org_amend.specs.WantedTags.{parts_in, tags_by}
use Rattle.org_amend.specs.declared.head.Unreadable.{Unreadable}
use Rattle.org_amend.specs.declared.head.Unreadable.TheVariants as why
use Rattle.org_amend.specs.declared.head_change.HeadChange.{HeadChange}
use Rattle.org_amend.specs.declared.head_change.HeadChange.TheVariants.{NoKeyword, Priority, Tags}
use Rattle.org_amend.specs.declared.head_parts.Part.{Part}
use Rattle.org_amend.specs.declared.head_parts.Signs.{Signs}
use Rattle.org_base.specs.Results.{lent_in}
use Rattle.org_base.specs.Spans.{bytes_in}
use Rattle.org_base.specs.Words.{trim_end, trim_start}
use Rattle.org_base.specs.declared.span.Span.{Span}
use Rattle.org_class.specs.Heading.{begins_heading, stars}
use Rattle.org_head.specs.Cookie.{cookie_value}
use Rattle.org_head.specs.Head.{head_of}
use Rattle.org_head.specs.declared.head.Head.{Head}
use Rattle.org_settings.specs.Settings.{FileSettings}
use Rattle.org_text.specs.Replace.{max_bytes}

-- where the title of a line ends, and what stands up to there and behind it

abbrev pub title_end : Head → ℕ
title_end head = head.title.at + head.title.len

abbrev pub title_front : List ℕ → Head → List ℕ
title_front line head = take (title_end head) line

abbrev pub title_rest : List ℕ → Head → List ℕ
title_rest line head = drop (title_end head) line

-- a space behind stars alone
abbrev pub with_space : List ℕ → List ℕ
with_space front = if stars front == length front then front ++ codes " " else front

-- a line with these tags one space behind its title
abbrev pub tagged_line : List ℕ → Head → List (List ℕ) → List ℕ
tagged_line line head tags = (with_space (trim_end (title_front line head)) ++ all_tags_text tags) ++ line_tail line

-- the same with the tags that a change wants; a line that has them stays as it is
abbrev pub retagged_line : HeadChange → List ℕ → Head → List ℕ
retagged_line change line head =
    let tags = tags_by change (parts_in line head.tags) in if same_parts line head.tags tags then line else tagged_line line head tags

-- a line with a word between two signs from one place up to another
abbrev pub with_word : List ℕ → ℕ → ℕ → List ℕ → List ℕ → List ℕ → List ℕ
with_word line from to word before behind = (((take from line ++ before) ++ word) ++ behind) ++ drop to line

-- the same by a part of the line and the two signs
abbrev pub with_signs : List ℕ → Part → List ℕ → Signs → List ℕ
with_signs line part word signs = with_word line part.from part.to word signs.before.now signs.behind.now

-- a space or a tab
abbrev pub is_blank_byte : ℕ → Bool
is_blank_byte b = (b == 32) || (b == 9)

-- how many of them stand at a place
abbrev pub blanks_at : List ℕ → ℕ → ℕ
blanks_at line at = prefix_len is_blank_byte (drop at line)

-- where the first word behind the stars and the spaces that follow them begins, or would
abbrev pub words_at : List ℕ → ℕ
words_at line = stars line + prefix_len (λ b. b == 32) (drop (stars line) line)

-- where a part of a line ends
abbrev pub end_of : Span → ℕ
end_of span = span.at + span.len

-- the cookie of a priority behind the word that ends at a place, and before the one that begins there

abbrev pub cookie_behind : List ℕ → ℕ → List ℕ → List ℕ
cookie_behind line place word = with_word line place place word (codes " [#") (codes "]")

abbrev pub cookie_before : List ℕ → ℕ → List ℕ → List ℕ
cookie_before line place word = with_word line place place word (codes "[#") (codes "] ")

-- the same in a line without one: behind its keyword, else before its words
abbrev pub new_cookie : List ℕ → Option Span → List ℕ → List ℕ
new_cookie line None word = cookie_before line (words_at line) word
new_cookie line (Some keyword) word = cookie_behind line (end_of keyword) word

-- the same in the place of its own
abbrev pub with_cookie : List ℕ → Option Span → Option Span → List ℕ → List ℕ
with_cookie line None keyword word = new_cookie line keyword word
with_cookie line (Some cookie) keyword word = with_word line cookie.at (end_of cookie) word (codes "[#") (codes "]")

-- behind a space at a place, if one stands there
abbrev pub behind_space : List ℕ → ℕ → ℕ
behind_space line at = if nat_lt at (length line) && slice_index line at == 32 then at + 1 else at

-- a line without its cookie and one space behind it
abbrev pub without_cookie : List ℕ → Option Span → List ℕ
without_cookie line None = line
without_cookie line (Some cookie) = take cookie.at line ++ drop (behind_space line (end_of cookie)) line

-- a line with one space in the place of its keyword and what is blank around it
abbrev pub without_keyword : List ℕ → Option Span → List ℕ
without_keyword line None = line
without_keyword line (Some keyword) = (take (stars line) line ++ codes " ") ++ drop (end_of keyword + blanks_at line (end_of keyword)) line

-- a line of that head with a change, before its tags are aligned and it is read back
abbrev pub drafted : HeadChange → List ℕ → Head → List ℕ
drafted (Tags c) line head = retagged_line (Tags c) line head
drafted (Priority None) line head = without_cookie line head.priority
drafted (Priority (Some word)) line head = with_cookie line head.priority head.keyword word.now
drafted NoKeyword line head = without_keyword line head.keyword

abbrev pub head_draft : FileSettings → HeadChange → List ℕ → List ℕ
head_draft settings change line = drafted change line (head_of settings line)

-- a line of that head whose tags end in their column, but stand at least one space behind what is before them
abbrev pub aligned_line : List ℕ → Head → List ℕ
aligned_line line head =
    if length head.tags == 0 then line else
    (let front = trim_end (title_front line head) in
    let rest = trim_start (title_rest line head) in (front ++ replicate (spaces_before front (trim_end rest)) 32) ++ rest)

-- a change aligns tags: its own are not those of a keyword
abbrev pub aligns : HeadChange → Bool
aligns (Tags c) = true
aligns (Priority word) = true
aligns NoKeyword = false

-- a draft of a line with its tags aligned, unless a change aligns none, or nothing has changed
abbrev pub aligned_draft : FileSettings → HeadChange → List ℕ → List ℕ → List ℕ
aligned_draft settings change line draft =
    if aligns change && not (bytes_eq draft line) then aligned_line draft (head_of settings draft) else draft

-- what a change wants of a heading's keyword, and of its priority

abbrev pub keyword_by : HeadChange → Option (List ℕ) → Option (List ℕ)
keyword_by (Tags c) old = old
keyword_by (Priority word) old = old
keyword_by NoKeyword old = None

abbrev pub priority_by : HeadChange → Option (List ℕ) → Option (List ℕ)
priority_by (Tags c) old = old
priority_by (Priority word) old = option_map (λ w. w.now) word
priority_by NoKeyword old = old

-- the priority of a cookie in a line
abbrev pub cookie_in : List ℕ → Span → List ℕ
cookie_in line cookie = cookie_value (bytes_in line cookie)

-- the same of a line's own parts

abbrev pub wanted_keyword : HeadChange → List ℕ → Option Span → Option (List ℕ)
wanted_keyword change line was = keyword_by change (option_map (bytes_in line) was)

abbrev pub wanted_priority : HeadChange → List ℕ → Option Span → Option (List ℕ)
wanted_priority change line was = priority_by change (option_map (cookie_in line) was)

-- two answers to one question
abbrev pub same_answer : Bool → Bool → Bool
same_answer true b = b
same_answer false b = not b

-- a new line of one head says what a line of another says, but for a change; the same but for the tags

abbrev pub says_words : HeadChange → List ℕ → Head → List ℕ → Head → Bool
says_words change line was new now =
    (now.level == was.level) && same_answer now.comment was.comment && bytes_eq (bytes_in new now.title) (bytes_in line was.title)
    && same_part new now.keyword (wanted_keyword change line was.keyword)
    && same_cookie new now.priority (wanted_priority change line was.priority)

abbrev pub says_changed : HeadChange → List ℕ → Head → List ℕ → Head → Bool
says_changed change line was new now =
    says_words change line was new now && same_parts new now.tags (tags_by change (parts_in line was.tags))

-- the same of two lines, of which the new one is a heading line and ends as the old one
unfoldable pub is_changed : FileSettings → HeadChange → List ℕ → List ℕ → Bool
is_changed settings change line new =
    (begins_heading new && ends_like line new) && says_changed change line (head_of settings line) new (head_of settings new)

-- what is to blame where a line isn't read as what is asked for: that, or else the title
abbrev pub blamed_of : HeadChange → Unreadable
blamed_of (Tags c) = blamed (has_tags (lent_in c.added.now)) why.Tags
blamed_of (Priority word) = blamed (is_some word) why.Priority
blamed_of NoKeyword = why.Title

abbrev pub or_blamed : HeadChange → Option (List ℕ) → Result (List ℕ) Unreadable
or_blamed change None = Err (blamed_of change)
or_blamed change (Some line) = Ok line

-- a line, if it is read so
abbrev pub read_changed : FileSettings → HeadChange → List ℕ → List ℕ → Result (List ℕ) Unreadable
read_changed settings change line new = or_blamed change (text_if (is_changed settings change line new) new)

-- a draft with its tags aligned, if it is read so and isn't too long
abbrev pub finished : FileSettings → HeadChange → List ℕ → List ℕ → Result (List ℕ) Unreadable
finished settings change line draft =
    if nat_lt max_bytes (length draft) then Err (blamed_of change) else read_changed settings change line (aligned_draft settings change line draft)

-- a heading line with a change in a file with these settings, or what would be read as something else
unfoldable pub changed_head : FileSettings → HeadChange → List ℕ → Result (List ℕ) Unreadable
changed_head settings change line =
    if nat_lt max_bytes (length line) then Err (blamed_of change) else finished settings change line (head_draft settings change line)
