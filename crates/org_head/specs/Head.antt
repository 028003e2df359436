-- The parts of a heading line, read from the left (Org Syntax, "Headings"; that each is a whole word: profile).
use Rattle.std.specs.Prelude.{ℕ, ◌+◌, ◌-◌, Bool, if◌then◌else◌, List, [], length, take, drop, Option, Some, None, IfSome}
use Rattle.std.specs.List.{All}
use Rattle.org_base.specs.Words.{trim_start, trim_end, first_word}
use Rattle.org_base.specs.declared.span.Span.{Span}
use Rattle.org_head.specs.declared.head.Head.{Head}
use Rattle.org_base.specs.Spans.{bytes_in, IsInside}
use Rattle.org_class.specs.Heading.{stars}
use Rattle.org_settings.specs.Settings.{FileSettings}
use Rattle.org_settings.specs.Priority.{priority_number}
use Rattle.org_head.specs.Cookie.{is_cookie, cookie_value}
use Rattle.org_head.specs.Parts.{is_keyword, is_comment_word, is_tag_word, last_word}
use Rattle.org_head.specs.Tags.{spans_from}

-- the first word of what a line of so many bytes ends in, as a part of the line, if it is one that may stand there
abbrev pub first_part : Bool → ℕ → List ℕ → Option Span
first_part is_part n rest = if is_part then Some (record { at = n - length rest; len = length (first_word rest) }) else None

-- what is left after the first word and the gap that follows it, if it is a part; else all
abbrev pub behind : Bool → List ℕ → List ℕ
behind is_part rest = if is_part then trim_start (drop (length (first_word rest)) rest) else rest

-- what is left of a heading line after the stars and the gap that follows
abbrev pub behind_stars : List ℕ → List ℕ
behind_stars line = trim_start (drop (stars line) line)

-- what is left of a heading line after its keyword, or after the stars where it has none
abbrev pub behind_keyword : FileSettings → List ℕ → List ℕ
behind_keyword settings line = let rest = behind_stars line in behind (is_keyword settings.keywords (first_word rest)) rest

-- what is left of a heading line after its keyword and its cookie, those that stand there
abbrev pub behind_cookie : FileSettings → List ℕ → List ℕ
behind_cookie settings line = let rest = behind_keyword settings line in behind (is_cookie (first_word rest)) rest

-- the title of what is left of a heading line: all but its last word, where that is tags
abbrev pub title_of : List ℕ → List ℕ
title_of text = if is_tag_word (last_word text) then trim_end (take (length text - length (last_word text)) text) else text

-- the tags at the end of a text that begins at a place of the line, each as a part of the line
abbrev pub tags_of : ℕ → List ℕ → List Span
tags_of at text = if is_tag_word (last_word text) then spans_from (at + (length text - length (last_word text))) 0 (last_word text) else []

-- the parts of a heading line in a file with these settings
abbrev pub head_of : FileSettings → List ℕ → Head
head_of settings line =
    let n = length line in
    let words = behind_stars line in
    let left = (let rest = behind_cookie settings line in behind (is_comment_word (first_word rest)) rest) in
    let at = n - length left in
    record {
      level = stars line;
      keyword = first_part (is_keyword settings.keywords (first_word words)) n words;
      priority = (let rest = behind_keyword settings line in first_part (is_cookie (first_word rest)) n rest);
      comment = is_comment_word (first_word (behind_cookie settings line));
      title = record { at = at; len = length (title_of (trim_end left)) };
      tags = tags_of at (trim_end left);
    }

-- the priority number of a cookie, or the file's default where there is none
abbrev pub priority_at : FileSettings → List ℕ → Option Span → ℕ
priority_at settings line None = settings.default_priority
priority_at settings line (Some cookie) = priority_number (cookie_value (bytes_in line cookie))

-- the priority number of a heading
abbrev pub priority_of : FileSettings → List ℕ → Head → ℕ
priority_of settings line head = priority_at settings line head.priority

-- all parts lie within the line
pub record AreInside (line : List ℕ) (head : Head) : Type 0 where
  pub keyword : IfSome head.keyword (IsInside line)
  pub priority : IfSome head.priority (IsInside line)
  pub title : IsInside line head.title
  pub tags : All (IsInside line) head.tags
