-- The line under a heading with a stamp of a planning keyword, or without those of one (Org Syntax, "Planning"; where a new
-- keyword goes, and what stays of a line: profile, as Org writes it). What is written is read back: a line that would say
-- something else is none.
-- Characters by their codes: 10 line feed, 13 carriage return, 32 space.
use Rattle.std.specs.Prelude.{ℕ, ◌+◌, ◌-◌, Bool, true, ◌&&◌, not, ◌==◌, nat_le, if◌then◌else◌, List, [], ◌∷◌, ◌++◌, length, take, drop, position, slice_index, Option, Some, None, Result, IfOk, String, bytes_eq, codes, ◌≡◌}
use Rattle.std.specs.List.{prefix_len, slice_range}
use Rattle.std.specs.Option.{option_map, option_or}
use Rattle.std.specs.String.{string_bytes}
use Rattle.std.specs.Str.{is_utf8}
use Rattle.org_amend.specs.declared.typed.TypedDate.{TypedDate}
use Rattle.org_base.specs.Words.{is_blank, is_space}
use Rattle.org_class.specs.Drawers.{is_drawer_open}
use Rattle.org_class.specs.Heading.{begins_heading}
use Rattle.org_class.specs.LineClass.{has_hash}
use Rattle.org_drawer.specs.Planning.{is_same}
use Rattle.org_stamp.specs.Pair.{is_clock, is_planning, pairs, past_spaces}
use Rattle.org_stamp.specs.Paired.{keyword_text}
use Rattle.org_stamp.specs.Print.{stamp_text}
use Rattle.org_stamp.specs.declared.pair.Pair.{Pair}
use Rattle.org_stamp.specs.declared.pair.PlanningKeyword.{PlanningKeyword}
use Rattle.org_stamp.specs.declared.pair.PlanningKeyword.TheVariants.{Scheduled, Deadline, Closed}
use Rattle.org_stamp.specs.declared.stamp.Stamp.{Stamp}

-- the stamp of a date, which keeps repeater and delay of the pair whose place it takes, unless it has others
abbrev pub dated_stamp : TypedDate → Option Pair → Stamp
dated_stamp date None = record { active = true; day = date.day; time = date.time; end_time = date.end_time; repeater = date.repeater; delay = date.delay; last = None }
dated_stamp date (Some p) =
    record { active = true; day = date.day; time = date.time; end_time = date.end_time; repeater = option_or date.repeater p.stamp.repeater; delay = option_or date.delay p.stamp.delay; last = None }

-- the last pair with a keyword
abbrev pub last_pair : PlanningKeyword → List Pair → Option Pair
last_pair word [] = None
last_pair word (p ∷ ps) = option_or (last_pair word ps) (if is_same word p.word then Some p else None)

-- a keyword, its colon, a space and the text of a stamp
abbrev pub pair_text : PlanningKeyword → List ℕ → List ℕ
pair_text word stamp = keyword_text word ++ (codes " " ++ stamp)

-- a line with a text from one place up to another
abbrev pub with_part : List ℕ → ℕ → List ℕ → ℕ → List ℕ
with_part line at text end = take at line ++ (text ++ drop end line)

-- a line with a pair before all others, behind its indentation
abbrev pub with_pair : PlanningKeyword → List ℕ → List ℕ → List ℕ
with_pair word stamp line = let n = prefix_len is_space line in take n line ++ (pair_text word stamp ++ (codes " " ++ drop n line))

-- a line with the text of a stamp in the place of a pair's, a range whole; without one in a pair of its own
abbrev pub with_stamp_at : PlanningKeyword → List ℕ → List ℕ → Option Pair → List ℕ
with_stamp_at word stamp line (Some p) = with_part line p.at stamp p.end
with_stamp_at word stamp line None = with_pair word stamp line

-- the same in the place of the last pair of the keyword
unfoldable pub with_stamp : PlanningKeyword → List ℕ → List ℕ → List ℕ
with_stamp word stamp line = with_stamp_at word stamp line (last_pair word (pairs line))

-- what a line has from a place on without the pairs of a keyword, and without the white space before them
abbrev pub kept_from : PlanningKeyword → List ℕ → ℕ → List Pair → List ℕ
kept_from word line at [] = drop at line
kept_from word line at (p ∷ ps) =
    if is_same word p.word then kept_from word line p.end ps else slice_range line at p.end ++ kept_from word line p.end ps

-- a planning line without the pairs of a keyword; its indentation stays
unfoldable pub without_pairs : PlanningKeyword → List ℕ → List ℕ
without_pairs word line = take (prefix_len is_space line) line ++ past_spaces (kept_from word line 0 (pairs line))

-- an empty line that ends as a line does
abbrev pub empty_line : List ℕ → List ℕ
empty_line line = if nat_le 2 (length line) && slice_index line (length line - 2) == 13 then codes "\r\n" else codes "\n"

-- what is left of a planning line that is blank: nothing, or an empty line where the next one would be read in its place
abbrev pub blank_line : List ℕ → List ℕ → List ℕ
blank_line line next = if is_planning next then empty_line line else []

-- what is left of a planning line without the pairs of a keyword
unfoldable pub left_line : PlanningKeyword → List ℕ → List ℕ → List ℕ
left_line word line next = let kept = without_pairs word line in if is_blank kept then blank_line line next else kept

-- the bytes of a pair's stamp, of a range the first one
abbrev pub pair_bytes : List ℕ → Option Pair → List ℕ
pair_bytes line None = []
pair_bytes line (Some p) = slice_range line p.at (p.at + p.len)

-- the bytes of the stamp that a line has under a keyword; none where it has none
abbrev pub bytes_under : PlanningKeyword → List ℕ → List ℕ
bytes_under word line = pair_bytes line (last_pair word (pairs line))

-- what is to stand under a keyword, where a text is to stand under another one and all else stays
abbrev pub wanted_under : PlanningKeyword → List ℕ → List ℕ → PlanningKeyword → List ℕ
wanted_under word stamp old other = if is_same word other then stamp else bytes_under other old

-- a new line says so under a keyword
unfoldable pub says_under : PlanningKeyword → List ℕ → List ℕ → List ℕ → PlanningKeyword → Bool
says_under word stamp old new other = bytes_eq (bytes_under other new) (wanted_under word stamp old other)

-- a new line says the text of a stamp under one keyword, and what the old line says under the others
unfoldable pub says : PlanningKeyword → List ℕ → List ℕ → List ℕ → Bool
says word stamp old new = says_under word stamp old new Scheduled && (says_under word stamp old new Deadline && says_under word stamp old new Closed)

-- a line feed is the last byte
abbrev pub has_feed : List ℕ → Bool
has_feed line = slice_index line (length line - 1) == 10

-- a line feed at its end alone, where another line ends so, or none
abbrev pub ends_at : List ℕ → List ℕ → Option ℕ → Bool
ends_at old new None = not (has_feed old)
ends_at old new (Some feed) = (feed + 1 == length new) && has_feed old

unfoldable pub ends_like : List ℕ → List ℕ → Bool
ends_like old new = ends_at old new (position (λ b. b == 10) new)

-- a line that the new one ends like: the planning line, or else what ends the heading's line
abbrev pub ending : List ℕ → List ℕ → List ℕ
ending line end = if is_planning line then line else end

-- the line with the text of a stamp, in the planning line or in a new line with this end
unfoldable pub dated_draft : PlanningKeyword → List ℕ → List ℕ → List ℕ → List ℕ
dated_draft word stamp line end =
    if is_planning line then with_stamp word stamp line else pair_text word stamp ++ end

-- it is one line, and says so
unfoldable pub is_said : PlanningKeyword → List ℕ → List ℕ → List ℕ → List ℕ → Bool
is_said word stamp line end new = says word stamp line new && ends_like (ending line end) new

-- bytes that are wanted and are text
abbrev pub text_if : Bool → List ℕ → Option (List ℕ)
text_if is_wanted bytes = if is_wanted && is_utf8 bytes then Some bytes else None

-- the text of the stamp of a date in a line
unfoldable pub date_text : PlanningKeyword → TypedDate → List ℕ → List ℕ
date_text word date line = stamp_text (dated_stamp date (last_pair word (pairs line)))

-- the line under a heading with a date under a keyword: the planning line, or a new one with this end; none where it would say
-- something else
unfoldable pub dated_line : PlanningKeyword → TypedDate → List ℕ → List ℕ → Option (List ℕ)
dated_line word date line end =
    let stamp = date_text word date line in
    let new = dated_draft word stamp line end in text_if (is_said word stamp line end new) new

-- the line is text, and neither it nor the next one would be read as something else
unfoldable pub is_plain : List ℕ → List ℕ → Bool
is_plain line next =
    not (begins_heading line) && (not (has_hash line) && (not (is_clock line) && (not (is_drawer_open line) && not (is_drawer_open next))))

-- what is left is a planning line, or nothing before a line that is none, or text
unfoldable pub stays : List ℕ → List ℕ → List ℕ → Bool
stays line next left =
    if is_planning left then ends_like line left
    else (if length left == 0 then not (is_planning next) else ends_like line left && is_plain left next)

-- nothing is left under a keyword, all else is, and nothing would be read otherwise
unfoldable pub is_left : PlanningKeyword → List ℕ → List ℕ → List ℕ → Bool
is_left word line next left = says word [] line left && stays line next left

-- the line under a heading without the stamps of a keyword, before the next line; none where something would be read otherwise
unfoldable pub undated_line : PlanningKeyword → List ℕ → List ℕ → Option (List ℕ)
undated_line word line next = let left = left_line word line next in text_if (is_left word line next left) left

-- a string of these bytes, or none where there are none, unless it's refused
abbrev pub GivesLine : {A E : Type 0} → Result (Option (String A)) E → Option (List ℕ) → Type 0
GivesLine result line = IfOk result (λ given. option_map string_bytes given ≡ line)
