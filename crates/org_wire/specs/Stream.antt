-- The commands of a stream of bytes (profile).
-- Characters by their codes: 10 line feed, 32 space, 48 0, 57 9, 124 |.
use Rattle.org_wire.specs.declared.line.TheConstants.{LONGEST}
use Rattle.std.specs.Option.{option_and_then, option_map}
use Rattle.std.specs.Prelude.{◌≡◌, ℕ, ◌+◌, ◌-◌, ◌*◌, List, [], ◌∷◌, Bool, not, true, false, ◌&&◌, ◌==◌, ◌++◌, nat_eq, nat_lt, nat_le, Option, None, Some, IfSome, length, take, drop, codes, if◌then◌else◌}
use Rattle.std.specs.Io.KnownBytes.{Consumes}
use Rattle.std.specs.List.{list_all, starts_with}
use Rattle.std.specs.Str.{bytes_eq, is_utf8}
use Rattle.org_base.specs.FileName.{is_file_name}
use Rattle.org_base.specs.declared.code.Code.TheVariants.{Memory, Long, Size, Cut, Device}
use Rattle.org_base.specs.declared.code.Code.TheVariants as code
use Rattle.org_base.specs.declared.fault.Fault.TheVariants.{Plain}
use Rattle.org_base.specs.declared.profile.Profile.TheVariants.{One, Two}
use Rattle.org_cal.specs.Texts.{date_of, time_of}
use Rattle.org_cal.specs.declared.moment.Moment.{Moment}
use Rattle.org_engine.specs.declared.question.Form.TheVariants as form
use Rattle.org_text.specs.Replace.{max_bytes}
use Rattle.org_wire.specs.Lines.{cut_at}
use Rattle.org_wire.specs.Lines as lines
use Rattle.org_wire.specs.declared.words.TheConstants.{MOST_NUMBER}
use Rattle.org_wire.specs.declared.command.Command.{Command}
use Rattle.org_wire.specs.declared.command.Command.TheVariants.{Add, Agenda, At, Clock, Complete, Drop, Edit, Inherit, Keywords, Match, Pin, Profile, Text, Todo, Unpin, Version}
use Rattle.org_wire.specs.declared.command.PayloadHeader.{PayloadHeader}
use Rattle.org_wire.specs.declared.command.PayloadHeader.TheVariants as frame
use Rattle.org_wire.specs.declared.command.Request.{Request}
use Rattle.org_wire.specs.declared.protocol.Protocol.{Protocol}
use Rattle.org_wire.specs.declared.protocol.Protocol.TheVariants.{First, Second}
use Rattle.org_wire.specs.declared.command.BaseVersion.{BaseVersion}
use Rattle.org_wire.specs.declared.command.Next.{Next}
use Rattle.org_wire.specs.declared.command.Next.TheVariants.{Given, Refused, Last, Ended}

-- whether the second protocol is spoken
abbrev pub is_second : Protocol → Bool
is_second First = false
is_second Second = true

-- what a line says: nothing, a whole command, or one whose payload of so many bytes follows
pub data Line : Type 0 where
  Bad : Line
  Plainly : (command : Command) → Line
  Framed : (frame : PayloadHeader) (size : ℕ) → Line

-- the largest number
abbrev pub most_number : ℕ
most_number = MOST_NUMBER

-- the number that more digits make of a number
abbrev pub number_from : ℕ → List ℕ → Option ℕ
number_from n [] = Some n
number_from n (d ∷ ds) = if nat_le 48 d && nat_le d 57 && nat_le (10 * n + (d - 48)) most_number then number_from (10 * n + (d - 48)) ds else None

-- a number: `0`, or digits with no zero in front
abbrev pub number_of : List ℕ → Option ℕ
number_of [] = None
number_of (d ∷ []) = number_from 0 (d ∷ [])
number_of (d ∷ (e ∷ ds)) = if d == 48 then None else number_from 0 (d ∷ (e ∷ ds))

-- a word that is a file's name; the other words are ASCII, so a line is UTF-8 where its name is
abbrev pub is_name : List ℕ → Bool
is_name word = is_file_name word && is_utf8 word

-- `drop NAME`
abbrev pub drop_line : List ℕ → Line
drop_line name = if is_name name then Plainly (Drop name) else Bad

-- `text NAME`
abbrev pub text_line : List ℕ → Line
text_line name = if is_name name then Plainly (Text name) else Bad

-- `keywords NAME`
abbrev pub keywords_line : List ℕ → Line
keywords_line name = if is_name name then Plainly (Keywords name) else Bad

-- single bytes of a kind separate words, none of them empty; at true one begins here
abbrev pub are_words : ℕ → Bool → List ℕ → Bool
are_words gap begins [] = not begins
are_words gap begins (b ∷ bs) = if b == gap then not begins && are_words gap true bs else are_words gap false bs

-- the words between bytes of a kind, after an open word
abbrev pub words_from : ℕ → List ℕ → List ℕ → List (List ℕ)
words_from gap word [] = word ∷ []
words_from gap word (b ∷ bs) = if b == gap then word ∷ words_from gap [] bs else words_from gap (word ++ b ∷ []) bs

-- no space stands in it
abbrev pub is_word : List ℕ → Bool
is_word text = list_all (λ b. not (b == 32)) text

-- `todo KW|KW`, from its first keyword on: one word, of keywords between bars
abbrev pub todo_line : Request → Option (List ℕ) → List ℕ → Line
todo_line request file words = if is_utf8 words && is_word words && are_words 124 true words then Plainly (Todo request file (words_from 124 [] words)) else Bad

-- `match EXPR`, whose expression is the rest of the line
abbrev pub match_line : Request → Option (List ℕ) → List ℕ → Line
match_line request file text = if is_utf8 text then Plainly (Match request file text) else Bad

-- `clock OPTIONS`, whose options are the rest of the line
abbrev pub clock_line : Request → List ℕ → Line
clock_line request text = if is_utf8 text then Plainly (Clock request text) else Bad

-- `inherit NAME ..`, from its first name on
abbrev pub inherit_line : List ℕ → Line
inherit_line names = if is_utf8 names && are_words 32 true names then Plainly (Inherit (words_from 32 [] names)) else Bad

-- a payload follows that is as long as a number says
abbrev pub sized : PayloadHeader → Option ℕ → Line
sized frame None = Bad
sized frame (Some size) = Framed frame size

-- `add NAME LEN`, from its name on
abbrev pub add_line : Option lines.Cut → Line
add_line None = Bad
add_line (Some cut) = if is_name cut.before then sized (frame.Add cut.before) (number_of cut.after) else Bad

-- one word that isn't empty
abbrev pub is_one_word : List ℕ → Bool
is_one_word text = not (length text == 0) && is_word text && is_utf8 text

-- a date, and days where they are a number
abbrev pub dated_line : Request → List ℕ → Option ℕ → Line
dated_line request date None = Bad
dated_line request date (Some days) = Plainly (Agenda request date days)

-- `agenda DATE DAYS`, from its date on
abbrev pub agenda_line : Request → Option lines.Cut → Line
agenda_line request None = Bad
agenda_line request (Some cut) = if is_one_word cut.before then dated_line request cut.before (number_of cut.after) else Bad

-- the moment of a day and a time, where both could be read
abbrev pub moment_of : Option ℕ → Option ℕ → Option Moment
moment_of day time = option_and_then (λ on. option_map (λ at. record { day = on; minute = at }) time) day

-- `at DATE TIME`, from its date on
abbrev pub at_line : Option lines.Cut → Line
at_line None = Bad
at_line (Some cut) =
    if is_one_word cut.before && is_one_word cut.after then Plainly (At (moment_of (date_of cut.before) (time_of cut.after))) else Bad

-- a first word that is a number, and what follows it
abbrev pub with_rest : Option ℕ → List ℕ → Option (ℕ × List ℕ)
with_rest None rest = None
with_rest (Some n) rest = Some (n, rest)

-- the first word as a number, and what follows it, where the text has a space
abbrev pub first_number : Option lines.Cut → Option (ℕ × List ℕ)
first_number None = None
first_number (Some cut) = with_rest (number_of cut.before) cut.after

-- `S NAME SERIAL`, which say what a session saw, and what follows them
abbrev pub seen_serial : ℕ → List ℕ → Option (ℕ × List ℕ) → Option (BaseVersion × List ℕ)
seen_serial session name None = None
seen_serial session name (Some serial) = Some (record { session = session; name = name; serial = serial.0 }, serial.1)

-- the same from the name on
abbrev pub seen_name : ℕ → Option lines.Cut → Option (BaseVersion × List ℕ)
seen_name session None = None
seen_name session (Some cut) = if is_name cut.before then seen_serial session cut.before (first_number (cut_at 32 cut.after)) else None

-- the same after the session
abbrev pub seen_session : Option (ℕ × List ℕ) → Option (BaseVersion × List ℕ)
seen_session None = None
seen_session (Some session) = seen_name session.0 (cut_at 32 session.1)

-- the same of a text
abbrev pub seen_of : List ℕ → Option (BaseVersion × List ℕ)
seen_of text = seen_session (first_number (cut_at 32 text))

-- `edit S NAME SERIAL AT DEL LEN`, after what was seen, after AT, and whole
abbrev pub edit_del : BaseVersion → ℕ → Option (ℕ × List ℕ) → Line
edit_del seen at None = Bad
edit_del seen at (Some del) = sized (frame.Edit seen at del.0) (number_of del.1)

-- the same from AT on
abbrev pub edit_at : BaseVersion → Option (ℕ × List ℕ) → Line
edit_at seen None = Bad
edit_at seen (Some at) = edit_del seen at.0 (first_number (cut_at 32 at.1))

-- the line after its first word
abbrev pub edit_line : Option (BaseVersion × List ℕ) → Line
edit_line None = Bad
edit_line (Some seen) = edit_at seen.0 (first_number (cut_at 32 seen.1))

-- `complete S NAME SERIAL LINE KEYWORD`, after what was seen, and whole
abbrev pub complete_at : BaseVersion → Option (ℕ × List ℕ) → Line
complete_at seen None = Bad
complete_at seen (Some line) = if is_one_word line.1 then Plainly (Complete seen line.0 line.1) else Bad

-- the line after its first word
abbrev pub complete_line : Option (BaseVersion × List ℕ) → Line
complete_line None = Bad
complete_line (Some seen) = complete_at seen.0 (first_number (cut_at 32 seen.1))

-- `profile 1` or `profile 2`
abbrev pub profile_line : List ℕ → Line
profile_line word = if bytes_eq word (codes "1") then Plainly (Profile One)
    else if bytes_eq word (codes "2") then Plainly (Profile Two)
    else Bad

-- `pin S`
abbrev pub pin_line : Option ℕ → Line
pin_line None = Bad
pin_line (Some session) = Plainly (Pin session)

-- `unpin S`
abbrev pub unpin_line : Option ℕ → Line
unpin_line None = Bad
unpin_line (Some session) = Plainly (Unpin session)

-- a list with words after it, over all files or over the one of a name
abbrev pub list_words : Request → Option (List ℕ) → Option lines.Cut → Line
list_words request file None = Bad
list_words request file (Some cut) = if bytes_eq cut.before (codes "todo") then todo_line request file cut.after
    else if bytes_eq cut.before (codes "match") then match_line request file cut.after
    else Bad

-- a list that is a word alone, or has words after it
abbrev pub list_line : Request → Option (List ℕ) → List ℕ → Line
list_line request file line = if bytes_eq line (codes "todo") then Plainly (Todo request file [])
    else if bytes_eq line (codes "match") then Plainly (Match request file [])
    else list_words request file (cut_at 32 line)

-- `file=NAME` and a list
abbrev pub file_line : Request → List ℕ → List ℕ → Line
file_line request name line = if is_name name then list_line request (Some name) line else Bad

-- a view, of the current world or of one that a session keeps
abbrev pub view_words : Request → Option lines.Cut → Line
view_words request None = Bad
view_words request (Some cut) = if bytes_eq cut.before (codes "todo") then todo_line request None cut.after
    else if bytes_eq cut.before (codes "match") then match_line request None cut.after
    else if starts_with nat_eq cut.before (codes "file=") then file_line request (drop 5 cut.before) cut.after
    else if bytes_eq cut.before (codes "clock") then clock_line request cut.after
    else if bytes_eq cut.before (codes "agenda") then agenda_line request (cut_at 32 cut.after)
    else Bad

-- a view that is a word alone, or has words after it
abbrev pub view_line : Request → List ℕ → Line
view_line request line = if bytes_eq line (codes "todo") then Plainly (Todo request None [])
    else if bytes_eq line (codes "match") then Plainly (Match request None [])
    else if bytes_eq line (codes "clock") then Plainly (Clock request [])
    else view_words request (cut_at 32 line)

-- a question of a world: for the text of a view, or in the second protocol for where its lines lead
abbrev pub question_line : Bool → Option ℕ → List ℕ → Line
question_line second session line = if second && starts_with nat_eq line (codes "places ")
    then view_line (record { session = session; form = form.Places }) (drop 7 line)
    else view_line (record { session = session; form = form.Text }) line

-- `pinned S` and a question
abbrev pub pinned_line : Bool → Option (ℕ × List ℕ) → Line
pinned_line second None = Bad
pinned_line second (Some session) = question_line second (Some session.0) session.1

-- a line of a profile or a pin, cut after its first word; any other asks the current world for a view
abbrev pub others_line : Bool → List ℕ → lines.Cut → Line
others_line second line cut = if bytes_eq cut.before (codes "profile") then profile_line cut.after
    else if bytes_eq cut.before (codes "pin") then pin_line (number_of cut.after)
    else if bytes_eq cut.before (codes "unpin") then unpin_line (number_of cut.after)
    else if bytes_eq cut.before (codes "pinned") then pinned_line second (first_number (cut_at 32 cut.after))
    else if bytes_eq cut.before (codes "keywords") && second then keywords_line cut.after
    else question_line second None line

-- a line of several words, cut after its first; without one the current world is asked for a view
abbrev pub words_line : Bool → List ℕ → Option lines.Cut → Line
words_line second line None = question_line second None line
words_line second line (Some cut) = if bytes_eq cut.before (codes "edit") then edit_line (seen_of cut.after)
    else if bytes_eq cut.before (codes "complete") then complete_line (seen_of cut.after)
    else if bytes_eq cut.before (codes "text") then text_line cut.after
    else if bytes_eq cut.before (codes "drop") then drop_line cut.after
    else if bytes_eq cut.before (codes "inherit") then inherit_line cut.after
    else if bytes_eq cut.before (codes "at") then at_line (cut_at 32 cut.after)
    else if bytes_eq cut.before (codes "add") then add_line (cut_at 32 cut.after)
    else others_line second line cut

-- what a line says, in the second protocol or in the first
unfoldable pub line_of : Bool → List ℕ → Line
line_of second line = if bytes_eq line (codes "inherit") then Plainly (Inherit [])
    else if bytes_eq line (codes "version") && second then Plainly Version
    else words_line second line (cut_at 32 line)

-- what comes next on a stream, and the bytes that follow it
pub record Reading : Type 0 where
  pub next : Next
  pub rest : List ℕ

-- the command whose line announced a payload, with that payload
abbrev pub command_of_frame : PayloadHeader → List ℕ → Command
command_of_frame (frame.Add name) bytes = Add name bytes
command_of_frame (frame.Edit seen at del) bytes = Edit seen at del bytes

-- what comes next after a line. A payload that it announces is taken where it may be that long and is whole
abbrev pub after_line : Line → List ℕ → Reading
after_line Bad rest = record { next = Refused (Plain code.Command); rest = rest }
after_line (Plainly command) rest = record { next = Given command; rest = rest }
after_line (Framed frame size) rest = if nat_lt max_bytes size then record { next = Last (Plain Size); rest = rest }
    else if nat_lt (length rest) size then record { next = Last (Plain Cut); rest = [] }
    else record { next = Given (command_of_frame frame (take size rest)); rest = drop size rest }

-- the same, as lines are read
abbrev pub behind : Bool → List ℕ → List ℕ → Reading
behind second line = after_line (line_of second line)

-- what comes next on a stream that is cut at its first LF
abbrev pub after_cut : (List ℕ → Line) → Option lines.Cut → Reading
after_cut says None = record { next = Last (Plain Cut); rest = [] }
after_cut says (Some cut) = if nat_lt LONGEST (length cut.before) then record { next = Refused (Plain Long); rest = cut.after }
    else after_line (says cut.before) cut.after

-- what comes next on a stream
abbrev pub read_by : (List ℕ → Line) → List ℕ → Reading
read_by says [] = record { next = Ended; rest = [] }
read_by says (b ∷ bytes) = after_cut says (cut_at 10 (b ∷ bytes))

-- the same, as lines are read
abbrev pub reading_of : Bool → List ℕ → Reading
reading_of second = read_by (line_of second)

-- a command that may take memory: all but `at`, `profile` and `unpin`
abbrev pub MayTakeMemory : Command → Type 0
MayTakeMemory (At moment) = ⊥
MayTakeMemory (Profile profile) = ⊥
MayTakeMemory (Unpin session) = ⊥
MayTakeMemory _ = Unit {0}

-- where out of memory may be answered instead: a whole command that may take memory; not a bad line, nor a payload that
-- is too long or cut off
abbrev pub IsReplaceable : Next → Type 0
IsReplaceable (Given command) = MayTakeMemory command
IsReplaceable _ = ⊥

-- a command that found no memory
abbrev pub out_of_memory : Next
out_of_memory = Refused (Plain Memory)

-- a reader that failed
abbrev pub broken : Next
broken = Last (Plain Device)

-- this was read, but for out of memory and broken devices
pub record IsRead (reading : Reading) (next : Next) (left : Option (List ℕ)) : Type 0 where
  pub rest : (next ≡ broken → ⊥) → left ≡ Some reading.rest
  pub is : (next ≡ broken → ⊥) → (next ≡ out_of_memory → ⊥) → next ≡ reading.next
  pub memory : next ≡ out_of_memory → IsReplaceable reading.next

-- the bytes end before the next command is whole
abbrev pub IsUnfinished : Next → Type 0
IsUnfinished Ended = Unit {0}
IsUnfinished (Last fault) = fault ≡ Plain Cut
IsUnfinished _ = ⊥

-- of known bytes so many were taken that no command is whole in them
abbrev pub StopsWithin : (List ℕ → Reading) → Option (List ℕ) → Option (List ℕ) → Type 0
StopsWithin reading old new = IfSome old (λ bytes. (taken : List ℕ) × Consumes (Some bytes) new taken × IsUnfinished (reading taken).next)

-- this was read of known bytes by such a reading, and these are left
abbrev pub ReadsBy : (List ℕ → Reading) → Option (List ℕ) → Next → Option (List ℕ) → Type 0
ReadsBy reading old next new = IfSome old (λ bytes. IsRead (reading bytes) next new)
