-- How the stream's lines are spelled, without the reader's steps (profile).
-- Characters by their codes: 32 space, 124 |.
use Rattle.org_wire.specs.declared.words.TheConstants.{MOST_NUMBER}
use Rattle.std.specs.Option.{option_to_list, option_map}
use Rattle.std.specs.Prelude.{◌≡◌, ◌↔◌, Bool, ◌≢◌, ◌⊎◌, ℕ, ◌<◌, ◌≤◌, true, List, [], ◌∷◌, ◌++◌, Option, None, Some, codes, decimal, length, IfSome}
use Rattle.std.specs.List.{All}
use Rattle.std.specs.Str.{IsUtf8}
use Rattle.org_base.specs.FileName.{is_file_name}
use Rattle.org_base.specs.declared.profile.Profile.{Profile as AnyProfile}
use Rattle.org_base.specs.declared.profile.Profile.TheVariants.{One, Two}
use Rattle.org_cal.specs.Texts.{date_of, time_of}
use Rattle.org_cal.specs.declared.moment.Moment.{Moment}
use Rattle.org_engine.specs.declared.question.Form.{Form}
use Rattle.org_engine.specs.declared.question.Form.TheVariants as form
use Rattle.org_wire.specs.Stream.{Framed, Line, Plainly, moment_of}
use Rattle.org_wire.specs.declared.command.Command.{Command}
use Rattle.org_wire.specs.declared.command.Command.TheVariants.{Add, Agenda, At, Clock, Complete, Drop, Edit, Inherit, Keywords, Match, Pin, Profile, Text, Todo, Unpin, Version}
use Rattle.org_wire.specs.declared.command.PayloadHeader.{PayloadHeader}
use Rattle.org_wire.specs.declared.command.PayloadHeader.TheVariants as frame
use Rattle.org_wire.specs.declared.command.Request.{Request}
use Rattle.org_wire.specs.declared.command.BaseVersion.{BaseVersion}

-- parts with one byte between
abbrev pub parted : ℕ → List (List ℕ) → List ℕ
parted gap [] = []
parted gap (part ∷ []) = part
parted gap (part ∷ (next ∷ parts)) = part ++ (gap ∷ parted gap (next ∷ parts))

-- parts with one space between
abbrev pub spaced : List (List ℕ) → List ℕ
spaced parts = parted 32 parts

-- a part: it isn't empty, and the byte that parts it from others doesn't stand in it
abbrev pub IsApart : ℕ → List ℕ → Type 0
IsApart gap word = (0 < length word) × All (λ b. b ≢ gap) word

-- a word: UTF-8, not empty, without a space
abbrev pub IsWord : List ℕ → Type 0
IsWord word = IsApart 32 word × IsUtf8 word

-- a file's name: UTF-8 of 1 to 255 bytes, no space and no ASCII control character among them
abbrev pub IsName : List ℕ → Type 0
IsName name = (is_file_name name ≡ true) × IsUtf8 name

-- a number that isn't too large; it is spelled by its decimal text
abbrev pub IsNumber : ℕ → Type 0
IsNumber n = n ≤ MOST_NUMBER

-- what a session saw: `S NAME SERIAL`
abbrev pub seen_parts : BaseVersion → List (List ℕ)
seen_parts seen = decimal seen.session ∷ (seen.name ∷ (decimal seen.serial ∷ []))

-- what a session says that it saw: its numbers aren't too large, and its name is a file's
abbrev pub IsSeen : BaseVersion → Type 0
IsSeen seen = IsNumber seen.session × IsName seen.name × IsNumber seen.serial

-- `places` in front of the parts of a view whose places are asked for
abbrev pub form_parts : Form → List (List ℕ)
form_parts form.Text = []
form_parts form.Places = codes "places" ∷ []

-- a protocol knows the form: each knows text, the second one knows places too
abbrev pub IsKnown : Bool → Form → Type 0
IsKnown second form.Text = Unit {0}
IsKnown second form.Places = second ≡ true

-- the parts of a question, with `pinned S` in front where it is asked of what a session keeps
abbrev pub IsQuestion : Option ℕ → List (List ℕ) → List ℕ → Type 0
IsQuestion None parts line = line ≡ spaced parts
IsQuestion (Some session) parts line = (line ≡ spaced (codes "pinned" ∷ (decimal session ∷ parts))) × IsNumber session

-- the line of a request: `pinned S` if a session is asked, `places` if places are asked for, and then the view's parts
abbrev pub IsView : Bool → Request → List (List ℕ) → List ℕ → Type 0
IsView second request parts line = IsQuestion request.session (form_parts request.form ++ parts) line × IsKnown second request.form

-- a view whose text is the rest of its line; an empty one may stand there or not
abbrev pub IsViewWith : Bool → Request → List (List ℕ) → List ℕ → List ℕ → List ℕ → Type 0
IsViewWith second request front word text line =
    (IsView second request (front ++ (word ∷ (text ∷ []))) line × IsUtf8 text) ⊎ (IsView second request (front ++ (word ∷ [])) line × (text ≡ []))

-- the part that names the file that a list is over, if it is over one
abbrev pub file_parts : Option (List ℕ) → List (List ℕ)
file_parts file = option_to_list (option_map (λ name. codes "file=" ++ name) file)

-- keywords: one part, with bars between; none without a keyword
abbrev pub keyword_parts : List (List ℕ) → List (List ℕ)
keyword_parts [] = []
keyword_parts (keyword ∷ keywords) = parted 124 (keyword ∷ keywords) ∷ []

-- keywords that are asked for: none of them empty, with no space and no bar in them
abbrev pub AreKeywords : List (List ℕ) → Type 0
AreKeywords keywords = All (IsApart 124) keywords × All (λ b. b ≢ 32) (parted 124 keywords) × IsUtf8 (parted 124 keywords)

-- names to inherit: UTF-8 words, which hold any character but the space
abbrev pub AreNames : List (List ℕ) → Type 0
AreNames names = All (IsApart 32) names × IsUtf8 (spaced names)

-- the word of a profile in the command `profile`
abbrev pub profile_word : AnyProfile → List ℕ
profile_word One = codes "1"
profile_word Two = codes "2"

-- the line is `at` with two words, and this is the moment that they spell, if they spell one
abbrev pub IsAt : Option Moment → List ℕ → Type 0
IsAt moment line = (date : List ℕ) × (time : List ℕ) × (line ≡ spaced (codes "at" ∷ (date ∷ (time ∷ [])))) × IsWord date × IsWord time × (moment ≡ moment_of (date_of date) (time_of time))

-- the line of a command without a payload
abbrev pub IsLineOf : Bool → Command → List ℕ → Type 0
IsLineOf second (Add name bytes) line = ⊥
IsLineOf second (Drop name) line = (line ≡ spaced (codes "drop" ∷ (name ∷ []))) × IsName name
IsLineOf second (Edit seen at del bytes) line = ⊥
IsLineOf second (Complete seen place keyword) line =
    (line ≡ spaced (codes "complete" ∷ (seen_parts seen ++ (decimal place ∷ (keyword ∷ []))))) × IsSeen seen × IsNumber place × IsWord keyword
IsLineOf second (Inherit names) line = (line ≡ spaced (codes "inherit" ∷ names)) × AreNames names
IsLineOf second (At moment) line = IsAt moment line
IsLineOf second (Profile profile) line = line ≡ spaced (codes "profile" ∷ (profile_word profile ∷ []))
IsLineOf second (Pin session) line = (line ≡ spaced (codes "pin" ∷ (decimal session ∷ []))) × IsNumber session
IsLineOf second (Unpin session) line = (line ≡ spaced (codes "unpin" ∷ (decimal session ∷ []))) × IsNumber session
IsLineOf second (Text name) line = (line ≡ spaced (codes "text" ∷ (name ∷ []))) × IsName name
IsLineOf second (Keywords name) line = (line ≡ spaced (codes "keywords" ∷ (name ∷ []))) × IsName name × (second ≡ true)
IsLineOf second Version line = (line ≡ codes "version") × (second ≡ true)
IsLineOf second (Todo request file keywords) line = IsView second request (file_parts file ++ (codes "todo" ∷ keyword_parts keywords)) line × AreKeywords keywords × IfSome file IsName
IsLineOf second (Match request file text) line = IsViewWith second request (file_parts file) (codes "match") text line × IfSome file IsName
IsLineOf second (Agenda request date days) line = IsView second request (codes "agenda" ∷ (date ∷ (decimal days ∷ []))) line × IsWord date × IsNumber days
IsLineOf second (Clock request text) line = IsViewWith second request [] (codes "clock") text line

-- the line of a command before its payload of so many bytes
abbrev pub IsFrameLine : PayloadHeader → ℕ → List ℕ → Type 0
IsFrameLine (frame.Add name) size line = (line ≡ spaced (codes "add" ∷ (name ∷ (decimal size ∷ [])))) × IsName name × IsNumber size
IsFrameLine (frame.Edit seen at del) size line =
    (line ≡ spaced (codes "edit" ∷ (seen_parts seen ++ (decimal at ∷ (decimal del ∷ (decimal size ∷ [])))))) × IsSeen seen × IsNumber at × IsNumber del × IsNumber size

-- this is what lines say: a command exactly where a line is a spelling of that command, a payload of so many bytes that
-- follows exactly where it is the spelling of a command with one, and else nothing
pub record IsSpelled (second : Bool) (says : List ℕ → Line) : Type 0 where
  pub plain : (line : List ℕ) (command : Command) → says line ≡ Plainly command ↔ IsLineOf second command line
  pub command_of_frame : (line : List ℕ) (frame : PayloadHeader) (size : ℕ) → says line ≡ Framed frame size ↔ IsFrameLine frame size line
