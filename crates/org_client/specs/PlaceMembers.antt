-- Members that rows of several kinds have: a file's name, and a minute (names of members: profile).
use Rattle.std.specs.Prelude.{ℕ, List, [], Option, None, Some, codes, slice_get}
use Rattle.org_client.specs.ClockTexts.{clock_minute_text}
use Rattle.org_client.specs.Files.{NamedText}
use Rattle.org_client.specs.Members.{text_member_of}

-- the name of a file, if it is there
abbrev pub named_member : Option (List ℕ) → Option NamedText → List ℕ
named_member only None = []
named_member only (Some named) = text_member_of only (codes "file") named.name

abbrev pub file_member : Option (List ℕ) → List NamedText → ℕ → List ℕ
file_member only files file = named_member only (slice_get files file)

-- a minute as a date and a time, if there is one
abbrev pub minute_member : Option (List ℕ) → List ℕ → Option ℕ → List ℕ
minute_member only name None = []
minute_member only name (Some minute) = text_member_of only name (clock_minute_text minute)
