-- What is said of calendars in the standard's own words.
use Rattle.std.specs.Prelude.{◌≡◌, ◌≢◌, ℕ, ◌<◌, ◌^◌, true, List, [], ◌∷◌, get_or, length, map}
use Rattle.org_ical.specs.Lines.{written}
use Rattle.org_ical.specs.Components.{ComponentText, lines_of}
use Rattle.org_ical.specs.Reading.{are_short, content_lines}
use Rattle.org_ical.specs.Texts.{plain, read_values, value_text, values_text}
use Rattle.org_ical.specs.Uids.{uids}
use Rattle.org_ical.specs.declared.date.Date.{Date}
use Rattle.org_ical.specs.declared.date.Time.{Time}

-- whatever the texts are, a reader finds the lines of the properties, one for each, and no other
abbrev pub LinesReadBack : Type 0
LinesReadBack = (date : Date) (time : Time) (components : List ComponentText) →
    content_lines (written (lines_of date time components)) ≡ lines_of date time components

-- no line has more octets than it may
abbrev pub LinesAreShort : Type 0
LinesAreShort = (date : Date) (time : Time) (components : List ComponentText) →
    are_short 0 (written (lines_of date time components)) ≡ true

-- a reader takes the value of a text for that one text, without its control characters
abbrev pub ValuesReadBack : Type 0
ValuesReadBack = (text : List ℕ) → read_values (value_text text) ≡ plain text ∷ []

-- and those of some texts for these
abbrev pub ListsReadBack : Type 0
ListsReadBack = (text : List ℕ) (texts : List (List ℕ)) → read_values (values_text (text ∷ texts)) ≡ map plain (text ∷ texts)

-- no two keys get one name, also equal ones
abbrev pub UidsDiffer : Type 0
UidsDiffer = (keys : List (List ℕ)) (i j : ℕ) → length keys < 2 ^ 63 → i < j → j < length keys →
    get_or (uids [] keys) i [] ≢ get_or (uids [] keys) j []
