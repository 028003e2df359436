-- A reader of pages: which characters it takes for tags, for values of attributes, and for words.
use Rattle.std.specs.Prelude.{ℕ, ◌++◌, Bool, true, false, ◌==◌, bytes_eq, if◌then◌else◌, List, [], ◌∷◌, Option, Some, None, codes}

-- where a reader is: outside of tags, in a tag, or in a value between quotation marks there
pub data Mode : Type 0 where
  Outside : Mode
  Inside : Mode
  Value : Mode

-- what a character is read as: a part of words, of a tag or of a value
pub data Letter : Type 0 where
  Said : ℕ → Letter
  Marked : ℕ → Letter
  Valued : ℕ → Letter

abbrev pub next_mode : Mode → ℕ → Mode
next_mode Outside c = if c == 60 then Inside else Outside
next_mode Inside c = if c == 62 then Outside else (if c == 34 then Value else Inside)
next_mode Value c = if c == 34 then Inside else Value

abbrev pub letter_of : Mode → ℕ → Letter
letter_of Outside c = if c == 60 then Marked c else Said c
letter_of Inside c = Marked c
letter_of Value c = if c == 34 then Marked c else Valued c

-- a character by its name is no mark, whichever it is
abbrev pub named_letter : Mode → ℕ → Letter
named_letter Outside c = Said c
named_letter Inside c = Marked c
named_letter Value c = Valued c

-- whether a character begins the name of one
abbrev pub begins_name : Mode → ℕ → Bool
begins_name Outside c = c == 38
begins_name Inside c = false
begins_name Value c = c == 38

abbrev pub named_char : List ℕ → ℕ
named_char name =
    if bytes_eq name (codes "amp") then 38 else
    if bytes_eq name (codes "lt") then 60 else
    if bytes_eq name (codes "gt") then 62 else
    if bytes_eq name (codes "quot") then 34 else
    if bytes_eq name (codes "#x27") then 39 else 65533

-- what is read from a place on, where a name is read with the part of it that was read
abbrev pub read_from : Mode → Option (List ℕ) → List ℕ → List Letter
read_from mode name [] = []
read_from mode None (c ∷ cs) =
    if begins_name mode c then read_from mode (Some []) cs else (letter_of mode c ∷ read_from (next_mode mode c) None cs)
read_from mode (Some name) (c ∷ cs) =
    if c == 59 then (named_letter mode (named_char name) ∷ read_from mode None cs) else read_from mode (Some (name ++ c ∷ [])) cs

abbrev pub read : List ℕ → List Letter
read page = read_from Outside None page

-- what a reader takes for tags, but for the values in them
abbrev pub marks : List Letter → List ℕ
marks [] = []
marks (Said c ∷ letters) = marks letters
marks (Marked c ∷ letters) = c ∷ marks letters
marks (Valued c ∷ letters) = marks letters

-- what it takes for words
abbrev pub words : List Letter → List ℕ
words [] = []
words (Said c ∷ letters) = c ∷ words letters
words (Marked c ∷ letters) = words letters
words (Valued c ∷ letters) = words letters

-- what it takes for values
abbrev pub values : List Letter → List ℕ
values [] = []
values (Said c ∷ letters) = values letters
values (Marked c ∷ letters) = values letters
values (Valued c ∷ letters) = c ∷ values letters
