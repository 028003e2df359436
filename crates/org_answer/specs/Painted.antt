-- How pictures are printed: texts in colours as terminals have them (ECMA-48, "SGR").
use Rattle.std.specs.Prelude.{◌≡◌, ℕ, ◌%◌, Bool, if◌then◌else◌, List, [], ◌∷◌, ◌++◌, codes, length, ◌==◌}
use Rattle.std.specs.List.{flat_map}
use Rattle.org_answer.specs.Shown.{shown_text}
use Rattle.org_look.specs.declared.sheet.Tone.{Tone}
use Rattle.org_look.specs.declared.sheet.Tone.TheVariants.{Plain, Strong, Faint, Today, Late, Soon, File}

-- six colours of files in turn: cyan, magenta, green, and the bright ones of these
abbrev pub file_color : ℕ → List ℕ
file_color place =
    if place % 6 == 0 then 27 ∷ codes "[36m" else
    if place % 6 == 1 then 27 ∷ codes "[35m" else
    if place % 6 == 2 then 27 ∷ codes "[32m" else
    if place % 6 == 3 then 27 ∷ codes "[96m" else
    if place % 6 == 4 then 27 ∷ codes "[95m" else
    27 ∷ codes "[92m"

-- red is late, and yellow is due; no file has them
abbrev pub tone_color : Tone → List ℕ
tone_color Plain = []
tone_color Strong = 27 ∷ codes "[1m"
tone_color Faint = 27 ∷ codes "[2m"
tone_color Today = 27 ∷ codes "[7m"
tone_color Late = 27 ∷ codes "[31m"
tone_color Soon = 27 ∷ codes "[33m"
tone_color (File place) = file_color place

-- a part of a line, and its tone
pub record Part : Type 0 where
  pub tone : Tone
  pub text : List ℕ

abbrev pub part_text : Part → List ℕ
part_text part = part.text

-- a text as it is printed: its colour, the text, without control characters where they are to be seen, and the colour's end
abbrev pub painted_text : Bool → Tone → List ℕ → List ℕ
painted_text is_seen tone text = tone_color tone ++ shown_text is_seen text ++ (if length (tone_color tone) == 0 then [] else 27 ∷ codes "[0m")

abbrev pub part_bytes : Bool → Part → List ℕ
part_bytes is_seen part = painted_text is_seen part.tone part.text

-- parts whose texts are a text, one behind the other, come after other bytes
pub record IsPainted (is_seen : Bool) (text old new : List ℕ) : Type 0 where
  pub parts : List Part
  pub whole : flat_map part_text parts ≡ text
  pub added : new ≡ old ++ flat_map (part_bytes is_seen) parts

-- the same of a line, with a line feed
pub record IsPaintedLine (is_seen : Bool) (text old new : List ℕ) : Type 0 where
  pub parts : List ℕ
  pub painted : IsPainted is_seen text old parts
  pub ended : new ≡ parts ++ 10 ∷ []

-- nothing but such lines
pub data ArePaintedLines : Bool → List ℕ → Type 0 where
  no_line : (is_seen : Bool) → ArePaintedLines is_seen []
  one_more : (is_seen : Bool) (text old new : List ℕ) → ArePaintedLines is_seen old → IsPaintedLine is_seen text old new → ArePaintedLines is_seen new
