-- How the options of a clock table are spelled, without the reader's steps (Org manual 9.6, "The clock table"; which options
-- there are, and how they are written: profile).
-- Characters by their codes: 32 space.
use Rattle.std.specs.Prelude.{◌≡◌, ◌≢◌, ◌↔◌, ℕ, ◌≤◌, Bool, true, if◌then◌else◌, List, [], ◌∷◌, ◌++◌, Option, None, Some, IfSome, codes, decimal, flat_map, map}
use Rattle.std.specs.List.{All, join_with_byte}
use Rattle.std.specs.Option.{option_to_list}
use Rattle.std.specs.Str.{IsUtf8}
use Rattle.org_base.specs.FileName.{is_file_name}
use Rattle.org_cal.specs.Blocks.{block_of}
use Rattle.org_cal.specs.declared.steps.Step.{Step}
use Rattle.org_cal.specs.declared.steps.Step.TheVariants.{Day, Week, Whole}
use Rattle.org_clocktable.specs.Request.{TableRequest, asked_of}

-- one option: the block of a name, the deepest level, the file of a name, a step of days or of weeks, efforts
pub data TableOption : Type 0 where
  Block : (name : List ℕ) → TableOption
  Level : (n : ℕ) → TableOption
  File : (name : List ℕ) → TableOption
  ByDay : TableOption
  ByWeek : TableOption
  Effort : TableOption

-- the word of an option
abbrev pub spell : TableOption → List ℕ
spell (Block name) = codes "block=" ++ name
spell (Level n) = codes "maxlevel=" ++ decimal n
spell (File name) = codes "file=" ++ name
spell ByDay = codes "step=day"
spell ByWeek = codes "step=week"
spell Effort = codes "effort"

-- no space stands in a block's name, a level is 1 to 99, a file's name is one
abbrev pub IsOption : TableOption → Type 0
IsOption (Block name) = All (λ b. b ≢ 32) name
IsOption (Level n) = (1 ≤ n) × (n ≤ 99)
IsOption (File name) = is_file_name name ≡ true
IsOption ByDay = Unit {0}
IsOption ByWeek = Unit {0}
IsOption Effort = Unit {0}

-- the block that an option names, if it names one
abbrev pub blocks : TableOption → List (List ℕ)
blocks (Block name) = name ∷ []
blocks _ = []

-- the level that an option says, if it says one
abbrev pub levels : TableOption → List ℕ
levels (Level n) = n ∷ []
levels _ = []

-- the file that an option names, if it names one
abbrev pub files : TableOption → List (List ℕ)
files (File name) = name ∷ []
files _ = []

-- the step that an option says, if it says one
abbrev pub steps : TableOption → List Step
steps ByDay = Day ∷ []
steps ByWeek = Week ∷ []
steps _ = []

-- the option itself, where it asks for efforts
abbrev pub efforts : TableOption → List TableOption
efforts Effort = Effort ∷ []
efforts _ = []

-- the expression stands last and takes the rest of the text, spaces and all
abbrev pub expression_words : Option (List ℕ) → List (List ℕ)
expression_words None = []
expression_words (Some expression) = (codes "match=" ++ expression) ∷ []

-- what options say for a step; of the whole period none says anything
abbrev pub step_said : Step → List Step
step_said Whole = []
step_said Day = Day ∷ []
step_said Week = Week ∷ []

-- what options say where efforts are asked for, and where they aren't
abbrev pub effort_said : Bool → List TableOption
effort_said with_effort = if with_effort then Effort ∷ [] else []

-- the text says this on a day: options in any order with one space between, and the expression after them; one block and
-- one level, and of the others each at most once
pub record IsTable (text : List ℕ) (today : ℕ) (asked : TableRequest (List ℕ)) : Type 0 where
  pub options : List TableOption
  pub block : List ℕ
  pub are : All IsOption options
  pub utf8 : IfSome asked.expression IsUtf8
  pub spelled : text ≡ join_with_byte 32 (map spell options ++ expression_words asked.expression)
  pub one_block : flat_map blocks options ≡ block ∷ []
  pub days : block_of block today ≡ Some asked.days
  pub one_level : flat_map levels options ≡ asked.most ∷ []
  pub file : flat_map files options ≡ option_to_list asked.file
  pub step : flat_map steps options ≡ step_said asked.step
  pub effort : flat_map efforts options ≡ effort_said asked.with_effort

-- a text asks for a table exactly where it spells one, and for that one
abbrev pub OptionsAreSpelled : Type 0
OptionsAreSpelled = (text : List ℕ) (today : ℕ) (asked : TableRequest (List ℕ)) → (asked_of text today ≡ Some asked) ↔ IsTable text today asked
