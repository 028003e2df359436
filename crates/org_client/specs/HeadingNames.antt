-- What the headings of a file are named by, and their sums (profile).
-- Characters by their codes: 47 slash.
use Rattle.std.specs.Prelude.{◌≡◌, ℕ, ◌-◌, ◌==◌, nat_le, if◌then◌else◌, List, [], ◌∷◌, ◌++◌, codes, get_or, length, min, Option, None, Some, OnOk, Result}
use Rattle.std.specs.List.{All, flat_map}
use Rattle.org_base.specs.Properties.{value_in}
use Rattle.org_base.specs.Results.{Gives}
use Rattle.org_base.specs.Spans.{bytes_in}
use Rattle.org_client.specs.Files.{NamedText, own_section}
use Rattle.org_client.specs.TitleWords.{beside_stamps}
use Rattle.org_entry.specs.declared.entry.Entry.{Entry}
use Rattle.org_head.specs.declared.head.Head.{Head}
use Rattle.org_ids.specs.Counts.{Counts, number_of, times_in}
use Rattle.org_ids.specs.Letters.{sum_of}
use Rattle.org_ids.specs.Names.{IdHeading, NamesView, names_of, names_view, summed_name}
use Rattle.org_stamp.specs.Line.{stamps_of}

-- what stands behind the last slash of a path; all of it where it has none
abbrev pub part_behind : List ℕ → List ℕ → List ℕ
part_behind part [] = part
part_behind part (byte ∷ bytes) = if byte == 47 then part_behind bytes bytes else part_behind part bytes

abbrev pub last_part : List ℕ → List ℕ
last_part path = part_behind path path

-- a title with a space in place of each active stamp
abbrev pub plain_title : List ℕ → List ℕ
plain_title title = beside_stamps title 0 (stamps_of title)

-- the heading of an entry as ids know it: its level, its title beside its stamps, and its own property ID
abbrev pub id_heading : Entry → Head → IdHeading
id_heading entry head = record { level = head.level; title = plain_title (bytes_in entry.text head.title); id = value_in entry.details.drawer (codes "ID") }

abbrev pub id_heading_of : Entry → Option Head → List IdHeading
id_heading_of entry None = []
id_heading_of entry (Some head) = id_heading entry head ∷ []

-- those of the entries that have headings
abbrev pub id_headings : List Entry → List IdHeading
id_headings entries = flat_map (λ (entry : Entry). id_heading_of entry entry.head) entries

-- the heading of an entry is put behind those that stand there, if it has one
abbrev pub PutsEntry : {T E : Type 0} → Result T E → NamesView → NamesView → Entry → Type 0
PutsEntry result old new entry = (file : List ℕ) (hs : List IdHeading) → old ≡ names_view file hs →
    OnOk result (new ≡ names_view file (hs ++ id_heading_of entry entry.head))

-- the names of a file's headings, and how many of its sections have none: they stand in front
pub record FileNames : Type 0 where
  pub names : List (List ℕ)
  pub front : ℕ

abbrev pub names_in : List ℕ → List Entry → FileNames
names_in path entries = record { names = names_of (last_part path) (id_headings entries); front = length entries - length (id_headings entries) }

-- the name of the heading of the section at a place; nothing where it has none
abbrev pub name_at : FileNames → ℕ → List ℕ
name_at names section = if nat_le names.front section then get_or names.names (section - names.front) [] else []

-- how often a name came is how often it is among these, up to twice
abbrev pub IsCounted : Counts → List (List ℕ) → List ℕ → Type 0
IsCounted counts names name = number_of counts name ≡ Some (min 2 (times_in name names))

-- the names of some sections' headings are asked about, and none came
abbrev pub AreAskedAt : Counts → FileNames → List ℕ → Type 0
AreAskedAt counts names sections = All (λ (section : ℕ). number_of counts (name_at names section) ≡ Some 0) sections

-- the name of a section's heading came as often as it is among all names, up to twice
abbrev pub IsCountedAt : Counts → FileNames → ℕ → Type 0
IsCountedAt counts names section = IsCounted counts names.names (name_at names section)

-- each came as often as it is among all names, up to twice
abbrev pub AreCountedAt : Counts → FileNames → List ℕ → Type 0
AreCountedAt counts names sections = All (λ (section : ℕ). IsCountedAt counts names section) sections

-- the sum of the heading of a section of a file of these names
abbrev pub sum_at : FileNames → NamedText → ℕ → ℕ
sum_at names file section = sum_of (summed_name names.names (name_at names section) (own_section file section))

-- that is given, where its name was counted
abbrev pub GivesSumAt : {E : Type 0} → Result ℕ E → Counts → FileNames → NamedText → ℕ → Type 0
GivesSumAt result counts names file section = IsCountedAt counts names section → Gives result (sum_at names file section)
