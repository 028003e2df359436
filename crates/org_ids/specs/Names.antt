-- What headings are named by, and what is summed of them (profile).
-- Characters by their codes: 10 line feed, 42 star, 43 plus, 58 colon, 61 equals sign.
use Rattle.std.specs.Prelude.{◌≡◌, ℕ, suc, ◌==◌, Bool, true, false, not, nat_lt, if◌then◌else◌, List, [], ◌∷◌, ◌++◌, filter, get_or, length, map, take, Option, None, Some, OnOk, Result, Vec}
use Rattle.std.specs.List.{flat_map}
use Rattle.org_ids.specs.Counts.{is_among_twice}
use Rattle.org_ids.specs.Words.{plain_words}
use Rattle.org_ids.specs.declared.names.TheConstants.{MOST_BYTES}
use Rattle.org_ids.specs.declared.names.Above.{Above}

-- a heading of a file: its level, its title without active stamps, and its own property ID
pub record IdHeading : Type 0 where
  pub level : ℕ
  pub title : List ℕ
  pub id : Option (List ℕ)

-- without line feeds
abbrev pub is_inner : ℕ → Bool
is_inner byte = not (byte == 10)

abbrev pub one_line : List ℕ → List ℕ
one_line bytes = filter is_inner bytes

-- a heading on the way to another: its level, and the words of its title
pub record OnWay : Type 0 where
  pub level : ℕ
  pub words : List ℕ

-- those in front that have lower levels
abbrev pub lower : ℕ → List OnWay → List OnWay
lower level [] = []
lower level (it ∷ way) = if nat_lt it.level level then it ∷ lower level way else []

-- the way to a heading, from the top, its own last, of the way to the one before it
abbrev pub enter : List OnWay → IdHeading → List OnWay
enter way h = lower h.level way ++ record { level = h.level; words = plain_words h.title } ∷ []

-- the way to the last of some headings, where another one stood before them
abbrev pub way_behind : List OnWay → List IdHeading → List OnWay
way_behind way [] = way
way_behind way (h ∷ hs) = way_behind (enter way h) hs

-- what a heading is named by: its property ID where that says something, else its file and the titles on the way to it
pub record NamedBy : Type 0 where
  pub id : List ℕ
  pub file : List ℕ
  pub titles : List (List ℕ)

abbrev pub id_line : Option (List ℕ) → List ℕ
id_line None = []
id_line (Some id) = one_line id

abbrev pub words_of : List OnWay → List (List ℕ)
words_of way = map (λ (it : OnWay). it.words) way

abbrev pub named_by : List ℕ → List OnWay → List ℕ → NamedBy
named_by file way [] = record { id = []; file = one_line file; titles = words_of way }
named_by file way (byte ∷ id) = record { id = byte ∷ id; file = []; titles = [] }

-- the same of each of a file's headings
abbrev pub named_from : List ℕ → List OnWay → List IdHeading → List NamedBy
named_from file way [] = []
named_from file way (h ∷ hs) = named_by file (enter way h) (id_line h.id) ∷ named_from file (enter way h) hs

abbrev pub named_in : List ℕ → List IdHeading → List NamedBy
named_in file hs = named_from file [] hs

-- it is spelled in parts, each but the file's with a line feed and a sign in front; no part has a line feed
abbrev pub part : ℕ → List ℕ → List ℕ
part sign bytes = 10 ∷ sign ∷ bytes

abbrev pub way_name : List ℕ → List (List ℕ) → List ℕ
way_name file titles = file ++ flat_map (part 42) titles

abbrev pub spelled_as : List ℕ → NamedBy → List ℕ
spelled_as [] n = way_name n.file n.titles
spelled_as (byte ∷ id) n = part 58 (byte ∷ id)

abbrev pub spelled : NamedBy → List ℕ
spelled n = spelled_as n.id n

-- no more than so many bytes of it are summed, so that long titles on the way to many headings cost no square
abbrev pub bounded : List ℕ → List ℕ
bounded bytes = take MOST_BYTES bytes

abbrev pub kept_name : NamedBy → List ℕ
kept_name n = bounded (spelled n)

-- whether that is all of it
abbrev pub is_whole : List ℕ → Bool
is_whole name = nat_lt (length name) MOST_BYTES

-- the name of each of a file's headings
abbrev pub names_of : List ℕ → List IdHeading → List (List ℕ)
names_of file hs = map kept_name (named_in file hs)

-- the text of its section goes behind a name that isn't whole, and behind one that another heading of the file has
abbrev pub text_part : Bool → Bool → List ℕ → List ℕ
text_part true true section = part 61 section
text_part true false section = []
text_part false repeated section = part 43 section

abbrev pub with_text : List ℕ → Bool → List ℕ → List ℕ
with_text name repeated section = name ++ text_part (is_whole name) repeated section

abbrev pub summed_name : List (List ℕ) → List ℕ → List ℕ → List ℕ
summed_name names name section = with_text name (is_among_twice name names) section

-- ---- as it is worked out

-- the way to a heading: how far its name goes with each of its titles
abbrev pub ends_from : List ℕ → List OnWay → List OnWay → List Above
ends_from file front [] = []
ends_from file front (it ∷ way) =
    record { level = it.level; end = length (bounded (way_name (one_line file) (words_of (front ++ it ∷ [])))) }
    ∷ ends_from file (front ++ it ∷ []) way

-- how many in front have lower levels
abbrev pub lower_count : ℕ → List Above → ℕ
lower_count level [] = 0
lower_count level (it ∷ above) = if nat_lt it.level level then suc (lower_count level above) else 0

-- the names of some headings, and the way to the last of them
pub record NamesView : Type 0 where
  pub base : ℕ
  pub way : List ℕ
  pub above : List Above
  pub names : List (List ℕ)

abbrev pub way_view : List ℕ → List OnWay → List (List ℕ) → NamesView
way_view file way names = record {
  base = length (bounded (one_line file));
  way = bounded (way_name (one_line file) (words_of way));
  above = ends_from file [] way;
  names = names;
}

abbrev pub names_view : List ℕ → List IdHeading → NamesView
names_view file hs = way_view file (way_behind [] hs) (names_of file hs)

-- where the name of the way to the last heading of a lower level ends
abbrev pub left_end : ℕ → ℕ → List Above → ℕ
left_end level end [] = end
left_end level end (it ∷ above) = if nat_lt it.level level then left_end level it.end above else end

-- the way goes back to that heading
abbrev pub Leaves : NamesView → NamesView → ℕ → Type 0
Leaves old new level =
    (file : List ℕ) (way : List OnWay) (names : List (List ℕ)) → old ≡ way_view file way names → new ≡ way_view file (lower level way) names

-- bytes are put behind others, as far as a name goes
abbrev pub AddsBounded : {A T E : Type 0} → Result T E → Vec ℕ A → Vec ℕ A → List ℕ → Type 0
AddsBounded result old new bytes = OnOk result (new.items ≡ bounded (old.items ++ bytes))

abbrev pub heading_of : ℕ → List ℕ → Option (List ℕ) → IdHeading
heading_of level title id = record { level = level; title = title; id = id }

-- the way goes on to a heading
abbrev pub Enters : {T E : Type 0} → Result T E → NamesView → NamesView → ℕ → List ℕ → Type 0
Enters result old new level title =
    (file : List ℕ) (way : List OnWay) (names : List (List ℕ)) → old ≡ way_view file way names →
    OnOk result (new ≡ way_view file (enter way (heading_of level title None)) names)

-- the name by an ID, or that of the way where the ID says nothing
abbrev pub own_name : List ℕ → List ℕ → List ℕ
own_name way [] = way
own_name way (byte ∷ id) = bounded (part 58 (byte ∷ id))

-- one more name
abbrev pub named_too : NamesView → List ℕ → NamesView
named_too view name = record view { names = view.names ++ name ∷ [] }

-- one more heading is put behind those that stand there
abbrev pub Puts : {T E : Type 0} → Result T E → NamesView → NamesView → ℕ → List ℕ → Option (List ℕ) → Type 0
Puts result old new level title id = (file : List ℕ) (hs : List IdHeading) → old ≡ names_view file hs →
    OnOk result (new ≡ names_view file (hs ++ heading_of level title id ∷ []))
