-- The short ids of rows (profile).
use Rattle.std.specs.Prelude.{◌≡◌, ℕ, ◌+◌, ◌-◌, ◌*◌, ◌/◌, ◌%◌, ◌^◌, ◌<◌, ◌==◌, ◌&&◌, Bool, true, false, if◌then◌else◌, List, [], ◌∷◌, ◌++◌, filter, get_or, length, map, nat_lt, slice_get, slice_set, sum_by, take, Option, None, Some, max, min}
use Rattle.std.specs.List.{list_any}
use Rattle.std.specs.Map.{lookup}
use Rattle.std.specs.Ordering.{is_eq, nat_cmp}
use Rattle.org_client.specs.Files.{NamedText}
use Rattle.org_client.specs.HeadingNames.{id_headings, names_in, sum_at}
use Rattle.org_client.specs.declared.row_ids.HeadingAt.{HeadingAt}
use Rattle.org_entry.specs.declared.entry.Entry.{Entry}
use Rattle.org_ids.specs.Letters.{id_length, id_of, stands_for}
use Rattle.org_inherit.specs.Scope.{Scope}

-- the sum of each of some headings, by a number for its places, and how many letters ids have
pub record IdsView : Type 0 where
  pub sums : List (ℕ × ℕ)
  pub length : ℕ

abbrev pub no_ids : IdsView
no_ids = record { sums = []; length = 0 }

-- a number for the places of a heading's file and of its section there
abbrev pub key_of : HeadingAt → ℕ
key_of at = min (min (at.file * 4294967296) (2 ^ 64 - 1) + at.heading) (2 ^ 64 - 1)

-- the heading of such a number
abbrev pub heading_of : ℕ → HeadingAt
heading_of key = record { file = key / 4294967296; heading = key % 4294967296 }

-- a heading has a number of its own: no text has as many sections as don't
abbrev pub has_key : HeadingAt → Bool
has_key at = ((heading_of (key_of at)).file == at.file) && ((heading_of (key_of at)).heading == at.heading)

abbrev pub sum_in : IdsView → ℕ → Option ℕ
sum_in ids key = lookup (λ k. is_eq (nat_cmp key k)) ids.sums

-- so many letters of a sum
abbrev pub id_letters : ℕ → Option ℕ → List ℕ
id_letters count None = []
id_letters count (Some sum) = id_of count sum

-- the id of a heading with no fewer letters than that; nothing where it has none
abbrev pub id_text : IdsView → HeadingAt → ℕ → List ℕ
id_text ids at fewest = id_letters (min (max ids.length fewest) 12) (sum_in ids (key_of at))

-- the headings among these for which a word stands, in the order of files and sections
abbrev pub headings_for : IdsView → List ℕ → List HeadingAt
headings_for ids word = map (λ (entry : ℕ × ℕ). heading_of entry.0) (filter (λ (entry : ℕ × ℕ). stands_for word entry.1) ids.sums)

-- a word stands for a sum, if there is one
abbrev pub stands_for_some : List ℕ → Option ℕ → Bool
stands_for_some word None = false
stands_for_some word (Some sum) = stands_for word sum

-- ---- the sums of headings

-- the sum of the heading of a section
abbrev pub heading_sum : NamedText → List Entry → ℕ → ℕ
heading_sum file entries section = sum_at (names_in file.path entries) file section

-- it is among some sections
abbrev pub is_in : List ℕ → ℕ → Bool
is_in sections section = list_any (λ other. other == section) sections

-- a heading got its sum, and no other one did
abbrev pub PutsSum : IdsView → IdsView → HeadingAt → ℕ → Type 0
PutsSum old new at sum = (key : ℕ) → sum_in new key ≡ if is_eq (nat_cmp (key_of at) key) then Some sum else sum_in old key

-- some sections of a file got their sums, and no other heading did
abbrev pub PutsSums : IdsView → IdsView → NamedText → List Entry → ℕ → List ℕ → Type 0
PutsSums old new file entries place sections = (at : HeadingAt) → has_key at ≡ true →
    sum_in new (key_of at) ≡ if (at.file == place) && is_in sections at.heading then Some (heading_sum file entries at.heading) else sum_in old (key_of at)

-- they have numbers
abbrev pub HaveKeys : ℕ → List ℕ → Type 0
HaveKeys file sections = (section : ℕ) → is_in sections section ≡ true → has_key (record { file = file; heading = section }) ≡ true

-- ---- those that are asked about

abbrev pub with_section : List (List ℕ) → ℕ → ℕ → List (List ℕ)
with_section lists file section = slice_set lists file (get_or lists file [] ++ section ∷ [])

-- behind those of its file, if the file is there and the heading has a number
abbrev pub with_heading : List (List ℕ) → HeadingAt → List (List ℕ)
with_heading lists at = if nat_lt at.file (length lists) && has_key at then with_section lists at.file at.heading else lists

-- whether a heading is among some
abbrev pub is_same : HeadingAt → HeadingAt → Bool
is_same a b = (a.file == b.file) && (a.heading == b.heading)

abbrev pub is_asked : List HeadingAt → HeadingAt → Bool
is_asked headings at = list_any (λ other. is_same other at) headings

-- each heading that has a number is among the sections of its file if it is asked about, and nothing else is
abbrev pub AreAsked : ℕ → List HeadingAt → List (List ℕ) → Type 0
AreAsked files headings lists = (length lists ≡ files) × ((file section : ℕ) → file < files →
    is_in (get_or lists file []) section ≡ (has_key (record { file = file; heading = section }) && is_asked headings (record { file = file; heading = section })))

-- the sum of a heading, if its file is there
abbrev pub sum_there : Option NamedText → Option Scope → ℕ → Option ℕ
sum_there None scope section = None
sum_there (Some file) None section = None
sum_there (Some file) (Some scope) section = Some (heading_sum file scope.entries section)

-- each heading that is asked about has its sum, as far as its file is there, and no other one has any
abbrev pub HaveSums : List NamedText → List Scope → List HeadingAt → IdsView → Type 0
HaveSums files scopes headings ids = (at : HeadingAt) → has_key at ≡ true →
    sum_in ids (key_of at) ≡ if is_asked headings at then sum_there (slice_get files at.file) (slice_get scopes at.file) at.heading else None

-- how many headings files have
abbrev pub heading_count : List Scope → ℕ
heading_count scopes = sum_by (λ (scope : Scope). length (id_headings scope.entries)) scopes

-- the ids of some headings of files
pub record AreIdsOf (files : List NamedText) (scopes : List Scope) (headings : List HeadingAt) (ids : IdsView) : Type 0 where
  pub sums : HaveSums files scopes headings ids
  pub length : ids.length ≡ id_length (min (heading_count (take (length files) scopes)) (2 ^ 64 - 1))
