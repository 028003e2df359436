-- Laws of short ids.
use Rattle.std.specs.Prelude.{◌≡◌, ◌≤◌, ◌*◌, ◌-◌, ◌^◌, ℕ, Bool, true, false, nat_le, if◌then◌else◌, List, [], ◌∷◌, filter, get_or, length, map, Option, None, Some}
use Rattle.std.specs.List.{AllByRecursion}
use Rattle.org_ids.specs.Counts.{is_among_twice}
use Rattle.org_ids.specs.Letters.{id_length, id_of, stands_for, sum_of}
use Rattle.org_ids.specs.Names.{IdHeading, NamedBy, is_whole, kept_name, named_in, names_of, summed_name}

-- a heading among those of its file, by its place there, and the file's own text of its section
pub record Placed : Type 0 where
  pub file : List ℕ
  pub headings : List IdHeading
  pub place : ℕ
  pub section : List ℕ

abbrev pub nobody : NamedBy
nobody = record { id = []; file = []; titles = [] }

-- what it is named by
abbrev pub name_of : Placed → NamedBy
name_of it = get_or (named_in it.file it.headings) it.place nobody

-- what is summed of it
abbrev pub summed : Placed → List ℕ
summed it = summed_name (names_of it.file it.headings) (kept_name (name_of it)) it.section

abbrev pub heading_sum : Placed → ℕ
heading_sum it = sum_of (summed it)

-- several headings of its file have its name
abbrev pub is_repeated : Placed → Bool
is_repeated it = is_among_twice (kept_name (name_of it)) (names_of it.file it.headings)

-- a heading is the one that was listed: of that file, with those titles on the way to it, or of that ID; and where others of its
-- file had the same when it was listed, or the name is longer than what is summed of it, with that very text
pub record IsMeant (listed now : Placed) : Type 0 where
  pub named : is_whole (kept_name (name_of listed)) ≡ true → name_of now ≡ name_of listed
  pub begun : kept_name (name_of now) ≡ kept_name (name_of listed)
  pub repeated : is_repeated listed ≡ true → now.section ≡ listed.section
  pub long : is_whole (kept_name (name_of listed)) ≡ false → now.section ≡ listed.section

-- whatever has the same bytes summed is what was meant: without any premise
abbrev pub SummedAreMeant : Type 0
SummedAreMeant = (listed now : Placed) → summed listed ≡ summed now → IsMeant listed now

-- those that a word stands for
abbrev pub found : List Placed → List ℕ → List Placed
found headings word = filter (λ (it : Placed). stands_for word (heading_sum it)) headings

abbrev pub only : List Placed → Option Placed
only [] = None
only (it ∷ []) = Some it
only (it ∷ other ∷ more) = None

-- the one that a word names: none where it is too short for so many headings, or stands for none or for several
abbrev pub named : List Placed → List ℕ → Option Placed
named headings word = if nat_le (id_length (length headings)) (length word) then only (found headings word) else None

-- THE PREMISE: no heading that is there now begins with these letters but those of which the same bytes are summed. By chance
-- another one does so: see FewStrangersFit
abbrev pub NoStrangerFits : Placed → List Placed → List ℕ → Type 0
NoStrangerFits listed headings word =
    AllByRecursion (λ (now : Placed). stands_for word (heading_sum now) ≡ true → summed listed ≡ summed now) headings

-- THE LAW: an id was printed for a heading. Whatever became of the files, what it names later was meant, or it names none
abbrev pub IdsNameWhatWasListed : Type 0
IdsNameWhatWasListed = (listed now : Placed) (headings : List Placed) (n : ℕ) →
    NoStrangerFits listed headings (id_of n (heading_sum listed)) → named headings (id_of n (heading_sum listed)) ≡ Some now → IsMeant listed now

-- as long as they are printed, ids fit so few of all sums that a stranger hits one of so many headings by no more than one chance
-- in a million: 32 ^ (12 - n) of the 32 ^ 12 sums begin with n given letters
abbrev pub FewStrangersFit : Type 0
FewStrangersFit = (count : ℕ) → 1000000 * count ≤ 32 ^ 12 → 1000000 * (count * 32 ^ (12 - id_length count)) ≤ 32 ^ 12
