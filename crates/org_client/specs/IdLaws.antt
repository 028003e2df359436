-- Laws of the short ids of rows.
use Rattle.std.specs.Prelude.{◌≡◌, ℕ, ◌-◌, true, nat_le, if◌then◌else◌, List, length, slice_get, Some}
use Rattle.org_client.specs.Files.{NamedText, own_section}
use Rattle.org_client.specs.HeadingNames.{FileNames, id_headings, last_part, names_in}
use Rattle.org_client.specs.RowIds.{HaveSums, IdsView, has_key, key_of, stands_for_some, sum_in}
use Rattle.org_client.specs.RowIds.{heading_sum as sum_of_heading}
use Rattle.org_client.specs.declared.row_ids.HeadingAt.{HeadingAt}
use Rattle.org_entry.specs.declared.entry.Entry.{Entry}
use Rattle.org_ids.specs.Laws.{IsMeant, Placed, heading_sum, summed}
use Rattle.org_ids.specs.Letters.{id_of, stands_for}
use Rattle.org_inherit.specs.Scope.{Scope}

-- the place of a section's heading among those of its file; past all of them where it has none
abbrev pub heading_place : FileNames → ℕ → ℕ
heading_place names section = if nat_le names.front section then section - names.front else length names.names

-- the heading of a section of a file as the laws of ids know it
abbrev pub placed_at : NamedText → List Entry → ℕ → Placed
placed_at file entries section = record {
  file = last_part file.path;
  headings = id_headings entries;
  place = heading_place (names_in file.path entries) section;
  section = own_section file section;
}

-- the sum of a heading is that of what is summed of it there
abbrev pub SumsAreOfPlaced : Type 0
SumsAreOfPlaced = (file : NamedText) (entries : List Entry) (section : ℕ) → sum_of_heading file entries section ≡ heading_sum (placed_at file entries section)

-- THE PREMISE: a heading of these files begins with these letters only if the same bytes are summed of it
abbrev pub IsNoStranger : Placed → Placed → List ℕ → Type 0
IsNoStranger listed now word = stands_for word (heading_sum now) ≡ true → summed listed ≡ summed now

-- THE LAW: an id was printed for a heading. Whatever became of the files, a heading among the ids of rows for which it stands later
-- was meant
abbrev pub IdsStandForWhatWasListed : Type 0
IdsStandForWhatWasListed = (listed : Placed) (files : List NamedText) (scopes : List Scope) (headings : List HeadingAt) (ids : IdsView) (n : ℕ) (at : HeadingAt) (file : NamedText) (scope : Scope) →
    HaveSums files scopes headings ids → has_key at ≡ true → slice_get files at.file ≡ Some file → slice_get scopes at.file ≡ Some scope →
    IsNoStranger listed (placed_at file scope.entries at.heading) (id_of n (heading_sum listed)) →
    stands_for_some (id_of n (heading_sum listed)) (sum_in ids (key_of at)) ≡ true →
    IsMeant listed (placed_at file scope.entries at.heading)
