-- What a change leaves of what a file says, and what stands at the places of headings (profile).
use Rattle.std.specs.Prelude.{◌≡◌, ℕ, ◌+◌, ◌≤◌, List, IsSome, Some, length, map}
use Rattle.std.specs.List.{splice}
use Rattle.org_class.specs.Changes.{first_touched, new_sections, touched_end}
use Rattle.org_entry.specs.Entry.{entry_of, heading_line}
use Rattle.org_settings.specs.Alike.{AnswerAlike}
use Rattle.org_store.specs.Begun.{entry_there}
use Rattle.org_store.specs.Outline.{file_entries, file_settings}
use Rattle.org_store.specs.Places.{HasLine, place_at}
use Rattle.org_store.specs.declared.place.Place.{Place}
use Rattle.org_text.specs.Replace.{replace}

-- where its settings stay, a file says after a change what it said before, but for the touched sections: in the place of
-- their entries stand those of the new ones
abbrev pub KeepsUntouchedEntries : Type 0
KeepsUntouchedEntries = (t ins : List ℕ) (at del : ℕ) → at + del ≤ length t → AnswerAlike (file_settings (replace t at del ins)) (file_settings t) →
    file_entries (replace t at del ins)
    ≡ splice (file_entries t) (first_touched t at del ins) (touched_end t at del) (map (entry_of (file_settings t)) (new_sections t at del ins))

-- at the place of a section with a heading the text has the heading line that its rows show
abbrev pub HeadingsAreThere : Type 0
HeadingsAreThere = (text : List ℕ) (heading : ℕ) (place : Place) → place_at text heading ≡ Some place → IsSome (entry_there text heading).head →
    HasLine text place (heading_line (entry_there text heading))
