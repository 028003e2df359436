-- Entries are of sections alone.
use Rattle.std.proofs.Common.{◌∙◌, ap, map}
use Rattle.std.proofs.lemmas.List.{map-append}
use Rattle.org_class.proofs.Cuts.{cuts_into_sections}
use Rattle.org_class.specs.Sections.{sections}
use Rattle.org_entry.specs.Entry.{entry_of}
use Rattle.org_entry.specs.Laws.{EntriesAreOfSections}

pub entries_of_sections : EntriesAreOfSections
entries_of_sections settings a b cut = ap (map (entry_of settings)) (cuts_into_sections a b cut) ∙ map-append (entry_of settings) (sections a) (sections b)
