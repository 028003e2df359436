-- Words of the proofs about Active: parts of its definitions.
use Rattle.std.specs.Option.{option_map_or}
use Rattle.std.specs.Prelude.{Bool, List, Option}
use Rattle.org_drawer.specs.declared.planning.Planning.{Planning}
use Rattle.org_entry.specs.declared.active.EntryStamp.{EntryStamp}
use Rattle.org_entry.specs.Active.{with_line}

-- stamps with those of the planning line, if there is one
abbrev pub with_planning : Bool → Option Planning → List EntryStamp → List EntryStamp
with_planning opens found stamps = option_map_or (λ planning. with_line opens planning stamps) found stamps
