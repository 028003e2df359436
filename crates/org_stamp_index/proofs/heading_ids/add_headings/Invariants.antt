use Rattle.std.proofs.Common.{take}
use Rattle.org_stamp_index.specs.Near.{AddHeadings, KeepPlaces}
use Rattle.org_stamp_index.proofs.heading_ids.add_headings.Given as goal

abbrev pub invariant-loop-id : goal.invariant-loop-id
invariant-loop-id l = record {
  keeps : KeepPlaces l.fn.places.items l.places.items;
  adds : AddHeadings l.heading_of (take l.id-index l.ids) l.places.items;
}
