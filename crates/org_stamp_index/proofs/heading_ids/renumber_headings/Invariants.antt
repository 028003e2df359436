-- Those so far have their new numbers, and those that are left their old ones.
use Rattle.std.proofs.Common.{◌≡◌, ◌++◌, drop, map, take}
use Rattle.org_stamp_index.specs.Index.{moved}
use Rattle.org_stamp_index.proofs.heading_ids.renumber_headings.Given as goal

abbrev pub invariant-loop-heading : goal.invariant-loop-heading
invariant-loop-heading l = l.heading_of ≡ map (moved l.end l.behind) (take l.heading-index l.fn.heading_of) ++ drop l.heading-index l.fn.heading_of
