use Rattle.std.specs.List.{between}
use Rattle.org_stamp_index.specs.Index.{AreTaken}
use Rattle.org_stamp_index.proofs.index.StampIndex.take_entries.Given as goal

abbrev pub invariant-loop-place : goal.invariant-loop-place
invariant-loop-place l = AreTaken l.fn.self.settings.value (between l.range.start l.place l.outline) (between l.range.start l.place l.fn.self.first_id_of.items) l.fn.self l.self
