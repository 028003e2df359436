use Rattle.std.specs.List.{between}
use Rattle.org_stamp_index.specs.Index.{ArePut}
use Rattle.org_stamp_index.proofs.index.StampIndex.put_entries.Given as goal

abbrev pub invariant-loop-place : goal.invariant-loop-place
invariant-loop-place l = ArePut l.fn.self.settings.value l.range.start (between l.range.start l.place l.outline) l.first_id_of.items l.fn.self l.self
