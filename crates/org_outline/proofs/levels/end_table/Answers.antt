use Rattle.std.proofs.Common.{length, arith}
use Rattle.std.proofs.lemmas.List.FromFn.{fill_by_all}
use Rattle.org_outline.specs.Tree.{end_of}
use Rattle.org_outline.proofs.levels.end_table.Goals as goal

pub returns : goal.returns
returns c = record {
  value = fill_by_all (end_of c.args.levels.now) c.loop-place.all_ends.items (length c.args.levels.now) 0 c.loop-place.invariant.count (λ k h. c.loop-place.invariant.done k (omega arith) h);
}
