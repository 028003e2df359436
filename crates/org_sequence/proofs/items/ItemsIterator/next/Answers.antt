use Rattle.org_sequence.proofs.Finds.{refilled}
use Rattle.org_sequence.proofs.items.ItemsIterator.next.Goals as goal

pub returns-clause-steps : goal.returns-clause-steps
returns-clause-steps g c =
    let none = rw c.in_default.is at c.split_first.ensures.cases in
    let first = rw c.unwrap.ensures at c.split_first-2.ensures.cases in
    refilled c.args.self.now c.self.inside.run.now c.self.inside.sequence.now c.run_at-run.result.now c.unwrap.result.1.now c.unwrap.result.0.now c.self.inside.at c.self.view_is none c.run_at-run.ensures.run first.0
