use Rattle.std.proofs.Common.{arith}
use Rattle.org_overview.specs.Cells.{cell_of, week_cells}
use Rattle.org_overview.proofs.RangeLemmas.{some_more}
use Rattle.org_overview.proofs.month.weeks_of.Goals as goal

pub loop-week-preserved : goal.loop-week-preserved
loop-week-preserved g c =
    some_more week_cells (cell_of c.args.seen.now.files.now.files c.args.agenda.now) c.loop-week.weeks.items c.push.new.self.items c.in_ok-week.week _ 7 _ (omega arith)
    c.loop-week.invariant c.in_ok-week.ensures.value c.in_ok-push.ensures.items
