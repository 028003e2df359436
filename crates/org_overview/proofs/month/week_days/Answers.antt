use Rattle.std.proofs.Common.{refl}
use Rattle.org_overview.specs.Cells.{cell_marks, cell_of}
use Rattle.org_overview.proofs.RangeLemmas.{one_more}
use Rattle.org_overview.proofs.month.week_days.Goals as goal

pub loop-column-preserved : goal.loop-column-preserved
loop-column-preserved g c =
    one_more cell_marks (cell_of c.args.seen.now.files.now.files c.args.agenda.now) c.loop-column.days.items c.push.new.self.items c.in_ok-day.day c.args.first c.loop-column.column _ refl
    c.loop-column.invariant c.in_ok-day.ensures.value c.in_ok-push.ensures.items
