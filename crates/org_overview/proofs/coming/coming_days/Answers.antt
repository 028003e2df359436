use Rattle.std.proofs.Common.{refl}
use Rattle.org_overview.specs.Days.{day_marks, own_marks}
use Rattle.org_overview.proofs.RangeLemmas.{one_more}
use Rattle.org_overview.proofs.coming.coming_days.Goals as goal

pub loop-place-preserved : goal.loop-place-preserved
loop-place-preserved g c =
    one_more day_marks (own_marks c.args.seen.now.files.now.files c.args.agenda.now) c.loop-place.days.items c.push.new.self.items c.in_ok-day.day c.args.from c.loop-place.place _ refl
    c.loop-place.invariant c.in_ok-day.ensures.value c.in_ok-push.ensures.items
