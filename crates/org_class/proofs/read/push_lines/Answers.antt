-- The line is a setting line, or not.
use Rattle.std.proofs.Common.{ap, arith, length}
use Rattle.org_class.proofs.SettingLemmas.{setting_more, still_more}
use Rattle.org_class.proofs.read.push_lines.Goals as goal

pub loop-line-preserved : goal.loop-line-preserved
loop-line-preserved g c =
    let step = rw c.in_ok-line.was at c.in-Some.ensures.steps in
    let count = ap length step.1 in
    record {
      few = omega (arith, count, c.loop-line.invariant.few);
      all = setting_more c.args.classes.now c.loop-line.place c.loop-line.texts _ _ _ _ step.0 _ _ step.1 step.2.bytes c.class_at.ensures.value c.in_ok-push_setting.ensures.ok c.loop-line.invariant.all;
      still = still_more _ _ _ _ c.loop-line.invariant.still c.in_ok-push_setting.ensures.ok;
    }
