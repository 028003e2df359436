use Rattle.std.proofs.Common.{◌∙◌}
use Rattle.org_project.proofs.WaitLemmas.{parents_earlier, waits_known}
use Rattle.org_project.proofs.blocked.waits.Goals as goal

pub waits_below-requires : goal.waits_below-requires
waits_below-requires c = record { earlier = parents_earlier c.args.outline.now c.args.place c.parent.result c.parent.ensures.value }

pub returns : goal.returns
returns c = record {
  value =
      c.waits_below.ensures.value
      ∙ waits_known c.args.outline.now c.args.tasks.now c.args.waiting.now c.args.before.now c.args.place c.parent.result c.requires.within c.parent.ensures.value c.requires.before c.requires.known;
}
