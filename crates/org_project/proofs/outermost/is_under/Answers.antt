use Rattle.std.proofs.Common.{◌∙◌}
use Rattle.org_project.proofs.WaitLemmas.{under_known}
use Rattle.org_project.proofs.outermost.is_under.Goals as goal

pub returns : goal.returns
returns c = record {
  value = c.is_below.ensures.value ∙ under_known c.args.outline.now c.args.of_kind.now c.args.under.now c.args.place c.parent.result c.parent.ensures.value c.requires.known;
}
