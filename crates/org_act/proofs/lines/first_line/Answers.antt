-- The first line ends with the first line feed, or with the text.
use Rattle.std.proofs.Common.{sym}
use Rattle.org_entry.proofs.LineLemmas.{no_feed, up_to_feed}
use Rattle.org_act.proofs.lines.first_line.Goals as goal

pub returns-in-Some-clause-value : goal.returns-in-Some-clause-value
returns-in-Some-clause-value c = up_to_feed c.args.text.now c.in-Some.place (sym c.in-Some.ensures.value)

pub returns-in-None-clause-value : goal.returns-in-None-clause-value
returns-in-None-clause-value c = no_feed c.args.text.now (sym c.in-None.ensures.value)
