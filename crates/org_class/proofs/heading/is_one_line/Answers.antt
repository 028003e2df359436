use Rattle.org_class.proofs.HeadingLemmas.{one_unended, some_bytes}
use Rattle.org_class.proofs.heading.is_one_line.Goals as goal

pub returns-in-None : goal.returns-in-None
returns-in-None c = record { one = λ e. one_unended c.args.bytes.now c.in-None.ensures (some_bytes c.args.bytes.now c.is_empty.result c.is_empty.ensures e) }
