-- The parts that a line is the spelling of are those that are read.
use Rattle.org_head.proofs.PartsDetermined.{head_is_determined}
use Rattle.org_head.proofs.laws.heading_line_has_no_other_parts.Goals as goal

pub returns : goal.returns
returns c = head_is_determined
