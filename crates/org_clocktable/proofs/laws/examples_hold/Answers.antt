use Rattle.std.proofs.Common.{refl}
use Rattle.org_clocktable.specs.Table.{step_rows}
use Rattle.org_sum.specs.Measures.{clock_minutes, effort_minutes}
use Rattle.org_clocktable.proofs.laws.examples_hold.Goals as goal

pub returns : goal.returns
unfolding clock_minutes effort_minutes step_rows
returns c = record { down_to_level_one = refl; hidden_counts = λ moment scope. refl }
