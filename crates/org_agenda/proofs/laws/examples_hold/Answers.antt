use Rattle.std.proofs.Common.{refl}
use Rattle.org_agenda.specs.Days.{day_rows, source_rows}
use Rattle.org_agenda.specs.Lists.{list_rows}
use Rattle.org_agenda.specs.Order.{by_key}
use Rattle.org_repeat.specs.Decided.{occurs, range_start}
use Rattle.org_agenda.proofs.laws.examples_hold.Goals as goal

pub returns : goal.returns
unfolding by_key day_rows lib.Utf8.encode list_rows occurs range_start source_rows
returns c = record {
  open_alone = refl;
  named_alone = refl;
  files_in_order = refl;
  equal_rows_stand_twice = refl;
  inherited = λ moment. refl;
}
