use Rattle.std.proofs.Common.{refl}
use Rattle.std.specs.Fmt.{digits}
use Rattle.org_visible.specs.Visible.{visible}
use Rattle.org_check.proofs.laws.printed_examples_hold.Goals as goal

pub returns : goal.returns
unfolding digits visible
returns c = record {
  usual = refl;
  rare = refl;
  asked_for = refl;
  left_out = refl;
  below_least = refl;
  in_order = refl;
  one_counts = refl;
  moved = refl;
  cut_quote = refl;
  printed = refl;
  as_object = refl;
}
