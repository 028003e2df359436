use Rattle.std.proofs.Common.{refl}
use Rattle.std.specs.Fmt.{digits}
use Rattle.std.specs.Str.{chars, is_utf8}
use Rattle.unicode_width.proofs.Computing.{unicode_width}
use Rattle.org_layout.specs.Columns.{shown}
use Rattle.org_layout.specs.Days.{label_text}
use Rattle.org_layout.specs.Tables.{name_text}
use Rattle.org_layout.proofs.laws.examples_hold.Goals as goal

pub returns : goal.returns
unfolding chars digits is_utf8 label_text lib.Utf8.encode name_text shown unicode_width
returns c = record {
  wide_count_two = refl;
  two_a_level = λ scope. refl;
  second_of_three = refl;
  in_three_days = refl;
  three_days_ago = refl;
  title_before_tags = refl;
}
