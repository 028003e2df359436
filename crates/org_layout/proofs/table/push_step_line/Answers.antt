use Rattle.std.proofs.Common.{codes, string_bytes}
use Rattle.org_cal.specs.Texts.{date_text}
use Rattle.org_layout.proofs.HeadLemmas.{four}
use Rattle.org_layout.specs.Tables.{step_line}
use Rattle.org_layout.proofs.table.push_step_line.Goals as goal

pub returns : goal.returns
unfolding step_line
returns c =
    record {
      ok = four (string_bytes c.args.out.now) (date_text c.args.first) (codes " ") (date_text c.args.last) (codes "\n") _ _ _ _
          c.in_ok-push_date.ensures.ok c.in_ok-push_str.ensures.bytes c.in_ok-push_date-2.ensures.ok c.in_ok-push_str-2.ensures.bytes;
    }
