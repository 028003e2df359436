use Rattle.std.proofs.Common.{◌∙◌, arith, subst, sym}
use Rattle.org_visible.specs.Clean.{IsClean}
use Rattle.org_client.proofs.JsonLemmas.{decimal_clean}
use Rattle.org_client.proofs.one_line.OneLine.push_number.Goals as goal

pub push_all-requires : goal.push_all-requires
push_all-requires c =
    subst IsClean (sym (c.as_bytes.ensures.value ∙ c.in_ok-digits.ensures.ok)) (decimal_clean c.args.number (omega (arith, c.ranges.number.fits)))
