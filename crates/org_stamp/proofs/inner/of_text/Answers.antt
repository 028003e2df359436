use Rattle.std.proofs.Common.{◌∙◌, sym}
use Rattle.org_stamp.proofs.WordLemmas.{long_inner}
use Rattle.org_stamp.proofs.inner.of_text.Goals as goal

pub returns-in_default : goal.returns-in_default
returns-in_default c =
    record { value = long_inner c.args.active c.args.bytes.now (sym c.begins_long.ensures.value ∙ c.if-begins_long.true) }
