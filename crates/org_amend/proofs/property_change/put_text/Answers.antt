use Rattle.std.proofs.Common.{◌∙◌}
use Rattle.std.specs.String.{string_bytes}
use Rattle.org_amend.proofs.PutLemmas.{put_is, put_none}
use Rattle.org_amend.proofs.property_change.put_text.Goals as goal

pub returns-in_ok-from_str-in-Ok-clause-value : goal.returns-in_ok-from_str-in-Ok-clause-value
returns-in_ok-from_str-in-Ok-clause-value c =
    put_is c.args.deleted (string_bytes c.in_ok-from_str-in-Ok.field-0) c.args.bytes.now (c.in_ok-from_str-in-Ok.ensures.ok ∙ c.in-Ok.ensures.cases.0) c.in-Ok.ensures.cases.1

pub returns-in-Err-clause-value : goal.returns-in-Err-clause-value
returns-in-Err-clause-value c = put_none c.args.deleted c.args.bytes.now c.in-Err.ensures.cases.0
