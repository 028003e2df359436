use Rattle.std.proofs.Common.{◌∙◌, subst, sym}
use Rattle.org_visible.specs.Clean.{IsClean}
use Rattle.org_client.proofs.JsonLemmas.{field_clean}
use Rattle.org_client.proofs.one_line.OneLine.field.Goals as goal

pub push_all-requires : goal.push_all-requires
push_all-requires c = subst IsClean (sym (c.as_slice.ensures.value ∙ c.in_ok-bytes.ensures.value)) (field_clean c.args.text.now)
