use Rattle.std.proofs.Common.{◌∙◌, subst, sym}
use Rattle.org_visible.specs.Clean.{IsClean}
use Rattle.org_visible.specs.declared.visible.Escape.TheVariants.{Caret}
use Rattle.org_visible.proofs.CleanLemmas.{visible_is_clean}
use Rattle.org_client.proofs.one_line.OneLine.push_seen.Goals as goal

pub push_all-requires : goal.push_all-requires
push_all-requires c = subst IsClean (sym (c.as_slice.ensures.value ∙ c.in_ok-bytes.ensures.value)) (visible_is_clean Caret c.args.text.now)
