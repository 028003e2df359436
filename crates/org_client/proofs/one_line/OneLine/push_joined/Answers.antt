use Rattle.org_visible.specs.Visible.{visible}
use Rattle.org_visible.specs.declared.visible.Escape.TheVariants.{Caret}
use Rattle.org_client.proofs.ItemLemmas.{put_more}
use Rattle.org_client.proofs.one_line.OneLine.push_joined.Goals as goal

pub loop-place-preserved : goal.loop-place-preserved
loop-place-preserved c =
    put_more (visible Caret) c.args.between c.args.texts.now c.loop-place.place c.get.result.now _ _ _ _ c.get.ensures.value c.loop-place.invariant c.in_ok-push_separator.ensures.ok c.in_ok-push_seen.ensures.ok
