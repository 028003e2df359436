use Rattle.std.proofs.Common.{ap}
use Rattle.std.specs.Prelude.{not}
use Rattle.org_amend.proofs.TagLemmas.{kept_more}
use Rattle.org_base.specs.Results.{lent_in}
use Rattle.org_amend.proofs.wanted_tags.push_kept.Goals as goal

pub loop-place-preserved : goal.loop-place-preserved
loop-place-preserved c =
    kept_more (lent_in c.args.removed.now) c.args.old.now c.loop-place.tags c.push_if.new.tags _ c.loop-place.place c.get-tag.result.now (not c.is_among.result) c.get-tag.ensures.value (ap not c.is_among.ensures.value)
    c.in_ok-push_if.ensures.ok c.loop-place.invariant
