use Rattle.std.proofs.Common.{◌∙◌, ap, sym, take}
use Rattle.std.specs.Prelude.{◌||◌, bytes_eq}
use Rattle.std.specs.List.{list_any}
use Rattle.org_inherit.proofs.ListLemmas.{take_one_more}
use Rattle.org_inherit.proofs.TagLemmas.{list_any-more}
use Rattle.org_inherit.proofs.first_tags.set_of.Goals as goal

pub loop-place-preserved : goal.loop-place-preserved
loop-place-preserved c = λ other.
    let tags = c.args.tags.now in
    let place = c.loop-place.place in
    let tag = c.get.result.now in
    c.in_ok-is_new.ensures.seen other
    ∙ ap (λ b. bytes_eq other tag || b) (c.loop-place.invariant other)
    ∙ sym (list_any-more (bytes_eq other) (take place tags) tag)
    ∙ ap (list_any (bytes_eq other)) (sym (take_one_more tags place tag c.get.ensures.value))
