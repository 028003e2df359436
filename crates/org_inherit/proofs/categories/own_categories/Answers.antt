use Rattle.std.proofs.Common.{sym, ◌∙◌, arith}
use Rattle.std.proofs.lemmas.List.FromFn.{map-range_with_len_more}
use Rattle.org_inherit.specs.Category.{category_under}
use Rattle.org_inherit.proofs.LineageLemmas.{all_as_the_file}
use Rattle.org_inherit.proofs.categories.own_categories.Goals as goal

pub loop-place-preserved : goal.loop-place-preserved
loop-place-preserved c =
    let i = c.loop-place.place in
    c.in_ok-push.ensures.ok ∙ (rw (c.loop-place.invariant, c.next-category.ensures.value) (sym (map-range_with_len_more (category_under c.args.outline.now c.args.file_category.now) 0 i i (omega arith))))

pub returns-then-not-some_own : goal.returns-then-not-some_own
returns-then-not-some_own c = record {
  value = λ i. all_as_the_file c.args.outline.now c.args.file_category.now i (sym c.requires.some ∙ c.if-not-some_own.true);
}
