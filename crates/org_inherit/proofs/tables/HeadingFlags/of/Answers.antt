use Rattle.std.proofs.Common.{◌∙◌, ◌<◌, ◌||◌, ◌++◌, ◌∷◌, [], length, ap, ap₂, sym, arith}
use Rattle.std.proofs.lemmas.List.Folds.{list_any_more}
use Rattle.org_inherit.specs.Hidden.{hides, of_parent}
use Rattle.org_inherit.specs.Tables.{has_category, has_tags, one_passes}
use Rattle.org_inherit.proofs.LineageLemmas.{table_more}
use Rattle.org_outline.proofs.ByPlace.{table_length}
use Rattle.org_outline.proofs.Parents.{behind_parent}
use Rattle.org_outline.specs.Levels.{levels}
use Rattle.org_inherit.proofs.tables.HeadingFlags.of.Goals as goal

pub one_passes-hides-requires : goal.one_passes-hides-requires
one_passes-hides-requires c =
    let n = ap length c.deref.ensures.value ∙ table_length (one_passes hides c.args.outline.now) c.loop-place.hidden.items c.loop-place.place c.loop-place.invariant.hidden in
    let p = behind_parent (levels c.args.outline.now) c.loop-place.place in
    rw c.parent-parent.ensures.value (omega (arith, n, p))

pub one_passes-has_tags-requires : goal.one_passes-has_tags-requires
one_passes-has_tags-requires c =
    let n = ap length c.deref-in-loop-place.ensures.value ∙ table_length (one_passes has_tags c.args.outline.now) c.loop-place.tagged.items c.loop-place.place c.loop-place.invariant.tagged in
    let p = behind_parent (levels c.args.outline.now) c.loop-place.place in
    rw c.parent-parent.ensures.value (omega (arith, n, p))

pub loop-place-preserved : goal.loop-place-preserved
loop-place-preserved c =
    let es = c.args.outline.now in
    let i = c.loop-place.place in
    let e = c.entry-entry.result.now in
    let p = c.parent-parent.result in
    let inv = c.loop-place.invariant in
    let within : i < length es = omega (arith, c.loop-place-test.true, c.count-count.ensures.value) in
    record {
      hidden = table_more hides es i e p c.loop-place.hidden.items c.push.new.self.items c.hides.result within c.entry-entry.ensures.value c.parent-parent.ensures.value c.hides.ensures.value inv.hidden
          (c.in_ok-push.ensures.items ∙ ap (λ b. c.loop-place.hidden.items ++ b ∷ []) (c.one_passes-hides.ensures.value ∙ ap (λ v. c.hides.result || of_parent v p) c.deref.ensures.value));
      tagged = table_more has_tags es i e p c.loop-place.tagged.items c.push-in-loop-place.new.self.items c.has_tags.result within c.entry-entry.ensures.value c.parent-parent.ensures.value c.has_tags.ensures.value inv.tagged
          (c.in_ok-push-2.ensures.items ∙ ap (λ b. c.loop-place.tagged.items ++ b ∷ []) (c.one_passes-has_tags.ensures.value ∙ ap (λ v. c.has_tags.result || of_parent v p) c.deref-in-loop-place.ensures.value));
      categories = ap₂ (λ a b. a || b) inv.categories (c.has_category-has_categories.ensures.value ∙ ap has_category c.entry-entry.ensures.value) ∙ sym (list_any_more has_category es i e within);
    }
