use Rattle.std.proofs.Common.{◌<◌, length, ap, sym, ◌∙◌, arith}
use Rattle.std.specs.Prelude.{slice_set}
use Rattle.std.proofs.lemmas.List.{length-map, map-set}
use Rattle.org_outline.specs.Levels.{held_in, level_of, levels}
use Rattle.org_outline.specs.Parents.{all_up_to_parent}
use Rattle.org_outline.proofs.ByPlace.{put_back, same_level, set_levels}
use Rattle.org_outline.proofs.body.Body.set.Goals as goal

pub invariant_of-self : goal.invariant_of-self
invariant_of-self c =
    let within : c.args.place < length c.self.inside.list.items = omega (arith, ap length c.self.view_is, length-map c.self.inside.list.items (λ e. e.value), c.requires) in
    let own = c.level_of.ensures.value ∙ ap level_of c.deref.ensures in
    let other = c.level_of-2.ensures.value ∙ ap level_of c.deref-2.ensures in
    let same = sym own ∙ (same_level c.level_of.result c.level_of-2.result (sym c.eq.ensures ∙ c.if-eq.true) ∙ other) in
    c.self.invariant ∙ sym (ap all_up_to_parent (set_levels (λ e. e.value) c.self.inside.list.items c.args.place c.index.result.now c.args.entry within c.index.ensures same))

pub returns-then-eq-clause-ok : goal.returns-then-eq-clause-ok
returns-then-eq-clause-ok c = map-set (λ e. e.value) c.self.inside.list.items c.args.place c.args.entry ∙ ap (λ es. slice_set es c.args.place c.args.entry.value) c.self.view_is

pub invariant_of-self-in-Err : goal.invariant_of-self-in-Err
invariant_of-self-in-Err c =
    let there = c.replace-before.ensures.value ∙ c.index_mut-2.ensures.value in
    let back = put_back c.self.inside.list.items c.args.place c.replace-before.result c.replace-before.new.dest c.index_mut-2.result.now there in
    c.self.invariant ∙ sym (ap (λ rs. all_up_to_parent (levels (held_in rs))) back)

pub returns-in-Ok-clause-ok : goal.returns-in-Ok-clause-ok
returns-in-Ok-clause-ok c =
    map-set (λ e. e.value) c.self.inside.list.items c.args.place c.replace-before.new.dest
    ∙ ((λ i. slice_set (c.self.view_is i) c.args.place (c.replace-before.ensures.after i).value))

pub returns-in-Err-clause-err : goal.returns-in-Err-clause-err
returns-in-Err-clause-err c =
    let there = c.replace-before.ensures.value ∙ c.index_mut-2.ensures.value in
    let back = put_back c.self.inside.list.items c.args.place c.replace-before.result c.replace-before.new.dest c.index_mut-2.result.now there in
    ap held_in back ∙ c.self.view_is
