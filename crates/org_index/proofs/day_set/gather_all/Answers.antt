use Rattle.std.proofs.Common.{ℕ, ◌||◌, ◌∙◌, ap, sym, subst, ◌↔◌, IsTrue}
use Rattle.org_index.specs.DaySet.{stands_in}
use Rattle.org_index.proofs.KeyLemmas.{gathered, gathered_more, has_id, stands_on_days, OnDays}
use Rattle.org_index.proofs.day_set.gather_all.Goals as goal

pub returns : goal.returns
returns c = λ id.
    let whole = c.loop-id.invariant id in
    gathered c.args.found.now.items c.loop-id.found.items id (stands_in id c.into_iter-id-iterator.result) _
    (sym (ap (λ ks. has_id c.loop-id.found.items id || stands_in id ks) c.in-None.ensures.steps.0) ∙ whole)
    (subst (λ ks. IsTrue (stands_in id ks) ↔ OnDays c.args.from c.args.to id c.args.day_set.now.keys) (sym (c.into_iter-id-iterator.ensures.into_iter_gives ∙ c.range-id-items.ensures.between tt)) (stands_on_days c.args.from c.args.to id c.args.day_set.now.keys))

pub loop-id-preserved : goal.loop-id-preserved
loop-id-preserved c = gathered_more c.loop-id.found.items c.push.new.self.items c.in-Some.field-0.now c.loop-id.id-iterator c.next.new.self _ c.in_ok-push.ensures.items c.in-Some.ensures.steps c.loop-id.invariant
