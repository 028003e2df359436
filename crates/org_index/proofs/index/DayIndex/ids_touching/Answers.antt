use Rattle.std.proofs.Common.{◌≡◌, ◌∙◌, ◌↔◌, ◌+◌, IsTrue, ap, length, subst}
use Rattle.std.specs.Prelude.{Bool, Contains}
use Rattle.org_index.specs.Near.{candidate_ids, is_candidate, is_touching, touching_ids}
use Rattle.org_index.specs.Ticks.{examined}
use Rattle.org_index.proofs.CandidateLemmas.{candidates_are, is_touching_too, touching_is}
use Rattle.org_index.proofs.index.DayIndex.ids_touching.Goals as goal

pub returns-clause-value : goal.returns-clause-value
returns-clause-value c =
    candidates_are c.number.result c.number-2.result (c.number-3.result + 1) c.args.self.now c.in_ok-ids.ids.items c.in_ok-ids.ensures.ordered c.in_ok-ids.ensures.once c.in_ok-ids.ensures.exact
    ∙ (λ i. candidate_ids (c.number.ensures.value i) (c.number-2.ensures.value i) (c.number-3.ensures.value i + 1) c.args.self.now)
    ∙ touching_is c.args.from c.args.to c.args.self.now

pub returns-clause-exact : goal.returns-clause-exact
returns-clause-exact c = λ id.
    let same : is_candidate c.args.self.now c.number.result c.number-2.result (c.number-3.result + 1) id ≡ is_touching c.args.self.now c.args.from c.args.to id =
    (λ i. is_candidate c.args.self.now (c.number.ensures.value i) (c.number-2.ensures.value i) (c.number-3.ensures.value i + 1) id) ∙ is_touching_too c.args.from c.args.to id c.args.self.now in
    subst (λ (b : Bool). Contains c.in_ok-ids.ids.items id ↔ IsTrue b) same (c.in_ok-ids.ensures.exact id)

pub returns-clause-counts : goal.returns-clause-counts
returns-clause-counts c =
    let ids : c.in_ok-ids.ids.items ≡ touching_ids c.args.from c.args.to c.args.self.now =
    candidates_are c.number.result c.number-2.result (c.number-3.result + 1) c.args.self.now c.in_ok-ids.ids.items c.in_ok-ids.ensures.ordered c.in_ok-ids.ensures.once c.in_ok-ids.ensures.exact
    ∙ (λ i. candidate_ids (c.number.ensures.value i) (c.number-2.ensures.value i) (c.number-3.ensures.value i + 1) c.args.self.now)
    ∙ touching_is c.args.from c.args.to c.args.self.now in
    let count : c.len.result ≡ length c.in_ok-ids.ids.items = search in
    c.count_examined.ensures ∙ ap (λ n. examined n c.args.meter.now) (count ∙ ap length ids)
