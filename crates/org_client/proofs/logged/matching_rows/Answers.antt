use Rattle.std.proofs.Common.{◌≡◌, ◌∙◌, ◌+◌, ◌∷◌, drop, ap, sym, arith}
use Rattle.std.proofs.lemmas.List.{drop_all, drop_more}
use Rattle.org_client.specs.LogRows.{chosen_log, log_meeting}
use Rattle.org_client.proofs.logged.matching_rows.Goals as goal

pub loop-expression-preserved : goal.loop-expression-preserved
loop-expression-preserved c =
    let exprs = c.args.expressions.now in
    let i = c.loop-expression.expression-index in
    let e = c.expression-item.result in
    let moment = c.args.moment.now in
    let scopes = c.args.inherits.now in
    let old = c.loop-expression.some.items in
    let first : drop i exprs ≡ e ∷ drop (i + 1) exprs = drop_more exprs i e (omega arith) ∙ ap (λ x. x ∷ drop (i + 1) exprs) (sym c.expression-item.is) in
    ap (chosen_log (drop (i + 1) exprs) moment scopes) (c.in_ok-some.ensures.value ∙ ap (log_meeting e moment scopes) c.as_slice.ensures.value)
    ∙ (ap (λ es. chosen_log es moment scopes old) (sym first) ∙ c.loop-expression.invariant)

pub returns : goal.returns
returns c = record {
  value = ap (λ exprs. chosen_log exprs c.args.moment.now c.args.inherits.now c.loop-expression.some.items) (sym (drop_all c.loop-expression.expression-index c.args.expressions.now (omega arith)))
      ∙ c.loop-expression.invariant;
}
