use Rattle.std.proofs.Common.{◌≡◌, ◌∙◌, ◌+◌, ◌∷◌, drop, ap, sym, arith}
use Rattle.std.proofs.lemmas.List.{drop_all, drop_more}
use Rattle.org_client.specs.Matching.{all_clocks, met_clocks}
use Rattle.org_client.proofs.matching.matching_clocks.Goals as goal

pub loop-expression-preserved : goal.loop-expression-preserved
loop-expression-preserved c =
    let exprs = c.args.expressions.now in
    let i = c.loop-expression.expression-index in
    let e = c.expression-item.result in
    let moment = c.args.moment.now in
    let scopes = c.args.inherits.now in
    let old = c.loop-expression.some.items in
    let first : drop i exprs ≡ e ∷ drop (i + 1) exprs = drop_more exprs i e (omega arith) ∙ ap (λ x. x ∷ drop (i + 1) exprs) (sym c.expression-item.is) in
    ap (all_clocks (drop (i + 1) exprs) moment scopes) (c.in_ok-some.ensures.value ∙ ap (met_clocks e moment scopes) c.as_slice.ensures.value)
    ∙ (ap (λ es. all_clocks es moment scopes old) (sym first) ∙ c.loop-expression.invariant)

pub returns-clause-value : goal.returns-clause-value
returns-clause-value c =
    ap (λ exprs. all_clocks exprs c.args.moment.now c.args.inherits.now c.loop-expression.some.items) (sym (drop_all c.loop-expression.expression-index c.args.expressions.now (omega arith)))
    ∙ c.loop-expression.invariant
