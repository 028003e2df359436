use Rattle.std.proofs.Common.{◌≡◌, arith, length, drop, Some, Ok, Err, refl, subst, sym, ap, ◌∙◌}
use Rattle.std.proofs.lemmas.Result.{err_from_is_err_and}
use Rattle.orgls_text.specs.Documents.{changed}
use Rattle.orgls_text.specs.Outcomes.{Becomes}
use Rattle.orgls_text.proofs.ChangeLemmas.{all_made, one_more, one_refused}
use Rattle.orgls_text.proofs.change.behind_changes.Goals as goal

pub returns-in_err-make : goal.returns-in_err-make
returns-in_err-make c =
    let e = c.args.encoding in
    let cs = c.args.changes.now in
    let f = c.in_err-make.field-0.0 in
    let gone = one_refused e cs c.loop-change.change-index c.change-item.result c.loop-change.new c.make.new.text c.make.result f
    c.loop-change-test.true c.change-item.is c.in_err-make.was c.make.ensures.value in
    let all : Becomes (changed e cs c.args.text.now) (Err f) = subst (λ o. Becomes o (Err f)) c.loop-change.invariant gone in
    let p = err_from_is_err_and c.from_residual-in_err-make.result c.from_residual-in_err-make.ensures.1 in
    record { value = rw (p.1, p.2) all }

pub loop-change-preserved : goal.loop-change-preserved
loop-change-preserved c =
    one_more c.args.encoding c.args.changes.now c.loop-change.change-index c.change-item.result c.loop-change.new c.make.new.text c.make.result c.in_ok-make.field-0
    c.loop-change-test.true c.change-item.is c.in_ok-make.was c.make.ensures.value
    ∙ c.loop-change.invariant

pub returns : goal.returns
returns c =
    let e = c.args.encoding in
    let cs = c.args.changes.now in
    let new = c.loop-change.new in
    let end : c.loop-change.change-index ≡ length cs = omega arith in
    let all : Some new ≡ changed e cs c.args.text.now =
    sym (all_made e cs new) ∙ ap (λ n. changed e (drop n cs) new) (sym end) ∙ c.loop-change.invariant in
    record { value = subst (λ o. Becomes o (Ok new)) all refl }
