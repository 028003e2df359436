use Rattle.std.proofs.Common.{◌≡◌, ◌∙◌, ◌==◌, ◌<◌, ◌≤◌, ap, arith, length}
use Rattle.std.specs.Prelude.{not}
use Rattle.org_agenda.specs.Days.{rows_ahead}
use Rattle.org_answer.proofs.RowLemmas.{begins, found_ahead, none_ahead, nothing_ahead, some_row}
use Rattle.org_answer.proofs.any_row.agenda_has_row.Goals as goal

pub loop-ahead-init : goal.loop-ahead-init
loop-ahead-init c = begins c.args.agenda.now

pub returns-then-not-is_empty : goal.returns-then-not-is_empty
returns-then-not-is_empty c =
    let within : c.loop-ahead.ahead < c.args.agenda.now.count = omega (arith, c.count-ahead-end.ensures.value) in
    let is : not c.is_empty.result ≡ some_row (rows_ahead c.args.agenda.now c.loop-ahead.ahead) =
    ap not (c.is_empty.ensures ∙ ap (λ rows. length rows == 0) (c.as_slice.ensures.value ∙ c.in_ok-rows.ensures.value)) in
    record { value = found_ahead c.args.agenda.now c.loop-ahead.ahead _ _ within is (ap not c.if-not-is_empty.true) c.loop-ahead.invariant }

pub loop-ahead-preserved : goal.loop-ahead-preserved
loop-ahead-preserved c =
    let within : c.loop-ahead.ahead < c.args.agenda.now.count = omega (arith, c.count-ahead-end.ensures.value) in
    let is : not c.is_empty.result ≡ some_row (rows_ahead c.args.agenda.now c.loop-ahead.ahead) =
    ap not (c.is_empty.ensures ∙ ap (λ rows. length rows == 0) (c.as_slice.ensures.value ∙ c.in_ok-rows.ensures.value)) in
    none_ahead c.args.agenda.now c.loop-ahead.ahead _ _ within is (ap not c.if-not-is_empty.false) c.loop-ahead.invariant

pub returns : goal.returns
returns c =
    let past : c.args.agenda.now.count ≤ c.loop-ahead.ahead = omega (arith, c.count-ahead-end.ensures.value) in
    record { value = nothing_ahead c.args.agenda.now c.loop-ahead.ahead _ past c.loop-ahead.invariant }
