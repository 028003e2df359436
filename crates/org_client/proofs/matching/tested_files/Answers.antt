use Rattle.std.proofs.Common.{◌∙◌, ◌≤◌, ap, arith, length}
use Rattle.org_agenda.specs.Holding.{holds_of}
use Rattle.org_clocktable.proofs.CountLemmas.{mapped_all, mapped_more}
use Rattle.org_expression.specs.Grammar.{Expr}
use Rattle.org_client.proofs.matching.tested_files.Goals as goal

pub loop-place-preserved : goal.loop-place-preserved
loop-place-preserved c =
    let inv = c.loop-place.invariant in
    record {
      files = mapped_more (holds_of c.args.matcher.now c.args.moment.now) c.args.inherits.now c.loop-place.place c.get.result.now _ _ _ c.get.ensures.value
          (c.in_ok-file.ensures.value ∙ ap (λ (e : Expr). holds_of e c.args.moment.now c.get.result.now) inv.same) inv.files c.in_ok-push.ensures.items;
      same = c.in_ok-file.ensures.unchanged ∙ inv.same;
    }

pub returns-clause-value : goal.returns-clause-value
returns-clause-value c =
    let whole : length c.args.inherits.now ≤ c.loop-place.place = omega (arith, c.count-place-end.ensures.value) in
    c.loop-place.invariant.files ∙ mapped_all (holds_of c.args.matcher.now c.args.moment.now) c.args.inherits.now c.loop-place.place whole
