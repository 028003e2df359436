use Rattle.std.proofs.Common.{◌∙◌, ◌<◌, ◌≤◌, ap, arith, length}
use Rattle.org_expression.specs.Grammar.{Expr}
use Rattle.org_clocktable.specs.Counted.{matching_of}
use Rattle.org_clocktable.proofs.CountLemmas.{mapped_all, mapped_more, one_text}
use Rattle.org_clocktable.proofs.counted.tested_files.Goals as goal

pub matching_file-requires : goal.matching_file-requires
matching_file-requires c =
    let within : c.loop-place.place < length c.args.inherits.now = omega (arith, c.count-place-end.ensures.value) in
    record { text = one_text c.args.inherits.now c.loop-place.place c.get.result.now c.requires.texts within c.get.ensures.value }

pub loop-place-preserved : goal.loop-place-preserved
loop-place-preserved c =
    let inv = c.loop-place.invariant in
    record {
      files = mapped_more (matching_of c.args.matcher.now c.args.moment.now) c.args.inherits.now c.loop-place.place c.get.result.now _ _ _ c.get.ensures.value
          (c.in_ok-file.ensures.value ∙ ap (λ (e : Expr). matching_of e c.args.moment.now c.get.result.now) inv.same) inv.files c.in_ok-push.ensures.items;
      same = c.in_ok-file.ensures.unchanged ∙ inv.same;
    }

pub returns-clause-value : goal.returns-clause-value
returns-clause-value c =
    let whole : length c.args.inherits.now ≤ c.loop-place.place = omega (arith, c.count-place-end.ensures.value) in
    c.loop-place.invariant.files ∙ mapped_all (matching_of c.args.matcher.now c.args.moment.now) c.args.inherits.now c.loop-place.place whole
