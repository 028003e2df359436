use Rattle.std.proofs.Common.{◌∙◌, ◌<◌, ◌≤◌, arith, length}
use Rattle.org_clocktable.specs.Counted.{whole_of}
use Rattle.org_clocktable.proofs.CountLemmas.{mapped_all, mapped_more, one_text}
use Rattle.org_clocktable.proofs.counted.all_counted.Goals as goal

pub whole_file-requires : goal.whole_file-requires
whole_file-requires c =
    let within : c.loop-place.place < length c.args.inherits.now = omega (arith, c.count-place-end.ensures.value) in
    record { text = one_text c.args.inherits.now c.loop-place.place c.get.result.now c.requires.texts within c.get.ensures.value }

pub loop-place-preserved : goal.loop-place-preserved
loop-place-preserved c =
    mapped_more whole_of c.args.inherits.now c.loop-place.place c.get.result.now _ _ _ c.get.ensures.value c.in_ok-file.ensures.value c.loop-place.invariant c.in_ok-push.ensures.items

pub returns-clause-value : goal.returns-clause-value
returns-clause-value c =
    let whole : length c.args.inherits.now ≤ c.loop-place.place = omega (arith, c.count-place-end.ensures.value) in
    c.loop-place.invariant ∙ mapped_all whole_of c.args.inherits.now c.loop-place.place whole
