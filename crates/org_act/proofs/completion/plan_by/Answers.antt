-- The change lies in the text itself, and makes of it what completing the whole makes.
use Rattle.std.proofs.Common.{◌+◌, ◌-◌, ◌≤◌, ◌∙◌, ap, arith, length}
use Rattle.std.specs.Prelude.{string_bytes}
use Rattle.org_act.proofs.PlanLemmas.{within_it}
use Rattle.org_text.specs.Replace.{max_bytes}
use Rattle.org_act.proofs.completion.plan_by.Goals as goal

pub returns : goal.returns
returns c =
    let whole = c.args.file.now.text in
    let change = c.in_ok-change.change in
    let len = c.len-len.ensures.value ∙ ap length c.text.ensures.value in
    let le : length whole - change.del + length (string_bytes change.ins) ≤ max_bytes = omega (arith, c.if-len-change-gt-MAX_BYTES.false, len, c.len.ensures) in
    let within : change.at + change.del ≤ length c.args.text.now = omega (arith, c.if-text-change.false) in
    record { value = (within, within_it c.args.act.now c.args.text.now whole c.args.word.now change c.in_ok-change.ensures.value le c.requires.whole within) }
