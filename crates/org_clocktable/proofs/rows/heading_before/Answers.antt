use Rattle.std.proofs.Common.{List, ◌≡◌, ◌∙◌, ap, arith, length}
use Rattle.org_entry.specs.declared.entry.Entry.{Entry}
use Rattle.org_outline.specs.Levels.{levels}
use Rattle.org_outline.specs.Tree.{parent}
use Rattle.org_clocktable.proofs.WalkLemmas.{at_end, at_heading, rise_of}
use Rattle.org_clocktable.proofs.rows.heading_before.Goals as goal

pub returns-then-below-count : goal.returns-then-below-count
returns-then-below-count c =
    let running = c.args.running.now in
    let file = c.args.file.now in
    let below = c.args.below in
    let own = c.last_before-own.result in
    let is : below ≡ length file.entries = omega (arith, ap length c.outline-outline.ensures.value) in
    at_end running.days file below own is (rise_of running file below own c.requires.running c.last_before-own.ensures)

pub returns : goal.returns
returns c =
    let running = c.args.running.now in
    let file = c.args.file.now in
    let below = c.args.below in
    let own = c.last_before-own.result in
    at_heading running.days file below c.parent.result own c.later_of.result c.requires.heading (λ is. omega (arith, is, ap length c.outline-outline.ensures.value))
    (c.parent.ensures.value ∙ ap (λ (es : List Entry). parent (levels es) below) c.outline-outline.ensures.value)
    (rise_of running file below own c.requires.running c.last_before-own.ensures) c.later_of.ensures
