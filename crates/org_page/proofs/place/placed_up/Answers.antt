use Rattle.org_page.proofs.PlaceLemmas.{all_placed, none_left, none_placed, one_placed}
use Rattle.org_page.proofs.place.placed_up.Goals as goal

pub loop-row-init : goal.loop-row-init
loop-row-init c = none_placed c.args.rows.items c.new.result.items c.new-2.result.items c.new.ensures.items c.new-2.ensures.items

pub loop-row-preserved : goal.loop-row-preserved
loop-row-preserved c =
    one_placed c.args.rows.items c.loop-row.rows.items c.pop.new.self.items c.in-Some.row c.loop-row.placed.boxes.items c.push.new.self.boxes.items c.loop-row.placed.beside.items c.push.new.self.beside.items
    c.in-Some.ensures.items c.loop-row.invariant c.in_ok-push.ensures.ok

pub returns : goal.returns
returns c =
    let none = none_left c.loop-row.rows.items c.pop.new.self.items _ c.in_default.ensures.cases.0 c.in_default.ensures.rest c.in_default.ensures.items in
    record { dealt = all_placed c.args.rows.items c.loop-row.rows.items c.loop-row.placed.boxes.items c.loop-row.placed.beside.items none c.loop-row.invariant }
