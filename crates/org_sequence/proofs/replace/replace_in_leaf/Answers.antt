use Rattle.std.proofs.Common.{◌-◌, length, drop, arith, ap, ◌∙◌, length-drop}
use Rattle.std.specs.List.{sum_by}
use Rattle.std.proofs.lemmas.List.{take_all}
use Rattle.org_sequence.specs.Parts.{items_of}
use Rattle.org_sequence.proofs.Splices.{parts_size}
use Rattle.org_sequence.proofs.Joins.{joined_size}
use Rattle.org_sequence.proofs.replace.replace_in_leaf.Goals as goal

pub leaf_of-requires-2-clause-size_fits : goal.leaf_of-requires-2-clause-size_fits
leaf_of-requires-2-clause-size_fits g c =
    let f = g.T.Measured.size in
    let xs = c.args.items.now in
    let whole = take_all (length xs - c.args.to) (drop c.args.to xs) (omega (arith, length-drop c.args.to xs)) in
    omega (arith, ap (sum_by f) whole, parts_size f xs c.args.from c.args.to c.requires.order)

pub join_of-requires : goal.join_of-requires
join_of-requires g c =
    let f = g.T.Measured.size in
    let xs = c.args.items.now in
    let whole = take_all (length xs - c.args.to) (drop c.args.to xs) (omega (arith, length-drop c.args.to xs)) in
    omega (arith, ap (sum_by f) (c.in_ok-back.ensures ∙ whole), parts_size f xs c.args.from c.args.to c.requires.order)

pub join_of-requires-2 : goal.join_of-requires-2
join_of-requires-2 g c =
    let f = g.T.Measured.size in
    let xs = c.args.items.now in
    let whole = take_all (length xs - c.args.to) (drop c.args.to xs) (omega (arith, length-drop c.args.to xs)) in
    omega (arith, ap (sum_by f) (c.in_ok-back.ensures ∙ whole), ap (sum_by f) c.in_ok-front.ensures, ap (sum_by f) c.in_ok-rest.ensures, joined_size f (items_of c.args.middle.now) (items_of c.in_ok-back.back), parts_size f xs c.args.from c.args.to c.requires.order)
