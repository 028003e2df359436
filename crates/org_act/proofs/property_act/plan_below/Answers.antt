-- The drawer that stands there is changed, or made; where its line would be read as something else, that is refused.
use Rattle.std.proofs.Common.{◌∙◌, sym, ap}
use Rattle.std.specs.Prelude.{Some, None}
use Rattle.std.specs.Option.{option_map}
use Rattle.org_act.proofs.ActLemmas.{makes_same}
use Rattle.org_act.proofs.PropertyActLemmas.{below_by}
use Rattle.org_act.specs.PropertyActs.{given_below, with_drawer}
use Rattle.org_amend.specs.DrawerPuts.{put_of}
use Rattle.org_act.proofs.property_act.plan_below.Goals as goal

pub returns-in-Some : goal.returns-in-Some
returns-in-Some c =
    let change = c.args.change.now in
    let text = c.args.text.now in
    let end = c.args.end.now in
    let put = put_of c.in-Some.put in
    let same = below_by change text c.args.at end (Some put) (sym c.in_ok-put.ensures.value ∙ ap (option_map put_of) c.in-Some.is) in
    record { value = makes_same c.change_drawer.result text (with_drawer text c.args.at (Some put)) (given_below change text c.args.at end) same c.change_drawer.ensures.value }

pub returns-in-None : goal.returns-in-None
returns-in-None c = record { value = λ _. sym (below_by c.args.change.now c.args.text.now c.args.at c.args.end.now None (sym c.in_ok-put.ensures.value ∙ ap (option_map put_of) c.in-None.is)) }
