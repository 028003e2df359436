use Rattle.std.proofs.Common.{◌+◌, length, refl}
use Rattle.org_act.proofs.ActLemmas.{makes_same, planned_by}
use Rattle.org_act.proofs.LineLemmas.{rest_is}
use Rattle.org_act.specs.Planning.{planned_at, puts_of, with_put}
use Rattle.org_act.proofs.planning.plan_at.Goals as goal

pub returns : goal.returns
returns c =
    let act = c.args.act.now in
    let text = c.args.text.now in
    let at = c.args.at in
    let h = c.first_line-heading.result.now in
    let below = at + length h in
    let line = c.first_line-line.result.now in
    let next = c.first_line-next.result.now in
    let put = puts_of c.in_ok-put.put in
    let same = planned_by act text at below h line next put (rest_is at text h c.first_line-heading.ensures.value) refl (rest_is below text line c.first_line-line.ensures.value)
    (rest_is (below + length line) text next c.first_line-next.ensures.value) c.in_ok-put.ensures.value in
    record { value = makes_same c.change_of.result text (with_put text below put) (planned_at act text at) same c.change_of.ensures.value }
