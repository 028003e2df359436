use Rattle.org_drawer.specs.Node.{drawer_of}
use Rattle.org_drawer.proofs.DrawerLemmas.{one_line_more}
use Rattle.org_drawer.proofs.drawer.read_drawer.Goals as goal

pub loop-place-preserved : goal.loop-place-preserved
loop-place-preserved c =
    let lines = c.args.lines.now in
    one_line_more c.loop-place.drawer c.add_line.new.drawer (drawer_of lines) lines c.loop-place.place c.get.result.now
    c.get.ensures.value c.in_ok-add_line.ensures.ok c.loop-place.invariant
