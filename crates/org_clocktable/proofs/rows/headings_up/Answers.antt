use Rattle.org_clocktable.proofs.WalkLemmas.{row_before, rows_end}
use Rattle.org_clocktable.proofs.rows.headings_up.Goals as goal

pub loop-place-preserved : goal.loop-place-preserved
loop-place-preserved c =
    let inv = c.loop-place.invariant in
    let last = c.in-Some.ensures in
    record {
      rows = row_before c.args.running.now.days c.args.most c.args.file.now.place c.args.file.now.counted.now c.in-Some.place c.loop-place.below c.loop-place.rows.items _ inv.stop.within last c.in_ok-push_heading.ensures inv.rows;
      stop = last.1;
    }

pub returns : goal.returns
returns c =
    let inv = c.loop-place.invariant in
    rows_end c.args.running.now.days c.args.most c.args.file.now.place c.args.file.now.counted.now c.loop-place.below c.loop-place.rows.items inv.stop.within c.in_default.ensures inv.rows
