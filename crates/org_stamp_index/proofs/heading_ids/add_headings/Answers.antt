use Rattle.std.proofs.Common.{get_or, refl}
use Rattle.org_stamp_index.proofs.PlaceLemmas.{adds_more, adds_whole}
use Rattle.org_stamp_index.proofs.heading_ids.add_headings.Goals as goal

pub loop-id-preserved : goal.loop-id-preserved
loop-id-preserved c =
    let ids = c.args.ids.now in
    let n = c.loop-id.id-index in
    let keeps = c.in_ok-add_heading.ensures.keeps in
    record {
      keeps = λ i was. keeps i (c.loop-id.invariant.keeps i was);
      adds = adds_more c.args.heading_of.now ids n (get_or ids n 0) c.loop-id.places.items c.add_heading.new.places.items c.loop-id-test.true refl c.loop-id.invariant.adds keeps c.in_ok-add_heading.ensures.adds;
    }

pub returns-clause-adds : goal.returns-clause-adds
returns-clause-adds c = adds_whole c.args.heading_of.now c.args.ids.now c.loop-id.id-index c.loop-id.places.items c.loop-id-test.false c.loop-id.invariant.adds
