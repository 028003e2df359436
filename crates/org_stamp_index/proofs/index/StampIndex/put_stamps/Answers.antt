use Rattle.org_stamp_index.proofs.PutLemmas.{put_none, put_taken, put_whole}
use Rattle.org_stamp_index.proofs.index.StampIndex.put_stamps.Goals as goal

pub loop-stamp-init : goal.loop-stamp-init
loop-stamp-init c = put_none c.args.place c.args.self.now c.requires.unused_ids

pub put_stamp-requires : goal.put_stamp-requires
put_stamp-requires c = record { unused_ids = c.loop-stamp.invariant.fresh }

pub loop-stamp-preserved : goal.loop-stamp-preserved
loop-stamp-preserved c =
    put_taken c.args.place c.args.stamps.now c.loop-stamp.stamp-index c.stamp-item.result c.args.self.now c.loop-stamp.self c.put_stamp.new.self c.loop-stamp-test.true c.stamp-item.is c.loop-stamp.invariant c.in_ok-put_stamp.ensures.ok

pub returns-clause-ok : goal.returns-clause-ok
returns-clause-ok c = put_whole c.args.place c.args.stamps.now c.loop-stamp.stamp-index c.args.self.now c.loop-stamp.self c.loop-stamp-test.false c.loop-stamp.invariant
