use Rattle.std.proofs.Common.{◌≡◌, true}
use Rattle.std.specs.Prelude.{IfSome}
use Rattle.org_wire.specs.Counting.{IsCountedSoFar}
use Rattle.org_wire.specs.Devices.{StaysBounded}
use Rattle.org_wire.specs.Input.{left, ahead}
use Rattle.org_wire.specs.Turns.{IsSoFar}
use Rattle.org_wire.proofs.stream.run_over.Given as goal

abbrev pub invariant-turns : goal.invariant-turns
invariant-turns g l = record {
  same : l.input.reader.ghost_name ≡ l.fn.input.reader.ghost_name;
  spoken : l.input.second ≡ l.fn.input.second;
  bounded : StaysBounded l.fn.input.reader.now.calls l.input.reader.now.calls;
  reads : l.input.reader.now.failed ≡ 0;
  writes : l.writer.failed ≡ 0;
  flushed : l.fn.writer.is_flushed ≡ true → l.writer.is_flushed ≡ true;
  so_far : IfSome (left g.R.Read.remaining l.fn.input) (λ bytes. IsSoFar l.fn.input.second bytes l.fn.engine.state l.engine.state (g.W.Write.contents l.fn.writer.inner) (g.W.Write.contents l.writer.inner) (left g.R.Read.remaining l.input));
  counted : IfSome (left g.R.Read.remaining l.fn.input) (λ bytes. IsCountedSoFar l.fn.idle l.fn.input.second bytes l.fn.engine l.engine (left g.R.Read.remaining l.input));
}

abbrev pub decreases-turns : goal.decreases-turns
decreases-turns g l = ahead l.input
