use Rattle.std.proofs.Common.{◌≡◌, ◌∙◌, ap, refl}
use Rattle.org_engine.specs.World.{EngineView}
use Rattle.org_base.specs.declared.fault.Fault.TheVariants.{Plain}
use Rattle.org_base.specs.declared.code.Code.TheVariants.{Device}
use Rattle.org_wire.specs.Turns.{Answered}
use Rattle.org_wire.specs.declared.command.Next.TheVariants.{Last}
use Rattle.org_wire.proofs.CountedLemmas.{Did, count_cut, count_end, count_turn}
use Rattle.org_wire.proofs.RunLemmas.{step_turn, step_front, step_last, step_device}
use Rattle.org_wire.proofs.stream.run_over.Goals as goal
use Rattle.org_wire.proofs.stream.run_over.Goals.{in-Refused, in-Given}

pub returns-in-Last-clause-value : goal.returns-in-Last-clause-value
returns-in-Last-clause-value g c =
    step_last _ _ _ _ _ _ _ _ _ _ _ c.turns.invariant.so_far (rw c.turns.invariant.spoken at c.in-Last.ensures.value) (c.if-is_device.ensures.no refl) (λ ne. let d = c.stop.ensures.done ne in (d.0, d.1)) (λ e. (c.stop.ensures.device e).0)

pub returns-then-not-send-clause-value : goal.returns-then-not-send-clause-value
returns-then-not-send-clause-value g c =
    let answered : Answered c.args.input.now.second c.read_command.result c.turns.engine.state c.match-read_command.reply c.match-read_command.engine.state = elim c.match-read_command.branch [
      | in-Refused w ↦ rw w.in-Refused.is (w.reply-is, ap (λ (e : EngineView). e.state) w.engine-is)
      | in-Given w ↦ rw (w.in-Given.is, w.reply-is, w.engine-is) (rw c.is_second-second.ensures.value at w.serve-reply.ensures.value)
    ] in
    step_front _ _ _ _ _ _ _ _ _ _ _ _ c.turns.invariant.so_far (rw c.turns.invariant.spoken at c.read_command.ensures.value) answered c.if-not-send.ensures.value

pub turns-preserved : goal.turns-preserved
turns-preserved g c =
    let ne : c.read_command.result ≡ Last (Plain Device) → ⊥ = λ e. elim c.match-read_command.branch [ in-Refused w ↦ cc | in-Given w ↦ cc ] in
    let answered : Answered c.args.input.now.second c.read_command.result c.turns.engine.state c.match-read_command.reply c.match-read_command.engine.state = elim c.match-read_command.branch [
      | in-Refused w ↦ rw w.in-Refused.is (w.reply-is, ap (λ (e : EngineView). e.state) w.engine-is)
      | in-Given w ↦ rw (w.in-Given.is, w.reply-is, w.engine-is) (rw c.is_second-second.ensures.value at w.serve-reply.ensures.value)
    ] in
    let did : Did c.read_command.result c.turns.engine c.match-read_command.engine = elim c.match-read_command.branch [
      | in-Refused w ↦ rw w.in-Refused.is w.engine-is
      | in-Given w ↦ rw (w.in-Given.is, w.engine-is) w.serve-reply.ensures.counts
    ] in
    record {
      same = c.read_command.ensures.same_reference ∙ c.turns.invariant.same;
      spoken = c.read_command.ensures.same_protocol ∙ c.turns.invariant.spoken;
      bounded = λ h. c.read_command.ensures.bounded (c.turns.invariant.bounded h);
      reads = c.read_command.ensures.counted.fine ne ∙ c.turns.invariant.reads;
      writes = c.if-not-send.ensures.counted ∙ c.turns.invariant.writes;
      flushed = λ h. c.if-not-send.ensures.flushed refl;
      so_far = rw c.work.ensures.state (step_turn _ _ _ _ _ _ _ _ _ _ _ _ c.turns.invariant.so_far (rw c.turns.invariant.spoken at c.read_command.ensures.value) answered c.if-not-send.ensures.value);
      counted = count_turn _ _ _ _ _ _ _ _ _ _ _ c.turns.invariant.counted (rw c.turns.invariant.spoken at c.read_command.ensures.value) answered did c.work.ensures.state c.work.ensures.counts;
    }

pub returns-then-not-send-clause-counts : goal.returns-then-not-send-clause-counts
returns-then-not-send-clause-counts g c =
    let answered : Answered c.args.input.now.second c.read_command.result c.turns.engine.state c.match-read_command.reply c.match-read_command.engine.state = elim c.match-read_command.branch [
      | in-Refused w ↦ rw w.in-Refused.is (w.reply-is, ap (λ (e : EngineView). e.state) w.engine-is)
      | in-Given w ↦ rw (w.in-Given.is, w.reply-is, w.engine-is) (rw c.is_second-second.ensures.value at w.serve-reply.ensures.value)
    ] in
    let did : Did c.read_command.result c.turns.engine c.match-read_command.engine = elim c.match-read_command.branch [
      | in-Refused w ↦ rw w.in-Refused.is w.engine-is
      | in-Given w ↦ rw (w.in-Given.is, w.engine-is) w.serve-reply.ensures.counts
    ] in
    count_cut _ _ _ _ _ _ _ _ _ _ c.turns.invariant.counted (rw c.turns.invariant.spoken at c.read_command.ensures.value) answered did

pub returns-in-Last-clause-counts : goal.returns-in-Last-clause-counts
returns-in-Last-clause-counts g c = count_end _ _ _ _ _ _ c.turns.invariant.counted

pub returns-in-Ended-clause-counts : goal.returns-in-Ended-clause-counts
returns-in-Ended-clause-counts g c = count_end _ _ _ _ _ _ c.turns.invariant.counted

pub returns-then-is_device-clause-counts : goal.returns-then-is_device-clause-counts
returns-then-is_device-clause-counts g c = count_end _ _ _ _ _ _ c.turns.invariant.counted

pub returns-then-is_device-clause-value : goal.returns-then-is_device-clause-value
returns-then-is_device-clause-value g c = step_device _ _ _ _ _ _ _ c.turns.invariant.so_far
