-- The first pending section is read.
use Rattle.std.proofs.Common.{◌≡◌, Some, ap, sym, subst, arith}
use Rattle.std.specs.List.{count_by}
use Rattle.org_store.specs.File.{AllSay, AreOf, with_read}
use Rattle.org_store.specs.Sections.{is_pending}
use Rattle.org_store.proofs.ReadLemmas.{are_one, say_one}
use Rattle.org_store.proofs.SingleLemmas.{HaveRead, all_are_read, all_counted, left, one_more, some_more}
use Rattle.org_sequence.specs.Parts.{IsFirstPassing}
use Rattle.org_sequence.proofs.Finds.{first_is_none}
use Rattle.org_store.proofs.read.read_singly.Goals as goal

pub returns-in_default-clause-value : goal.returns-in_default-clause-value
returns-in_default-clause-value g c =
    let read = c.loop-place.read in
    let none = first_is_none is_pending read 0 c.first_pending.result (subst (λ ks. IsFirstPassing is_pending ks 0 c.first_pending.result) c.list.ensures.value c.first_pending.ensures.value) c.in_default.not-Some in
    all_are_read (g.T.Text.content c.args.context.now.text.now) c.args.context.now.settings.now read c.loop-place.invariant.kept c.loop-place.invariant.says none

pub returns-in_default-clause-counts : goal.returns-in_default-clause-counts
returns-in_default-clause-counts g c =
    let read = c.loop-place.read in
    let none = first_is_none is_pending read 0 c.first_pending.result (subst (λ ks. IsFirstPassing is_pending ks 0 c.first_pending.result) c.list.ensures.value c.first_pending.ensures.value) c.in_default.not-Some in
    all_counted c.args.sections read c.args.meter.now c.loop-place.meter none c.loop-place.invariant.counts

pub returns-in_err-read_in-clause-partial : goal.returns-in_err-read_in-clause-partial
returns-in_err-read_in-clause-partial g c =
    let t = g.T.Text.content c.args.context.now.text.now in
    some_more t c.args.context.now.settings.now c.args.sections c.loop-place.read c.args.meter.now c.loop-place.meter c.in-Some.place c.loop-place.invariant.few c.loop-place.invariant.counts (subst (λ ks. IsFirstPassing is_pending ks 0 (Some c.in-Some.place)) c.list.ensures.value c.in-Some.ensures.value) c.from_residual.result c.read_in.new.meter c.read_in.ensures.counts

pub loop-place-preserved : goal.loop-place-preserved
loop-place-preserved g c =
    let t = g.T.Text.content c.args.context.now.text.now in
    let settings = c.args.context.now.settings.now in
    let list = c.args.sections in
    let read = c.loop-place.read in
    let place = c.in-Some.place in
    let first = subst (λ ks. IsFirstPassing is_pending ks 0 (Some c.in-Some.place)) c.list.ensures.value c.in-Some.ensures.value in
    let is : c.read_in.new.sections ≡ with_read settings t place read = c.in_ok-read_in.ensures.ok in
    let fewer = left t settings list read c.args.meter.now c.loop-place.meter place c.loop-place.invariant.few c.loop-place.invariant.counts first in
    let counts = one_more t settings list read c.args.meter.now c.loop-place.meter place c.loop-place.invariant.few c.loop-place.invariant.counts first c.read_in.new.meter c.read_in.ensures.counts in
    record {
      kept = subst (AreOf t) (sym is) (are_one t read place settings c.loop-place.invariant.kept first.1);
      says = subst (AllSay settings t) (sym is) (say_one t read place settings c.loop-place.invariant.kept c.loop-place.invariant.says first.1);
      few = omega (arith, ap (count_by is_pending) is, fewer, c.loop-place.invariant.few);
      counts = subst (λ xs. HaveRead list xs c.args.meter.now c.read_in.new.meter) (sym is) counts;
    }

pub loop-place-smaller : goal.loop-place-smaller
loop-place-smaller g c =
    let t = g.T.Text.content c.args.context.now.text.now in
    let settings = c.args.context.now.settings.now in
    let read = c.loop-place.read in
    let place = c.in-Some.place in
    let is : c.read_in.new.sections ≡ with_read settings t place read = c.in_ok-read_in.ensures.ok in
    let fewer = left t settings c.args.sections read c.args.meter.now c.loop-place.meter place c.loop-place.invariant.few c.loop-place.invariant.counts (subst (λ ks. IsFirstPassing is_pending ks 0 (Some c.in-Some.place)) c.list.ensures.value c.in-Some.ensures.value) in
    omega (arith, ap (count_by is_pending) is, fewer)
