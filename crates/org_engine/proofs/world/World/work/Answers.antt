use Rattle.std.proofs.Common.{◌≡◌, ◌∙◌, ap, arith, subst, sym, true}
use Rattle.std.specs.Prelude.{Some, nat_lt}
use Rattle.std.proofs.lemmas.Bool.{lt-ltb}
use Rattle.indexmap.specs.Layout.{length-set_value_at}
use Rattle.org_base.specs.Results.{Gives}
use Rattle.org_store.specs.File.{FileView as KeptFile, unread}
use Rattle.org_engine.specs.Files.{files_of, marks_of}
use Rattle.org_engine.specs.Marks.{IsFirstPending, pending_at, pending_in}
use Rattle.org_engine.proofs.FilesLemmas.{length-marks_of}
use Rattle.org_engine.proofs.MarkLemmas.{files_of-same, marks_there, next_is, pending_least, set-same, where_err, work_err, work_none, work_some}
use Rattle.org_engine.proofs.world.World.work.Goals as goal

pub index_mut-file-requires : goal.index_mut-file-requires
index_mut-file-requires g c =
    let entries = c.self.inside.files.entries in
    let first : IsFirstPending (marks_of entries) c.in-Some.place = rw (← c.self.view_is) at c.in-Some.ensures.some in
    let within = first.within in
    omega (arith, within, length-marks_of entries)

pub invariant_of-self : goal.invariant_of-self
invariant_of-self g c = omega (arith, length-set_value_at c.self.inside.files.entries c.in-Some.place c.work.new.self, c.self.invariant)

pub returns-clause-value : goal.returns-clause-value
returns-clause-value g c =
    let entries = c.self.inside.files.entries in
    let place = c.in-Some.place in
    let first : IsFirstPending (marks_of entries) place = rw (← c.self.view_is) at c.in-Some.ensures.some in
    let own = ap unread (marks_there entries place _ c.index_mut-file.ensures.value) in
    let least = pending_least (marks_of entries) place first.within in
    let more = first.own in
    let here : nat_lt 0 (pending_at place (marks_of entries)) ≡ true = lt-ltb 0 _ more in
    let all : nat_lt 0 (pending_in (marks_of entries)) ≡ true = lt-ltb 0 _ (omega (arith, more, least)) in
    rw (← c.self.view_is) (subst (λ b. Gives c.work.result b) (ap (nat_lt 0) own ∙ here ∙ sym all) c.work.ensures.value)

pub returns-clause-some : goal.returns-clause-some
returns-clause-some g c =
    let entries = c.self.inside.files.entries in
    let place = c.in-Some.place in
    let new = c.work.new.self in
    let first : IsFirstPending (marks_of entries) place = rw (← c.self.view_is) at c.in-Some.ensures.some in
    let at = c.index_mut-file.ensures.value in
    rw (← c.self.view_is) (work_some c.work.result c.index_mut-file.result.now new c.args.meter.now c.work.new.meter c.work.ensures.some c.work.ensures.counts (λ is i. record {
      world = record {
        files = files_of-same entries place _ new at (ap (λ (v : KeptFile). v.text) is) (ap (λ (v : KeptFile). v.serial) is) i;
        moment = c.self.inside.moment;
        inherited = c.self.inside.inherited;
        profile = c.self.inside.profile;
      };
      marks = next_is entries place _ new at (ap (λ (v : KeptFile). v.marks) is) first i;
    }))

pub returns-clause-none : goal.returns-clause-none
returns-clause-none g c =
    let entries = c.self.inside.files.entries in
    let place = c.in-Some.place in
    let first : IsFirstPending (marks_of entries) place = rw (← c.self.view_is) at c.in-Some.ensures.some in
    let own = ap unread (marks_there entries place _ c.index_mut-file.ensures.value) in
    let more = first.own in
    let here : nat_lt 0 (pending_at place (marks_of entries)) ≡ true = lt-ltb 0 _ more in
    work_none _ c.work.result (subst (λ b. Gives c.work.result b) (ap (nat_lt 0) own ∙ here) c.work.ensures.value)

pub returns-clause-err : goal.returns-clause-err
returns-clause-err g c =
    let entries = c.self.inside.files.entries in
    let new = c.work.new.self in
    work_err _ c.work.result c.args.meter.now c.work.new.meter (where_err c.work.result (λ is.
    let same = set-same entries c.in-Some.place new (c.index_mut-file.ensures.value ∙ ap Some (sym is)) in
    rw (← c.self.view_is) (λ i. record {
      world = record { files = files_of (same i); moment = c.self.inside.moment; inherited = c.self.inside.inherited; profile = c.self.inside.profile };
      marks = marks_of (same i);
    })) c.work.ensures.err) c.work.ensures.partial
