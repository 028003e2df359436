use Rattle.std.proofs.Common.{◌≡◌, ◌∙◌, [], arith, subst, sym, true, true≢false}
use Rattle.std.specs.Prelude.{IfOk, is_some}
use Rattle.indexmap.specs.Layout.{length-set_value_at}
use Rattle.org_complete.specs.Written.{IsCompletionOf}
use Rattle.org_engine.specs.Files.{files_of, marks_of}
use Rattle.org_engine.specs.Step.{file_named}
use Rattle.org_engine.specs.World.{KeptWorld}
use Rattle.org_engine.proofs.FilesLemmas.{is_some-file_named, kept_at, kept_text, placed}
use Rattle.org_engine.proofs.CompletedLemmas.{reads_one, reads_own}
use Rattle.org_engine.proofs.MarkLemmas.{completion_in, fails_in, there_is_one, where_ok, where_refused}
use Rattle.org_engine.proofs.world.World.complete_heading.Goals as goal

pub unreachable-requires : goal.unreachable-requires
unreachable-requires g c =
    let entries = c.self.inside.files.entries in
    let there : is_some (file_named c.args.name.now (files_of entries)) ≡ true = rw (← c.self.view_is) at c.requires.there in
    true≢false (sym there ∙ is_some-file_named c.args.name.now entries ∙ sym c.in_default.ensures.found)

pub invariant_of-self : goal.invariant_of-self
invariant_of-self g c = omega (arith, length-set_value_at c.self.inside.files.entries c.in-Some.place c.complete.new.file, c.self.invariant)

pub returns-clause-fault : goal.returns-clause-fault
returns-clause-fault g c =
    let entries = c.self.inside.files.entries in
    let name = c.args.name.now in
    let key = placed _ _ _ (sym c.in-Some.ensures.index) in
    let kept = kept_at name entries c.in-Some.place _ key c.in-Some.ensures.within c.index_mut-file.ensures.value in
    rw (← c.self.view_is) (fails_in name c.args.line c.args.keyword.now (record { files = files_of entries; moment = c.self.inside.moment; inherited = c.self.inside.inherited; profile = c.self.inside.profile }) (marks_of entries) _ c.complete.result kept c.complete.ensures.fault)

pub returns-clause-value : goal.returns-clause-value
returns-clause-value g c =
    let entries = c.self.inside.files.entries in
    let name = c.args.name.now in
    let world : KeptWorld = record { world = record { files = files_of entries; moment = c.self.inside.moment; inherited = c.self.inside.inherited; profile = c.self.inside.profile }; marks = marks_of entries } in
    let key = placed _ _ _ (sym c.in-Some.ensures.index) in
    let kept = kept_at name entries c.in-Some.place _ key c.in-Some.ensures.within c.index_mut-file.ensures.value in
    let found = there_is_one (file_named name (files_of entries)) (rw (← c.self.view_is) at c.requires.there) in
    let text = kept_text name (files_of entries) (marks_of entries) _ found.0 kept found.1 in
    rw (← c.self.view_is) (completion_in name c.args.line c.args.keyword.now world found.0 c.complete.result found.1
    (subst (λ t. IfOk c.complete.result (IsCompletionOf t c.args.line c.args.keyword.now c.self.inside.moment)) text c.complete.ensures.value))

pub returns-clause-read : goal.returns-clause-read
returns-clause-read g c = rw (← c.self.view_is) (reads_one c.args.name.now (record { files = []; moment = c.self.inside.moment; inherited = c.self.inside.inherited; profile = c.self.inside.profile }) c.self.inside.files.entries c.in-Some.place _ c.complete.new.file c.args.meter.now c.complete.new.meter
    (placed _ _ _ (sym c.in-Some.ensures.index)) c.in-Some.ensures.within c.index_mut-file.ensures.value c.complete.ensures.read)

pub returns-clause-exact : goal.returns-clause-exact
returns-clause-exact g c = rw (← c.self.view_is) (where_ok c.complete.result (reads_own c.args.name.now c.args.line (record { files = []; moment = c.self.inside.moment; inherited = c.self.inside.inherited; profile = c.self.inside.profile }) c.self.inside.files.entries c.in-Some.place _ c.complete.new.file c.args.meter.now c.complete.new.meter
    (placed _ _ _ (sym c.in-Some.ensures.index)) c.in-Some.ensures.within c.index_mut-file.ensures.value c.complete.ensures.read) c.complete.ensures.exact)

pub returns-clause-refused : goal.returns-clause-refused
returns-clause-refused g c = rw (← c.self.view_is) (where_refused c.complete.result (reads_own c.args.name.now c.args.line (record { files = []; moment = c.self.inside.moment; inherited = c.self.inside.inherited; profile = c.self.inside.profile }) c.self.inside.files.entries c.in-Some.place _ c.complete.new.file c.args.meter.now c.complete.new.meter
    (placed _ _ _ (sym c.in-Some.ensures.index)) c.in-Some.ensures.within c.index_mut-file.ensures.value c.complete.ensures.read) c.complete.ensures.refused)
