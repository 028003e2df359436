use Rattle.std.proofs.Common.{◌≡◌, ◌∙◌, ap, arith, subst, sym, true, true≢false}
use Rattle.std.specs.Prelude.{Ok, Err, OnOk, Some, is_some}
use Rattle.indexmap.specs.Layout.{length-set_value_at}
use Rattle.org_base.specs.Results.{IfRefused}
use Rattle.org_store.specs.Change.{edited, edited_text}
use Rattle.org_engine.specs.Files.{files_of, marks_of}
use Rattle.org_engine.specs.Step.{file_named}
use Rattle.org_engine.proofs.FilesLemmas.{files_of-set, is_some-file_named, kept_at, kept_text, made_new, marks_of-set, placed}
use Rattle.org_engine.proofs.MarkLemmas.{accepts_edit, refuses_edit, set-same, there_is_one, where_err, where_ok}
use Rattle.org_engine.proofs.world.World.edit.Goals as goal

pub unreachable-requires : goal.unreachable-requires
unreachable-requires g c =
    let entries = c.self.inside.files.entries in
    let there : is_some (file_named c.args.name.now (files_of entries)) ≡ true = rw (← c.self.view_is) at c.requires.there in
    true≢false (sym there ∙ is_some-file_named c.args.name.now entries ∙ sym c.in_default.ensures.found)

pub invariant_of-self : goal.invariant_of-self
invariant_of-self g c = omega (arith, length-set_value_at c.self.inside.files.entries c.in-Some.place c.edit.new.self, c.self.invariant)

pub returns-clause-ok : goal.returns-clause-ok
returns-clause-ok g c =
    let entries = c.self.inside.files.entries in
    let name = c.args.name.now in
    let place = c.in-Some.place in
    let new = c.edit.new.self in
    let key = placed _ _ _ (sym c.in-Some.ensures.index) in
    let kept = kept_at name entries place _ key c.in-Some.ensures.within c.index_mut-file.ensures.value in
    where_ok c.edit.result (λ changed. rw (← c.self.view_is) (record {
      before = _;
      after = new;
      found = kept;
      changed = changed;
      is = λ i. record {
        world = record {
          files = files_of-set name entries place new key c.in-Some.ensures.within i;
          moment = c.self.inside.moment;
          inherited = c.self.inside.inherited;
          profile = c.self.inside.profile;
        };
        marks = marks_of-set name entries place new key c.in-Some.ensures.within i;
      };
    })) c.edit.ensures.ok

pub returns-clause-text : goal.returns-clause-text
returns-clause-text g c =
    let entries = c.self.inside.files.entries in
    let name = c.args.name.now in
    let key = placed _ _ _ (sym c.in-Some.ensures.index) in
    let kept = kept_at name entries c.in-Some.place _ key c.in-Some.ensures.within c.index_mut-file.ensures.value in
    rw (← c.self.view_is) (accepts_edit name c.args.change (record { files = files_of entries; moment = c.self.inside.moment; inherited = c.self.inside.inherited; profile = c.self.inside.profile }) (marks_of entries) _ c.edit.new.self c.args.serial c.edit.result kept c.edit.ensures.ok c.edit.ensures.text)

pub returns-clause-refused : goal.returns-clause-refused
returns-clause-refused g c =
    let entries = c.self.inside.files.entries in
    let name = c.args.name.now in
    let key = placed _ _ _ (sym c.in-Some.ensures.index) in
    let kept = kept_at name entries c.in-Some.place _ key c.in-Some.ensures.within c.index_mut-file.ensures.value in
    rw (← c.self.view_is) (refuses_edit name c.args.change (record { files = files_of entries; moment = c.self.inside.moment; inherited = c.self.inside.inherited; profile = c.self.inside.profile }) (marks_of entries) _ c.edit.result kept c.edit.ensures.refused)

pub returns-clause-err : goal.returns-clause-err
returns-clause-err g c =
    let entries = c.self.inside.files.entries in
    let new = c.edit.new.self in
    where_err c.edit.result (λ is.
    let same = set-same entries c.in-Some.place new (c.index_mut-file.ensures.value ∙ ap Some (sym is)) in
    rw (← c.self.view_is) (λ i. record {
      world = record { files = files_of (same i); moment = c.self.inside.moment; inherited = c.self.inside.inherited; profile = c.self.inside.profile };
      marks = marks_of (same i);
    })) c.edit.ensures.err

pub returns-clause-counts : goal.returns-clause-counts
returns-clause-counts g c =
    let entries = c.self.inside.files.entries in
    let name = c.args.name.now in
    let key = placed _ _ _ (sym c.in-Some.ensures.index) in
    let kept = kept_at name entries c.in-Some.place _ key c.in-Some.ensures.within c.index_mut-file.ensures.value in
    let found = there_is_one (file_named name (files_of entries)) (rw (← c.self.view_is) at c.requires.there) in
    let own = made_new name c.args.change (files_of entries) (marks_of entries) _ found.0 kept found.1 in
    where_ok c.edit.result (λ counts. rw (← c.self.view_is, own) counts) c.edit.ensures.counts

pub returns-clause-partial : goal.returns-clause-partial
returns-clause-partial g c =
    let entries = c.self.inside.files.entries in
    let name = c.args.name.now in
    let key = placed _ _ _ (sym c.in-Some.ensures.index) in
    let kept = kept_at name entries c.in-Some.place _ key c.in-Some.ensures.within c.index_mut-file.ensures.value in
    let found = there_is_one (file_named name (files_of entries)) (rw (← c.self.view_is) at c.requires.there) in
    let own = made_new name c.args.change (files_of entries) (marks_of entries) _ found.0 kept found.1 in
    where_err c.edit.result (λ few. rw (← c.self.view_is, own) few) c.edit.ensures.partial
