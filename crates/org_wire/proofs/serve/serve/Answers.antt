use Rattle.std.proofs.lemmas.Result.{on_ok_weaker}
use Rattle.org_engine.specs.Marks.{PinsMarks}
use Rattle.std.specs.Option.{option_copied}
use Rattle.std.proofs.Common.{◌≡◌, ap, refl, subst}
use Rattle.org_engine.specs.Questions.{AsksMatch, AsksOf, AsksTable, asked_agenda}
use Rattle.org_engine.specs.Step as step
use Rattle.org_wire.proofs.ServeLemmas.{classifies_added, counts_none, only_memory, profile_never, serves, serves_surely, shows, tells, tells_always, tells_lines, tells_surely, tells_text, unpin_never}
use Rattle.org_wire.proofs.serve.serve.Goals as goal

pub returns-in-Add : goal.returns-in-Add
returns-in-Add g c = record {
  value = rw (c.in-Add.is, c.serial_reply.ensures.value) (tells _ _ _ _ _ (λ r. refl) (ap (λ name. step.AddFile name c.in-Add.text) c.as_str.ensures.value) _ c.add_bytes.ensures.ok c.add_bytes.ensures.err tt);
  counts = rw c.in-Add.is (classifies_added c.in-Add.text _ _ c.add_bytes.result c.add_bytes.ensures.marks c.add_bytes.ensures.partial);
}

pub returns-in-Drop : goal.returns-in-Drop
returns-in-Drop g c = record {
  value = rw (c.in-Drop.is, c.serial_reply-in-Drop.ensures.value) (tells_surely _ _ _ _ _ (λ r. refl) (ap step.DropFile c.as_str-in-Drop.ensures.value) _ c.drop_file.ensures.ok c.drop_file.ensures.err tt);
  counts = rw c.in-Drop.is (counts_none _ c.args.engine.now c.drop_file.new.self c.drop_file.result c.drop_file.ensures.marks c.drop_file.ensures.uncounted);
}

pub returns-in-Edit : goal.returns-in-Edit
returns-in-Edit g c = record {
  value = rw c.in-Edit.is (rw c.as_slice.ensures.value at (c.edit.ensures.value c.args.second));
  counts = rw c.in-Edit.is (rw c.as_slice.ensures.value at c.edit.ensures.counts);
}

pub returns-in-Complete : goal.returns-in-Complete
returns-in-Complete g c = record {
  value = rw c.in-Complete.is (rw c.as_str-in-Complete.ensures.value at c.complete.ensures.value);
  counts = rw c.in-Complete.is (rw c.as_str-in-Complete.ensures.value at c.complete.ensures.counts);
}

pub returns-in-Inherit : goal.returns-in-Inherit
returns-in-Inherit g c = record {
  value = rw c.in-Inherit.is (serves _ _ _ _ _ (step.Serial c.set_inherit.result) _ refl refl (λ e. cc) c.set_inherit.ensures.value);
  counts = rw c.in-Inherit.is c.set_inherit.ensures.uncounted.1;
}

pub returns-in-At : goal.returns-in-At
returns-in-At g c = record {
  value = rw c.in-At.is (serves_surely c.args.second c.in-At.moment _ _ _ c.set_moment.ensures.value);
  counts = rw c.in-At.is c.set_moment.ensures.counts;
}

pub returns-in-Profile : goal.returns-in-Profile
returns-in-Profile g c = record {
  value = rw (c.in-Profile.is, c.serial_reply-in-Profile.ensures.value) (tells_always _ _ _ _ _ (λ r. refl) refl _ c.set_profile.ensures.ok c.set_profile.ensures.err (profile_never c.in-Profile.profile _));
  counts = rw c.in-Profile.is c.set_profile.ensures.uncounted.1;
}

pub returns-in-Pin : goal.returns-in-Pin
returns-in-Pin g c = record {
  value = rw (c.in-Pin.is, c.serial_reply-in-Pin.ensures.value) (tells _ _ _ _ _ (λ r. refl) refl _ c.pin.ensures.ok c.pin.ensures.err tt);
  counts = rw c.in-Pin.is (counts_none _ c.args.engine.now c.pin.new.self c.pin.result
      (on_ok_weaker c.pin.result (λ (m : PinsMarks c.in-Pin.session c.args.engine.now c.pin.new.self). (m.marks, m.counts)) c.pin.ensures.marks) c.pin.ensures.uncounted);
}

pub returns-in-Unpin : goal.returns-in-Unpin
returns-in-Unpin g c = record {
  value = rw (c.in-Unpin.is, c.serial_reply-in-Unpin.ensures.value) (tells_always _ _ _ _ _ (λ r. refl) refl _ c.unpin.ensures.ok c.unpin.ensures.err (unpin_never c.in-Unpin.session _));
  counts = rw c.in-Unpin.is (counts_none _ c.args.engine.now c.unpin.new.self c.unpin.result c.unpin.ensures.marks c.unpin.ensures.uncounted);
}

pub returns-in-Text : goal.returns-in-Text
returns-in-Text g c = record {
  value = rw (c.in-Text.is, c.told_text.ensures.value) (tells_text _ _ _ _ _ (λ r. refl) (ap step.TextOf c.as_str-in-Text.ensures.value) _ c.text_of.ensures.ok c.text_of.ensures.err tt);
  counts = rw c.in-Text.is refl;
}

pub returns-in-Keywords : goal.returns-in-Keywords
returns-in-Keywords g c = record {
  value = rw (c.in-Keywords.is, c.told_lines.ensures.value) (tells_lines _ _ _ _ _ (λ r. refl) (ap step.KeywordsOf c.as_str-in-Keywords.ensures.value) _ c.keywords_of.ensures.ok c.keywords_of.ensures.err tt);
  counts = rw c.in-Keywords.is refl;
}

pub returns-in-Version : goal.returns-in-Version
returns-in-Version g c = record {
  value = rw (c.in-Version.is, c.told_lines-in-Version.ensures.value) (tells_lines _ _ _ _ _ (λ r. refl) refl _ c.version.ensures.ok (only_memory step.Version _ c.version.result c.version.ensures.memory) tt);
  counts = rw c.in-Version.is refl;
}

pub returns-in-Todo : goal.returns-in-Todo
returns-in-Todo g c =
    let s = c.args.engine.now.state in
    record {
      value = rw c.in-Todo.is (shows _ _ _ _ _ _ c.ask.result (λ r. refl)
          (λ question asks. (question, subst (λ f. AsksOf (λ today q. q ≡ step.TodoList f c.in-Todo.words) (step.world_asked c.in-Todo.request.session s.world s.pins) question) c.name_in.ensures.value asks, refl)) c.ask.ensures.value tt);
      counts = rw c.in-Todo.is c.ask.ensures.counts;
    }

pub returns-in-Match : goal.returns-in-Match
returns-in-Match g c =
    let s = c.args.engine.now.state in
    let asked = step.world_asked c.in-Match.request.session s.world s.pins in
    record {
      value = rw c.in-Match.is (shows _ _ _ _ _ _ c.ask-in-Match.result (λ r. refl)
          (λ question asks. (
            question,
            subst (λ f. AsksOf (λ today q. AsksMatch f c.in-Match.text q) asked question) c.name_in-in-Match.ensures.value
                (subst (λ t. AsksOf (λ today q. AsksMatch (option_copied c.name_in-in-Match.result) t q) asked question) c.as_str-in-Match.ensures.value asks),
            refl,
          )) c.ask-in-Match.ensures.value tt);
      counts = rw c.in-Match.is c.ask-in-Match.ensures.counts;
    }

pub returns-in-Agenda : goal.returns-in-Agenda
returns-in-Agenda g c =
    let s = c.args.engine.now.state in
    record {
      value = rw c.in-Agenda.is (shows _ _ _ _ _ _ c.ask-in-Agenda.result (λ r. refl)
          (λ question asks. (question, subst (λ t. AsksOf (λ today q. q ≡ asked_agenda t c.in-Agenda.days) (step.world_asked c.in-Agenda.request.session s.world s.pins) question) c.as_str-in-Agenda.ensures.value asks, refl)) c.ask-in-Agenda.ensures.value tt);
      counts = rw c.in-Agenda.is c.ask-in-Agenda.ensures.counts;
    }

pub returns-in-Clock : goal.returns-in-Clock
returns-in-Clock g c =
    let s = c.args.engine.now.state in
    record {
      value = rw c.in-Clock.is (shows _ _ _ _ _ _ c.ask-in-Clock.result (λ r. refl)
          (λ question asks. (question, subst (λ t. AsksOf (λ today q. AsksTable t today q) (step.world_asked c.in-Clock.request.session s.world s.pins) question) c.as_str-in-Clock.ensures.value asks, refl)) c.ask-in-Clock.ensures.value tt);
      counts = rw c.in-Clock.is c.ask-in-Clock.ensures.counts;
    }
