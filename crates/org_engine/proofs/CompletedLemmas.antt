-- Which sections were read when a heading was completed.
use Rattle.std.proofs.Common.{◌≡◌, ◌≢◌, ◌∙◌, ◌<◌, ℕ, Bool, true, false, cond, List, [], ◌∷◌, ap, arith, length, refl, subst, sym}
use Rattle.std.specs.Prelude.{Err, IfErr, IfSome, None, Ok, OnErr, OnOk, Option, Result, Some, String, bytes_eq, slice_get, string_bytes}
use Rattle.std.specs.List.{position_or_len}
use Rattle.std.specs.Result.{IsErrAnd}
use Rattle.std.specs.Map.{keys_of, values_of}
use Rattle.indexmap.specs.IndexMap.{set_value_at}
use Rattle.org_base.specs.Codes.{memory_fault}
use Rattle.org_base.specs.Counts.{Counts}
use Rattle.org_base.specs.declared.fault.Fault.{Fault}
use Rattle.org_class.specs.Changes.{new_sections}
use Rattle.org_class.specs.Ticks.{classified}
use Rattle.org_complete.specs.Completion.{completed, completion_part}
use Rattle.org_complete.specs.Parts.{Part}
use Rattle.org_complete.specs.Reading.{HasReadOne, ReadsOwn, with_one_read}
use Rattle.org_complete.specs.Written.{part_of}
use Rattle.org_store.specs.File.{FileView as KeptFile, IsChanged, marked}
use Rattle.org_store.specs.declared.change.Change.{Change}
use Rattle.org_store.specs.declared.change.OwnedChange.{OwnedChange}
use Rattle.org_engine.specs.Calls.{FailsToComplete, IsCompletionIn, Refuses, edited_named}
use Rattle.org_engine.specs.Marks.{Completes, CompletesMarks, CompletesNone, IsQuiet, KeepsOthers, PutsMarks, PutsNoMarks, ReadsOne, ReadsOwnIn, ReadsOwnOnly, Seen, completed_count, kept_named, marks_named, new_count, part_count, with_marks, with_section_read}
use Rattle.org_engine.specs.Files.{files_of, marks_of}
use Rattle.org_engine.specs.Step.{Answers, Complete, Refused, Reply, changes, file_named, put, text_seen}
use Rattle.org_engine.specs.World.{EngineView, FileView, KeptPins, KeptWorld, State, WorldView}
use Rattle.org_engine.proofs.FilesLemmas.{is_key, kept_at, kept_text, marks_of-set}
use Rattle.org_engine.proofs.ChangeLemmas.{complete_answers, complete_refused, seen_file}
use Rattle.org_engine.proofs.PassedLemmas.{refuses_passed}
use Rattle.org_engine.proofs.MarkLemmas.{files_of-same, one_same}

same_kept : (a b : KeptFile) → Some a ≡ Some b → a ≡ b
same_kept a b h = cc

-- the marks of the file of a name are its own
own_marks : (name : List ℕ) (files : List FileView) (marks : List (List Bool)) (kept : KeptFile) → kept_named name files marks ≡ Some kept → marks_named name files marks ≡ kept.marks
own_marks name [] marks kept is = absurd cc
own_marks name (f ∷ files) [] kept is = absurd cc
own_marks name (f ∷ files) (own ∷ marks) kept is =
    elim (bytes_eq name f.name) as (λ b. cond b (Some (record { text = f.text; serial = f.serial; marks = own })) (kept_named name files marks) ≡ Some kept → cond b own (marks_named name files marks) ≡ kept.marks) [
      | true ↦ λ k. ap (λ (v : KeptFile). v.marks) (same_kept _ _ k)
      | false ↦ λ k. own_marks name files marks kept k
    ] is

-- with its own marks all is as before
with_own : (name : List ℕ) (files : List FileView) (marks : List (List Bool)) (kept : KeptFile) → kept_named name files marks ≡ Some kept → with_marks name kept.marks files marks ≡ marks
with_own name [] marks kept is = refl
with_own name (f ∷ files) [] kept is = refl
with_own name (f ∷ files) (own ∷ marks) kept is =
    elim (bytes_eq name f.name) as (λ b. cond b (Some (record { text = f.text; serial = f.serial; marks = own })) (kept_named name files marks) ≡ Some kept → cond b (kept.marks ∷ marks) (own ∷ with_marks name kept.marks files marks) ≡ own ∷ marks) [
      | true ↦ λ k. ap (λ m. m ∷ marks) (ap (λ (v : KeptFile). v.marks) (sym (same_kept _ _ k)))
      | false ↦ λ k. ap (λ ms. own ∷ ms) (with_own name files marks kept k)
    ] is

-- the last marks count
with_twice : (name : List ℕ) (a b : List Bool) (files : List FileView) (marks : List (List Bool)) → with_marks name b files (with_marks name a files marks) ≡ with_marks name b files marks
with_twice name a b [] marks = refl
with_twice name a b (f ∷ files) [] = refl
with_twice name a b (f ∷ files) (own ∷ marks) =
    elim (bytes_eq name f.name) as (λ c. bytes_eq name f.name ≡ c → with_marks name b (f ∷ files) (cond c (a ∷ marks) (own ∷ with_marks name a files marks)) ≡ cond c (b ∷ marks) (own ∷ with_marks name b files marks)) [
      | true ↦ λ e. rw e refl
      | false ↦ λ e. rw e (ap (λ ms. own ∷ ms) (with_twice name a b files marks))
    ] refl

-- and are then the file's
kept_with : (name : List ℕ) (new : List Bool) (files : List FileView) (marks : List (List Bool)) (kept : KeptFile) → kept_named name files marks ≡ Some kept → kept_named name files (with_marks name new files marks) ≡ Some (record kept { marks = new })
kept_with name new [] marks kept is = absurd cc
kept_with name new (f ∷ files) [] kept is = absurd cc
kept_with name new (f ∷ files) (own ∷ marks) kept is =
    elim (bytes_eq name f.name) as (λ c. bytes_eq name f.name ≡ c → cond c (Some (record { text = f.text; serial = f.serial; marks = own })) (kept_named name files marks) ≡ Some kept → kept_named name (f ∷ files) (cond c (new ∷ marks) (own ∷ with_marks name new files marks)) ≡ Some (record kept { marks = new })) [
      | true ↦ λ e k. let one = same_kept _ _ k in rw e (ap Some (λ i. record { text = (one i).text; serial = (one i).serial; marks = new }))
      | false ↦ λ e k. rw e (kept_with name new files marks kept k)
    ] refl is

-- the file at a place was read so
pub reads_one : {Y : Type 0} (name : List ℕ) (world : WorldView) (es : List (String Y × KeptFile)) (place : ℕ) (old new : KeptFile) (before after : Counts) → position_or_len (is_key name) (keys_of es) ≡ place → place < length es → slice_get (values_of es) place ≡ Some old → HasReadOne old new before after →
    ReadsOne name (record { world = record world { files = files_of es }; marks = marks_of es }) (record { world = record world { files = files_of (set_value_at es place new) }; marks = marks_of (set_value_at es place new) }) before after
reads_one name world es place old new before after key within at one =
    let same = one_same old new before after one in
    record {
      file = old;
      read = new;
      found = kept_at name es place old key within at;
      one = one;
      world = λ i. record world { files = files_of-same es place old new at same.0 same.1 i };
      marks = marks_of-set name es place new key within;
    }

-- and what was read is the section that begins with a line
pub reads_own : {Y : Type 0} (name : List ℕ) (line : ℕ) (world : WorldView) (es : List (String Y × KeptFile)) (place : ℕ) (old new : KeptFile) (before after : Counts) → position_or_len (is_key name) (keys_of es) ≡ place → place < length es → slice_get (values_of es) place ≡ Some old → HasReadOne old new before after → ReadsOwn line old new before after →
    ReadsOwnIn name line (record { world = record world { files = files_of es }; marks = marks_of es }) (record { world = record world { files = files_of (set_value_at es place new) }; marks = marks_of (set_value_at es place new) }) before after
reads_own name line world es place old new before after key within at one own =
    let same = one_same old new before after one in
    record {
      one = record {
        file = old;
        read = new;
        found = kept_at name es place old key within at;
        one = one;
        world = λ i. record world { files = files_of-same es place old new at same.0 same.1 i };
        marks = marks_of-set name es place new key within;
      };
      own = own;
    }

-- nothing was read
pub none_completed : (name : List ℕ) (line : ℕ) (keyword : List ℕ) (e : EngineView) → CompletesNone name line keyword e e
none_completed name line keyword e = (record { place = None; within = tt; marks = refl }, record { reads = 0; count = 0; one = omega arith; few = omega arith; counts = refl })

module _ (name : List ℕ) (line : ℕ) (keyword : List ℕ) (world new : KeptWorld) (pins : KeptPins) (serial : ℕ) (before after : Counts) (read : ReadsOne name world new before after) where
  abbrev pub old : EngineView
  old = record { state = record { world = world.world; pins = pins.pins; serial = serial }; counts = before; marks = record { world = world.marks; pins = pins.marks } }

  abbrev pub mid : EngineView
  mid = record { state = record { world = new.world; pins = pins.pins; serial = serial }; counts = after; marks = record { world = new.marks; pins = pins.marks } }

  abbrev pub files : List FileView
  files = world.world.files

  with_read : (place : Option ℕ) → read.read ≡ with_one_read place read.file → new.marks ≡ with_section_read name place files world.marks
  with_read None is = read.marks ∙ ap (λ (f : KeptFile). with_marks name f.marks files world.marks) is ∙ with_own name files world.marks read.file read.found
  with_read (Some place) is =
      let own = own_marks name files world.marks read.file read.found in
      read.marks ∙ ap (λ (f : KeptFile). with_marks name f.marks files world.marks) is ∙ ap (λ m. with_marks name (marked place m) files world.marks) (sym own)

  within : (place : Option ℕ) → IfSome place (λ p. p < length read.file.marks) → IfSome place (λ p. p < length (marks_named name files world.marks))
  within None h = tt
  within (Some p) h = rw (own_marks name files world.marks read.file read.found) h

  others : (final : EngineView) → final.marks ≡ mid.marks → KeepsOthers name old final
  others final same = record {
    place = read.one.place;
    within = within read.one.place read.one.within;
    marks = same ∙ (λ i. record { world = with_read read.one.place read.one.file i; pins = pins.marks });
  }

  -- after a refusal
  pub completed_none : CompletesNone name line keyword old mid
  completed_none = (others mid refl, record { reads = read.one.reads; count = 0; one = read.one.few; few = omega arith; counts = read.one.counts })

  pub completed_err : {A : Type 0} (session asked : ℕ) (seen : List ℕ) (fault : Fault) (out : Result A Fault) → text_seen session name asked files ≡ Ok seen → (fault ≢ memory_fault → FailsToComplete name line keyword world fault) → IsErrAnd out (λ why. why ≡ fault) →
      Refuses (Complete session name asked line keyword) old out mid
  completed_err session asked seen fault (Ok x) is refused passed = tt
  completed_err session asked seen fault (Err why) is refused passed =
      let found = seen_file session name asked files seen is in
      let own : completed seen line keyword world.world.moment ≡ completed found.0.text line keyword world.world.moment = ap (λ t. completed t line keyword world.world.moment) (sym found.2) in (
        λ i. record { world = read.world i; pins = pins.pins; serial = serial },
        λ other. complete_refused session name asked line keyword old.state seen why is (own ∙ refused (λ memory. other (passed ∙ memory)) found.0 found.1 ∙ ap Err (sym passed)),
      )

  same_state : mid.state ≡ old.state
  same_state = λ i. record { world = read.world i; pins = pins.pins; serial = serial }

  -- what the change of the heading's text is answered is answered to the completion
  pub completed_so : (session asked : ℕ) (seen : List ℕ) (own_change : OwnedChange) (change : Change) (reply : Reply) (final : State) → text_seen session name asked files ≡ Ok seen → IsCompletionIn name line keyword world own_change →
      change.at ≡ own_change.at → change.del ≡ own_change.del → change.ins.now ≡ string_bytes own_change.ins →
      changes mid.state (put name mid.state (edited_named name change mid.state.world.files)) ≡ record { reply = reply; after = final } → Answers (Complete session name asked line keyword) old.state reply final
  completed_so session asked seen own_change change reply final is completion at del ins puts =
      complete_answers session name asked keyword line old.state seen completion.file own_change change reply final is completion.found completion.is at del ins
      (subst (λ (s : State). changes s (put name s (edited_named name change s.world.files)) ≡ record { reply = reply; after = final }) same_state puts)

  -- and a refusal of that change too
  pub completed_fails : {A : Type 0} (session asked : ℕ) (seen : List ℕ) (own_change : OwnedChange) (change : Change) (final : State) (fault : Fault) (out : Result A Fault) → text_seen session name asked files ≡ Ok seen → IsCompletionIn name line keyword world own_change →
      change.at ≡ own_change.at → change.del ≡ own_change.del → change.ins.now ≡ string_bytes own_change.ins → IsErrAnd out (λ why. why ≡ fault) → final ≡ mid.state →
      (fault ≢ memory_fault → changes mid.state (put name mid.state (edited_named name change mid.state.world.files)) ≡ record { reply = Refused fault; after = final }) →
      IfErr out (λ why. (final ≡ old.state) × (why ≢ memory_fault → Answers (Complete session name asked line keyword) old.state (Refused why) old.state))
  completed_fails session asked seen own_change change final fault out is completion at del ins passed after puts =
      let here : final ≡ old.state = after ∙ same_state in
      refuses_passed (λ why. Answers (Complete session name asked line keyword) old.state (Refused why) old.state) out fault passed here
      (λ other. completed_so session asked seen own_change change (Refused fault) old.state is completion at del ins (puts other ∙ (λ i. record { reply = Refused fault; after = here i })))

  pub completed_own : (session asked : ℕ) (text : List ℕ) (final : EngineView) → text_seen session name asked files ≡ Ok text → ReadsOwn line read.file read.read before after → IsQuiet mid final → ReadsOwnOnly session name asked line old final
  completed_own session asked text final seen own quiet =
      Seen text seen read.file read.read read.found (subst (λ counts. ReadsOwn line read.file read.read before counts) (sym quiet.1) own)
      (quiet.0 ∙ (λ i. record { world = read.marks i; pins = pins.marks }))

  module _ (own_change : OwnedChange) (is : IsCompletionIn name line keyword world own_change) (change : Change) (made : ◌≡◌ {A = Part} (record { at = change.at; del = change.del; ins = change.ins.now }) (part_of own_change)) where
    abbrev pub part : Part
    part = record { at = change.at; del = change.del; ins = change.ins.now }

    own_part : completion_part is.file.text line keyword world.world.moment ≡ Ok part
    own_part = is.is.is ∙ ap Ok (sym made)

    most : new_count change.at change.del change.ins.now (file_named name new.world.files) ≡ completed_count line keyword world.world.moment (file_named name files)
    most =
        ap (λ (w : WorldView). new_count change.at change.del change.ins.now (file_named name w.files)) read.world
        ∙ ap (new_count change.at change.del change.ins.now) is.found
        ∙ sym (ap (completed_count line keyword world.world.moment) is.found ∙ ap (part_count is.file) own_part)

    pub completed_few : (final : EngineView) → PutsNoMarks name change mid final → CompletesNone name line keyword old final
    completed_few final kept = (others final kept.0, record { reads = read.one.reads; count = kept.1.0; one = read.one.few; few = rw (← most) kept.1.1; counts = kept.1.2 ∙ ap (classified kept.1.0) read.one.counts })

    pub completed_marks : (final : EngineView) → ReadsOwn line read.file read.read before after → PutsMarks name change mid final → CompletesMarks name line keyword old final
    completed_marks final own edits =
        let here : kept_named name files new.marks ≡ Some edits.before = ap (λ (w : WorldView). kept_named name w.files new.marks) (sym read.world) ∙ edits.found in
        let there : kept_named name files new.marks ≡ Some (record read.file { marks = read.read.marks }) = ap (kept_named name files) read.marks ∙ kept_with name read.read.marks files world.marks read.file read.found in
        let same_text = (by read.one.place read.one.file).0 in
        let same_serial = (by read.one.place read.one.file).1 in
        let one : edits.before ≡ read.read = same_kept _ _ (sym here ∙ there) ∙ (λ i. record { text = sym same_text i; serial = sym same_serial i; marks = read.read.marks }) in
        let count : length (new_sections read.file.text change.at change.del change.ins.now) ≡ new_count change.at change.del change.ins.now (file_named name new.world.files) =
        ap (λ t. length (new_sections t change.at change.del change.ins.now)) (kept_text name files world.marks read.file is.file read.found is.found)
        ∙ sym (ap (λ (w : WorldView). new_count change.at change.del change.ins.now (file_named name w.files)) read.world ∙ ap (new_count change.at change.del change.ins.now) is.found) in
        record {
          part = part;
          before = read.file;
          read = read.read;
          after = edits.after;
          between = after;
          completion = record { file = is.file; found = is.found; is = own_part };
          found = read.found;
          one = read.one;
          own = own;
          changed = subst (λ (f : KeptFile). IsChanged f change.at change.del change.ins.now final.state.serial edits.after) one edits.changed;
          marks = edits.marks ∙ (λ i. record {
            world = (ap (λ (w : WorldView). with_marks name edits.after.marks w.files new.marks) read.world
                ∙ ap (with_marks name edits.after.marks files) read.marks
                ∙ with_twice name read.read.marks edits.after.marks files world.marks) i;
            pins = pins.marks;
          });
          counts = edits.counts ∙ ap (λ n. classified n after) (sym count);
        }
      where
        by : (place : Option ℕ) → read.read ≡ with_one_read place read.file → (read.read.text ≡ read.file.text) × (read.read.serial ≡ read.file.serial)
        by None e = (ap (λ (f : KeptFile). f.text) e, ap (λ (f : KeptFile). f.serial) e)
        by (Some at) e = (ap (λ (f : KeptFile). f.text) e, ap (λ (f : KeptFile). f.serial) e)

-- a completion counts one section as read, and the new ones
pub completes : {A : Type 0} (name : List ℕ) (line : ℕ) (keyword : List ℕ) (old new : EngineView) (outcome : Result A Fault) → OnOk outcome (CompletesMarks name line keyword old new) → OnErr outcome (CompletesNone name line keyword old new) → Completes name line keyword old new
completes name line keyword old new (Ok x) all some =
    let file = all.completion.file in
    let same = kept_text name old.state.world.files old.marks.world all.before file all.found all.completion.found in
    let count : length (new_sections all.before.text all.part.at all.part.del all.part.ins) ≡ completed_count line keyword old.state.world.moment (file_named name old.state.world.files) =
    ap (λ t. length (new_sections t all.part.at all.part.del all.part.ins)) same
    ∙ sym (ap (completed_count line keyword old.state.world.moment) all.completion.found ∙ ap (part_count file) all.completion.is) in
    record {
      reads = all.one.reads;
      count = length (new_sections all.before.text all.part.at all.part.del all.part.ins);
      one = all.one.few;
      few = omega (arith, count);
      counts = all.counts ∙ ap (classified (length (new_sections all.before.text all.part.at all.part.del all.part.ins))) all.one.counts;
    }
completes name line keyword old new (Err fault) all some = some.1
