-- Names of files and sessions of pins stand once.
use Rattle.org_base.specs.declared.limits.TheConstants.{MOST_FILES}
use Rattle.org_engine.specs.declared.limits.TheConstants.{LAST_SERIAL}
use Rattle.std.proofs.Common.{◌≡◌, ℕ, List, [], ◌∷◌, ◌++◌, Bool, true, false, cond, inl, inr, refl, sym, ◌+◌, eq-eqb}
use Rattle.std.specs.Prelude.{Option, None, Some, Result, Ok, Err, ◌==◌, bytes_eq, is_some, nat_le, nat_lt, not, length}
use Rattle.std.specs.Str.{is_utf8}
use Rattle.std.proofs.lemmas.Bool.{cases_Bool, eqb-true}
use Rattle.std.proofs.lemmas.Slice.Eq.{bytes_eq-Decides}
use Rattle.org_base.specs.FileName.{is_file_name}
use Rattle.org_base.specs.declared.code.Code.TheVariants as code
use Rattle.org_base.specs.declared.fault.Fault.{Fault}
use Rattle.org_base.specs.declared.fault.Fault.TheVariants as fault
use Rattle.org_base.specs.declared.profile.Profile.{Profile}
use Rattle.org_text.specs.Replace.{max_bytes}
use Rattle.org_engine.specs.World.{FileView, PinView, State, WorldView}
use Rattle.org_engine.specs.Step.{Command, AddFile, DropFile, EditFile, Complete, At, Inherit, PinWorld, SetProfile, Unpin, TextOf, KeywordsOf, Version, Ask, Outcome, step, changes, file_named, refused, pinned_by, unpinned_by, world_of, released, is_session, added, dropped, put, edited, text_seen, with_file, with_text, without}
use Rattle.org_engine.proofs.StepWords.{is_unused, profiled, completed_at}
use Rattle.org_engine.specs.Laws.{HaveOwnNames, HaveOwnSessions, NamesAreOnce, after_all}
use Rattle.org_engine.proofs.LawLemmas.{next_state}

-- names of files

other_way : (a b : List ℕ) → bytes_eq a b ≡ false → bytes_eq b a ≡ false
other_way a b fails = elim (cases_Bool (bytes_eq b a)) [
  | inl holds ↦ absurd (let e = (bytes_eq-Decides a b).1 (sym ((bytes_eq-Decides b a).0 holds)) in cc)
  | inr e ↦ e
]

-- the first of some files hasn't the name, and neither has any other
parts_of : (name : List ℕ) (f : FileView) (fs : List FileView) → file_named name (f ∷ fs) ≡ None → (bytes_eq name f.name ≡ false) × (file_named name fs ≡ None)
parts_of name f fs gone = elim (cases_Bool (bytes_eq name f.name)) [
  | inl here ↦ absurd (let e : file_named name (f ∷ fs) ≡ Some f = rw here refl in cc)
  | inr other ↦ (other, rw other at gone)
]

gone_from : (name : List ℕ) (f : FileView) (fs : List FileView) → bytes_eq name f.name ≡ false → file_named name fs ≡ None → file_named name (f ∷ fs) ≡ None
gone_from name f fs other gone = rw other gone

gone_more : (name : List ℕ) (fs : List FileView) (f : FileView) → file_named name fs ≡ None → bytes_eq name f.name ≡ false → file_named name (fs ++ f ∷ []) ≡ None
gone_more name [] f gone other = rw other refl
gone_more name (g ∷ fs) f gone other = let p = parts_of name g fs gone in gone_from name g (fs ++ f ∷ []) p.0 (gone_more name fs f p.1 other)

gone_less : (name out : List ℕ) (fs : List FileView) → file_named name fs ≡ None → file_named name (without out fs) ≡ None
gone_less name out [] gone = refl
gone_less name out (g ∷ fs) gone =
    let p = parts_of name g fs gone in
    elim (cases_Bool (bytes_eq out g.name)) [
      | inl here ↦ rw here p.1
      | inr other ↦ rw other (gone_from name g (without out fs) p.0 (gone_less name out fs p.1))
    ]

gone_put : (name own text : List ℕ) (serial : ℕ) (fs : List FileView) → file_named name fs ≡ None → file_named name (with_text own text serial fs) ≡ None
gone_put name own text serial [] gone = refl
gone_put name own text serial (g ∷ fs) gone =
    let p = parts_of name g fs gone in
    elim (cases_Bool (bytes_eq own g.name)) [
      | inl here ↦ rw here (gone_from name (record g { text = text; serial = serial }) fs p.0 p.1)
      | inr other ↦ rw other (gone_from name g (with_text own text serial fs) p.0 (gone_put name own text serial fs p.1))
    ]

own_more : (fs : List FileView) (f : FileView) → file_named f.name fs ≡ None → HaveOwnNames fs → HaveOwnNames (fs ++ f ∷ [])
own_more [] f gone own = (refl, tt)
own_more (g ∷ fs) f gone own =
    let p = parts_of f.name g fs gone in
    (gone_more g.name fs f own.0 (other_way f.name g.name p.0), own_more fs f p.1 own.1)

own_less : (out : List ℕ) (fs : List FileView) → HaveOwnNames fs → HaveOwnNames (without out fs)
own_less out [] own = tt
own_less out (g ∷ fs) own = elim (cases_Bool (bytes_eq out g.name)) [
  | inl here ↦ rw here own.1
  | inr other ↦ rw other (gone_less g.name out fs own.0, own_less out fs own.1)
]

own_put : (name text : List ℕ) (serial : ℕ) (fs : List FileView) → HaveOwnNames fs → HaveOwnNames (with_text name text serial fs)
own_put name text serial [] own = tt
own_put name text serial (g ∷ fs) own = elim (cases_Bool (bytes_eq name g.name)) [
  | inl here ↦ rw here own
  | inr other ↦ rw other (gone_put g.name name text serial fs own.0, own_put name text serial fs own.1)
]

-- sessions of pins

session_parts : (session : ℕ) (q : PinView) (pins : List PinView) → world_of session (q ∷ pins) ≡ None → ((q.session == session) ≡ false) × (world_of session pins ≡ None)
session_parts session q pins gone = elim (cases_Bool (q.session == session)) [
  | inl here ↦ absurd (let e : world_of session (q ∷ pins) ≡ Some q.world = rw here refl in cc)
  | inr other ↦ (other, rw other at gone)
]

session_gone : (session : ℕ) (q : PinView) (pins : List PinView) → (q.session == session) ≡ false → world_of session pins ≡ None → world_of session (q ∷ pins) ≡ None
session_gone session q pins other gone = rw other gone

session_more : (session : ℕ) (pins : List PinView) (q : PinView) → world_of session pins ≡ None → (q.session == session) ≡ false → world_of session (pins ++ q ∷ []) ≡ None
session_more session [] q gone other = rw other refl
session_more session (r ∷ pins) q gone other = let p = session_parts session r pins gone in session_gone session r (pins ++ q ∷ []) p.0 (session_more session pins q p.1 other)

session_less : (session out : ℕ) (pins : List PinView) → world_of session pins ≡ None → world_of session (released out pins) ≡ None
session_less session out [] gone = refl
session_less session out (q ∷ pins) gone =
    let p = session_parts session q pins gone in
    elim (cases_Bool (q.session == out)) [
      | inl here ↦ rw here p.1
      | inr other ↦ rw other (session_gone session q (released out pins) p.0 (session_less session out pins p.1))
    ]

unequal : (a b : ℕ) → (a == b) ≡ false → (b == a) ≡ false
unequal a b fails = elim (cases_Bool (b == a)) [
  | inl holds ↦ absurd (let same = eqb-true b a holds in let e : (a == b) ≡ true = eq-eqb a b (sym same) in cc)
  | inr e ↦ e
]

sessions_more : (pins : List PinView) (q : PinView) → world_of q.session pins ≡ None → HaveOwnSessions pins → HaveOwnSessions (pins ++ q ∷ [])
sessions_more [] q gone own = (refl, tt)
sessions_more (r ∷ pins) q gone own =
    let p = session_parts q.session r pins gone in
    (session_more r.session pins q own.0 (unequal r.session q.session p.0), sessions_more pins q p.1 own.1)

sessions_less : (out : ℕ) (pins : List PinView) → HaveOwnSessions pins → HaveOwnSessions (released out pins)
sessions_less out [] own = tt
sessions_less out (q ∷ pins) own = elim (cases_Bool (q.session == out)) [
  | inl here ↦ rw here own.1
  | inr other ↦ rw other (session_less q.session out pins own.0, sessions_less out pins own.1)
]

-- what a step leaves

abbrev Own : Outcome → Type 0
Own o = HaveOwnNames o.after.world.files × HaveOwnSessions o.after.pins

module _ (s : State) (own : HaveOwnNames s.world.files × HaveOwnSessions s.pins) where
  next_own : (files : List FileView) (b : Bool) → HaveOwnNames files → Own (next_state s files b)
  next_own files true h = own
  next_own files false h = (h, own.1)

  abbrev OwnFiles : Result (List FileView) Fault → Type 0
  OwnFiles (Err f) = Unit {0}
  OwnFiles (Ok files) = HaveOwnNames files

  changes_own : (r : Result (List FileView) Fault) → OwnFiles r → Own (changes s r)
  changes_own (Err f) h = own
  changes_own (Ok files) h = next_own files (nat_le LAST_SERIAL s.serial) h

  put_own : (name : List ℕ) (r : Result (List ℕ) Fault) → OwnFiles (put name s r)
  put_own name (Err f) = tt
  put_own name (Ok text) = own_put name text (s.serial + 1) s.world.files own.0

  added_by : (name text : List ℕ) (o : Option FileView) → file_named name s.world.files ≡ o → (v x y z : Bool) →
      OwnFiles (cond v (Err (fault.Plain code.Command)) (cond (is_some o) (Err (fault.Plain code.Taken)) (cond x (Err (fault.Plain code.Files)) (cond y (Err (fault.Plain code.Utf8)) (cond z (Err (fault.Plain code.Size)) (Ok (with_file name text (s.serial + 1) s.world.files)))))))
  added_by name text o is true x y z = tt
  added_by name text (Some f) is false x y z = tt
  added_by name text None is false true y z = tt
  added_by name text None is false false true z = tt
  added_by name text None is false false false true = tt
  added_by name text None is false false false false = own_more s.world.files (record { name = name; text = text; serial = s.serial + 1 }) is own.0

  dropped_by : (name : List ℕ) (b : Bool) → OwnFiles (cond b (Ok (without name s.world.files)) (Err (fault.Plain code.Unknown)))
  dropped_by name true = own_less name s.world.files own.0
  dropped_by name false = tt

  pin_own : (session : ℕ) (b : Bool) (o : Option WorldView) → world_of session s.pins ≡ o → Own (cond b (pinned_by session s o) (refused (fault.Plain code.Session) s))
  pin_own session false o is = own
  pin_own session true (Some w) is = own
  pin_own session true None is = (own.0, sessions_more s.pins (record { session = session; world = s.world }) is own.1)

  unpin_own : (session : ℕ) (b : Bool) (o : Option WorldView) → Own (cond b (unpinned_by session s o) (refused (fault.Plain code.Session) s))
  unpin_own session false o = own
  unpin_own session true None = own
  unpin_own session true (Some w) = (own.0, sessions_less session s.pins own.1)

  set_own : (p : Profile) (b : Bool) → Own (profiled p s b)
  set_own p true = own
  set_own p false = own

  step_own : (c : Command) → Own (step c s)
  step_own (AddFile name text) = changes_own (added name text (s.serial + 1) s.world.files)
      (added_by name text (file_named name s.world.files) refl (not (is_file_name name)) (nat_le MOST_FILES (length s.world.files)) (not (is_utf8 text)) (nat_lt max_bytes (length text)))
  step_own (DropFile name) = changes_own (dropped name s.world.files) (dropped_by name (is_some (file_named name s.world.files)))
  step_own (EditFile by name serial at del ins) =
      let text = edited at del ins (text_seen by name serial s.world.files) in changes_own (put name s text) (put_own name text)
  step_own (Complete by name serial line keyword) =
      let text = completed_at line keyword s.world.moment (text_seen by name serial s.world.files) in changes_own (put name s text) (put_own name text)
  step_own (At moment) = own
  step_own (SetProfile p) = set_own p (is_unused s)
  step_own (Inherit names) = own
  step_own (PinWorld session) = pin_own session (is_session session) (world_of session s.pins) refl
  step_own (Unpin session) = unpin_own session (is_session session) (world_of session s.pins)
  step_own (TextOf name) = own
  step_own (KeywordsOf name) = own
  step_own Version = own
  step_own (Ask question form session) = own

all_own : (cs : List Command) (s : State) → HaveOwnNames s.world.files × HaveOwnSessions s.pins → HaveOwnNames (after_all cs s).world.files × HaveOwnSessions (after_all cs s).pins
all_own [] s own = own
all_own (c ∷ cs) s own = all_own cs (step c s).after (step_own s own c)

none_named : (fs : List FileView) → fs ≡ [] → HaveOwnNames fs
none_named [] is = tt
none_named (f ∷ fs) is = absurd cc

none_pinned : (pins : List PinView) → pins ≡ [] → HaveOwnSessions pins
none_pinned [] is = tt
none_pinned (q ∷ pins) is = absurd cc

pub names_are_once : NamesAreOnce
names_are_once commands start files pins = all_own commands start (none_named start.world.files files, none_pinned start.pins pins)
