-- What commands leave as it was, what a session pins, and over which files a view is.
use Rattle.org_engine.specs.declared.limits.TheConstants.{LAST_SERIAL}
use Rattle.std.proofs.Common.{◌≡◌, ◌≢◌, ◌∙◌, ◌+◌, eq-eqb, ℕ, List, [], ◌∷◌, ◌++◌, Bool, true, false, cond, refl, ap, sym, eqb, inl, inr}
use Rattle.std.specs.Prelude.{Option, None, Some, Result, Ok, Err, nat_le, is_some, not}
use Rattle.std.specs.Str.{bytes_eq, is_utf8}
use Rattle.std.proofs.lemmas.Bool.{cases_Bool, false_from_ne_true}
use Rattle.std.proofs.lemmas.List.{map-append}
use Rattle.std.proofs.lemmas.List.Elements.{All-head, All-tail}
use Rattle.std.proofs.lemmas.Slice.Eq.{bytes_eq-Decides}
use Rattle.org_base.specs.FileName.{is_file_name}
use Rattle.org_base.specs.declared.code.Code.TheVariants as code
use Rattle.org_base.specs.declared.fault.Fault.{Fault}
use Rattle.org_base.specs.declared.fault.Fault.TheVariants as fault
use Rattle.org_base.specs.declared.profile.Profile.{Profile}
use Rattle.org_agenda.specs.Lists.{Listing, Matching, todo_listing}
use Rattle.org_engine.specs.Places.{list_in, table_in}
use Rattle.org_engine.specs.declared.question.Form.{Form}
use Rattle.org_engine.specs.World.{WorldView, FileView, State, PinView}
use Rattle.org_engine.specs.Step.{ClockTable, DayAgenda, MatchList, Query, Shown, TodoList, Unread, Command, AddFile, DropFile, EditFile, Complete, At, Inherit, SetProfile, PinWorld, Unpin, TextOf, KeywordsOf, Version, Ask, Serial, Refused, Outcome, step, changes, refused, pinned_by, unpinned_by, world_of, is_session, added, dropped, put, edited, text_seen, with_file, with_text, without, file_named, is_missing}
use Rattle.org_engine.proofs.StepWords.{profiled, is_unused, answer, kept_world, completed_at}
use Rattle.org_engine.specs.Views.{files_named, world_over}
use Rattle.org_engine.specs.Rest.{LimitsAreNamed, PinsKeepTheWorld, CommandsLeaveTheRest, IsNoName, KeepsOrder, KeepsRest, ListsAreOverTheirFiles, TablesAreOverTheirFiles, TakesOut, changed_by, names_in, names_of}
use Rattle.org_engine.proofs.LawLemmas.{next_state}

pub limits : LimitsAreNamed
limits = (refl, refl)

-- names that are the same, and names that differ
same_number : (n : ℕ) → eqb n n ≡ true
same_number n = eq-eqb n n refl

is_name : (x y : List ℕ) → bytes_eq x y ≡ true → x ≡ y
is_name x y h = (bytes_eq-Decides x y).0 h

named : (x : List ℕ) → bytes_eq x x ≡ true
named x = (bytes_eq-Decides x x).1 refl

no_name : (x y : List ℕ) → x ≢ y → bytes_eq x y ≡ false
no_name x y h = false_from_ne_true (bytes_eq x y) (λ e. h (is_name x y e))

-- the pin that was added is found where there was none
pin_there : (session : ℕ) (pins : List PinView) (world : WorldView) → world_of session pins ≡ None → world_of session (pins ++ record { session = session; world = world } ∷ []) ≡ Some world
pin_there session [] world h = rw (same_number session) refl
pin_there session (p ∷ pins) world h =
    elim (eqb p.session session) as (λ b. cond b (Some p.world) (world_of session pins) ≡ None → cond b (Some p.world) (world_of session (pins ++ record { session = session; world = world } ∷ [])) ≡ Some world) [
      | true ↦ λ k. absurd cc
      | false ↦ λ k. pin_there session pins world k
    ] h

abbrev IsAsked : Form → ℕ → Query → State → Bool → Outcome → Type 0
IsAsked form session question s b o = answer form question (cond b (kept_world (world_of session o.after.pins)) (Err (fault.Plain code.Session))) ≡ answer form question (Ok s.world)

pinned : (form : Form) (session serial : ℕ) (question : Query) (s : State) (b : Bool) (o : Option WorldView) → world_of session s.pins ≡ o →
    (cond b (pinned_by session s o) (refused (fault.Plain code.Session) s)).reply ≡ Serial serial → IsAsked form session question s b (cond b (pinned_by session s o) (refused (fault.Plain code.Session) s))
pinned form session serial question s false o h k = absurd cc
pinned form session serial question s true (Some w) h k = absurd cc
pinned form session serial question s true None h k = ap (λ (w : Option WorldView). answer form question (kept_world w)) (pin_there session s.pins s.world h)

pub pins_keep : PinsKeepTheWorld
pins_keep session serial question form s k = pinned form session serial question s (is_session session) (world_of session s.pins) refl k

-- a change of files leaves the rest
next_rest : (s : State) (files : List FileView) (b : Bool) → KeepsRest s (next_state s files b).after
next_rest s files true = record { moment = refl; inherited = refl; profile = refl; pins = refl }
next_rest s files false = record { moment = refl; inherited = refl; profile = refl; pins = refl }

changes_rest : (s : State) (r : Result (List FileView) Fault) → KeepsRest s (changes s r).after
changes_rest s (Err f) = record { moment = refl; inherited = refl; profile = refl; pins = refl }
changes_rest s (Ok files) = next_rest s files (nat_le LAST_SERIAL s.serial)

files_rest : (s : State) (c : Command) (name : List ℕ) → changed_by c ≡ Some name → KeepsRest s (step c s).after
files_rest s (AddFile n text) name is = changes_rest s (added n text (s.serial + 1) s.world.files)
files_rest s (DropFile n) name is = changes_rest s (dropped n s.world.files)
files_rest s (EditFile by n serial at del ins) name is = changes_rest s (put n s (edited at del ins (text_seen by n serial s.world.files)))
files_rest s (Complete by n serial line keyword) name is = changes_rest s (put n s (completed_at line keyword s.world.moment (text_seen by n serial s.world.files)))
files_rest s (At moment) name is = absurd cc
files_rest s (SetProfile p) name is = absurd cc
files_rest s (Inherit names) name is = absurd cc
files_rest s (PinWorld other) name is = absurd cc
files_rest s (Unpin other) name is = absurd cc
files_rest s (TextOf n) name is = absurd cc
files_rest s (KeywordsOf n) name is = absurd cc
files_rest s Version name is = absurd cc
files_rest s (Ask question form by) name is = absurd cc

-- a refused command leaves all
next_kept : (s : State) (files : List FileView) (b : Bool) (f : Fault) → (next_state s files b).reply ≡ Refused f → (next_state s files b).after ≡ s
next_kept s files true f h = refl
next_kept s files false f h = absurd cc

changes_kept : (s : State) (r : Result (List FileView) Fault) (f : Fault) → (changes s r).reply ≡ Refused f → (changes s r).after ≡ s
changes_kept s (Err g) f h = refl
changes_kept s (Ok files) f h = next_kept s files (nat_le LAST_SERIAL s.serial) f h

profile_kept : (p : Profile) (s : State) (b : Bool) (f : Fault) → (profiled p s b).reply ≡ Refused f → (profiled p s b).after ≡ s
profile_kept p s true f h = absurd cc
profile_kept p s false f h = refl

profile_set : (p : Profile) (s : State) (b : Bool) (n : ℕ) → (profiled p s b).reply ≡ Serial n → (profiled p s b).after ≡ record s { world = record s.world { profile = p } }
profile_set p s true n h = refl
profile_set p s false n h = absurd cc

abbrev pin_out : ℕ → State → Bool → Option WorldView → Outcome
pin_out session s b o = cond b (pinned_by session s o) (refused (fault.Plain code.Session) s)

abbrev unpin_out : ℕ → State → Bool → Option WorldView → Outcome
unpin_out session s b o = cond b (unpinned_by session s o) (refused (fault.Plain code.Session) s)

pin_kept : (session : ℕ) (s : State) (b : Bool) (o : Option WorldView) (f : Fault) → (pin_out session s b o).reply ≡ Refused f → (pin_out session s b o).after ≡ s
pin_kept session s false o f h = refl
pin_kept session s true (Some w) f h = refl
pin_kept session s true None f h = absurd cc

unpin_kept : (session : ℕ) (s : State) (b : Bool) (o : Option WorldView) (f : Fault) → (unpin_out session s b o).reply ≡ Refused f → (unpin_out session s b o).after ≡ s
unpin_kept session s false o f h = refl
unpin_kept session s true None f h = refl
unpin_kept session s true (Some w) f h = absurd cc

all_kept : (s : State) (c : Command) (f : Fault) → (step c s).reply ≡ Refused f → (step c s).after ≡ s
all_kept s (AddFile n text) f h = changes_kept s (added n text (s.serial + 1) s.world.files) f h
all_kept s (DropFile n) f h = changes_kept s (dropped n s.world.files) f h
all_kept s (EditFile by n serial at del ins) f h = changes_kept s (put n s (edited at del ins (text_seen by n serial s.world.files))) f h
all_kept s (Complete by n serial line keyword) f h = changes_kept s (put n s (completed_at line keyword s.world.moment (text_seen by n serial s.world.files))) f h
all_kept s (At moment) f h = absurd cc
all_kept s (SetProfile p) f h = profile_kept p s (is_unused s) f h
all_kept s (Inherit names) f h = absurd cc
all_kept s (PinWorld other) f h = pin_kept other s (is_session other) (world_of other s.pins) f h
all_kept s (Unpin other) f h = unpin_kept other s (is_session other) (world_of other s.pins) f h
all_kept s (TextOf n) f h = refl
all_kept s (KeywordsOf n) f h = refl
all_kept s Version f h = refl
all_kept s (Ask question form by) f h = refl

pin_world : (session : ℕ) (s : State) (b : Bool) (o : Option WorldView) → (pin_out session s b o).after.world ≡ s.world
pin_world session s false o = refl
pin_world session s true (Some w) = refl
pin_world session s true None = refl

unpin_world : (session : ℕ) (s : State) (b : Bool) (o : Option WorldView) → (unpin_out session s b o).after.world ≡ s.world
unpin_world session s false o = refl
unpin_world session s true (Some w) = refl
unpin_world session s true None = refl

-- files of other names
module _ (other : List ℕ) where
  abbrev found : List FileView → Option FileView
  found files = file_named other files

  beside_new : (name text : List ℕ) (serial : ℕ) (fs : List FileView) → other ≢ name → found (with_file name text serial fs) ≡ found fs
  beside_new name text serial [] differ = rw (no_name other name differ) refl
  beside_new name text serial (f ∷ fs) differ = elim (cases_Bool (bytes_eq other f.name)) [
    | inl yes' ↦ rw yes' refl
    | inr no' ↦ rw no' (beside_new name text serial fs differ)
  ]

  beside_gone : (name : List ℕ) (fs : List FileView) → other ≢ name → found (without name fs) ≡ found fs
  beside_gone name [] differ = refl
  beside_gone name (f ∷ fs) differ = elim (cases_Bool (bytes_eq name f.name)) [
    | inl yes' ↦
        let apart : bytes_eq other f.name ≡ false = no_name other f.name (λ e. differ (e ∙ sym (is_name name f.name yes'))) in
        rw (yes', apart) refl
    | inr no' ↦ elim (cases_Bool (bytes_eq other f.name)) [
      | inl here ↦ rw no' (rw here refl)
      | inr not' ↦ rw no' (rw not' (beside_gone name fs differ))
    ]
  ]

  beside_changed : (name text : List ℕ) (serial : ℕ) (fs : List FileView) → other ≢ name → found (with_text name text serial fs) ≡ found fs
  beside_changed name text serial [] differ = refl
  beside_changed name text serial (f ∷ fs) differ = elim (cases_Bool (bytes_eq name f.name)) [
    | inl yes' ↦
        let apart : bytes_eq other f.name ≡ false = no_name other f.name (λ e. differ (e ∙ sym (is_name name f.name yes'))) in
        rw yes' (rw apart refl)
    | inr no' ↦ elim (cases_Bool (bytes_eq other f.name)) [
      | inl here ↦ rw no' (rw here refl)
      | inr not' ↦ rw no' (rw not' (beside_changed name text serial fs differ))
    ]
  ]

  next_beside : (s : State) (files : List FileView) (b : Bool) → found files ≡ found s.world.files → found (next_state s files b).after.world.files ≡ found s.world.files
  next_beside s files true h = refl
  next_beside s files false h = h

  -- whatever a change of files comes to, if it comes to files, they have that file
  made_beside : (s : State) (r : Result (List FileView) Fault) → ((files : List FileView) → r ≡ Ok files → found files ≡ found s.world.files) → found (changes s r).after.world.files ≡ found s.world.files
  made_beside s (Err f) h = refl
  made_beside s (Ok files) h = next_beside s files (nat_le LAST_SERIAL s.serial) (h files refl)

  add_made : (name text : List ℕ) (serial : ℕ) (fs files : List FileView) (v w x y z : Bool) → other ≢ name →
      cond v (Err (fault.Plain code.Command)) (cond w (Err (fault.Plain code.Taken)) (cond x (Err (fault.Plain code.Files)) (cond y (Err (fault.Plain code.Utf8)) (cond z (Err (fault.Plain code.Size)) (Ok (with_file name text serial fs)))))) ≡ Ok files →
      found files ≡ found fs
  add_made name text serial fs files true w x y z differ h = absurd cc
  add_made name text serial fs files false true x y z differ h = absurd cc
  add_made name text serial fs files false false true y z differ h = absurd cc
  add_made name text serial fs files false false false true z differ h = absurd cc
  add_made name text serial fs files false false false false true differ h = absurd cc
  add_made name text serial fs files false false false false false differ h =
      let is : with_file name text serial fs ≡ files = cc in
      ap found (sym is) ∙ beside_new name text serial fs differ

  drop_made : (name : List ℕ) (fs files : List FileView) (b : Bool) → other ≢ name → cond b (Ok (without name fs)) (Err (fault.Plain code.Unknown)) ≡ Ok files → found files ≡ found fs
  drop_made name fs files false differ h = absurd cc
  drop_made name fs files true differ h =
      let is : without name fs ≡ files = cc in
      ap found (sym is) ∙ beside_gone name fs differ

  put_made : (name : List ℕ) (s : State) (r : Result (List ℕ) Fault) (files : List FileView) → other ≢ name → put name s r ≡ Ok files → found files ≡ found s.world.files
  put_made name s (Err f) files differ h = absurd cc
  put_made name s (Ok text) files differ h =
      let is : with_text name text (s.serial + 1) s.world.files ≡ files = cc in
      ap found (sym is) ∙ beside_changed name text (s.serial + 1) s.world.files differ

  differs : (name : List ℕ) → (Some name ≡ Some other → ⊥) → other ≢ name
  differs name h e = h (ap Some (sym e))

  profile_files : (p : Profile) (s : State) (b : Bool) → found (profiled p s b).after.world.files ≡ found s.world.files
  profile_files p s true = refl
  profile_files p s false = refl

  pub beside : (s : State) (c : Command) → (changed_by c ≡ Some other → ⊥) → found (step c s).after.world.files ≡ found s.world.files
  beside s (AddFile n text) h =
      made_beside s (added n text (s.serial + 1) s.world.files)
      (λ files is. add_made n text (s.serial + 1) s.world.files files (not (is_file_name n)) (is_some (file_named n s.world.files)) _ (not (is_utf8 text)) _ (differs n h) is)
  beside s (DropFile n) h = made_beside s (dropped n s.world.files) (λ files is. drop_made n s.world.files files (is_some (file_named n s.world.files)) (differs n h) is)
  beside s (EditFile by n serial at del ins) h =
      made_beside s (put n s (edited at del ins (text_seen by n serial s.world.files)))
      (λ files is. put_made n s (edited at del ins (text_seen by n serial s.world.files)) files (differs n h) is)
  beside s (Complete by n serial line keyword) h =
      made_beside s (put n s (completed_at line keyword s.world.moment (text_seen by n serial s.world.files)))
      (λ files is. put_made n s (completed_at line keyword s.world.moment (text_seen by n serial s.world.files)) files (differs n h) is)
  beside s (At moment) h = refl
  beside s (SetProfile p) h = profile_files p s (is_unused s)
  beside s (Inherit names) h = refl
  beside s (PinWorld session) h = ap (λ (w : WorldView). found w.files) (pin_world session s (is_session session) (world_of session s.pins))
  beside s (Unpin session) h = ap (λ (w : WorldView). found w.files) (unpin_world session s (is_session session) (world_of session s.pins))
  beside s (TextOf n) h = refl
  beside s (KeywordsOf n) h = refl
  beside s Version h = refl
  beside s (Ask question form by) h = refl

-- where files stand
same_names : (name text : List ℕ) (serial : ℕ) (fs : List FileView) → names_in (with_text name text serial fs) ≡ names_in fs
same_names name text serial [] = refl
same_names name text serial (f ∷ fs) =
    elim (bytes_eq name f.name) as (λ b. names_in (cond b (record f { text = text; serial = serial } ∷ fs) (f ∷ with_text name text serial fs)) ≡ f.name ∷ names_in fs) [
      | true ↦ refl
      | false ↦ ap (λ ns. f.name ∷ ns) (same_names name text serial fs)
    ]

next_names : (name text : List ℕ) (s : State) (b : Bool) → names_of (next_state s (with_text name text (s.serial + 1) s.world.files) b).after ≡ names_of s
next_names name text s true = refl
next_names name text s false = same_names name text (s.serial + 1) s.world.files

put_names : (name : List ℕ) (s : State) (r : Result (List ℕ) Fault) → names_of (changes s (put name s r)).after ≡ names_of s
put_names name s (Err f) = refl
put_names name s (Ok text) = next_names name text s (nat_le LAST_SERIAL s.serial)

next_added : (name text : List ℕ) (s : State) (b : Bool) (n : ℕ) → (next_state s (with_file name text (s.serial + 1) s.world.files) b).reply ≡ Serial n →
    names_of (next_state s (with_file name text (s.serial + 1) s.world.files) b).after ≡ names_of s ++ name ∷ []
next_added name text s true n h = absurd cc
next_added name text s false n h = map-append (λ (file : FileView). file.name) s.world.files (record { name = name; text = text; serial = s.serial + 1 } ∷ [])

abbrev add_out : List ℕ → List ℕ → State → Bool → Bool → Bool → Bool → Bool → Outcome
add_out name text s v w x y z = changes s (cond v (Err (fault.Plain code.Command)) (cond w (Err (fault.Plain code.Taken)) (cond x (Err (fault.Plain code.Files)) (cond y (Err (fault.Plain code.Utf8)) (cond z (Err (fault.Plain code.Size)) (Ok (with_file name text (s.serial + 1) s.world.files)))))))

add_names : (name text : List ℕ) (s : State) (v w x y z : Bool) (n : ℕ) → (add_out name text s v w x y z).reply ≡ Serial n → names_of (add_out name text s v w x y z).after ≡ names_of s ++ name ∷ []
add_names name text s true w x y z n h = absurd cc
add_names name text s false true x y z n h = absurd cc
add_names name text s false false true y z n h = absurd cc
add_names name text s false false false true z n h = absurd cc
add_names name text s false false false false true n h = absurd cc
add_names name text s false false false false false n h = next_added name text s (nat_le LAST_SERIAL s.serial) n h

taken_out : (name : List ℕ) (fs : List FileView) → is_some (file_named name fs) ≡ true → TakesOut name (names_in fs) (names_in (without name fs))
taken_out name [] h = absurd cc
taken_out name (f ∷ fs) h = elim (cases_Bool (bytes_eq name f.name)) [
  | inl yes' ↦ rw yes' ([], names_in fs, ap (λ (n : List ℕ). n ∷ names_in fs) (sym (is_name name f.name yes')), refl)
  | inr no' ↦
      let rest = taken_out name fs (rw no' at h) in
      rw no' (f.name ∷ rest.0, rest.1, ap (λ (ns : List (List ℕ)). f.name ∷ ns) rest.2, ap (λ (ns : List (List ℕ)). f.name ∷ ns) rest.3)
]

next_dropped : (name : List ℕ) (s : State) (b : Bool) (n : ℕ) → is_some (file_named name s.world.files) ≡ true → (next_state s (without name s.world.files) b).reply ≡ Serial n →
    TakesOut name (names_of s) (names_of (next_state s (without name s.world.files) b).after)
next_dropped name s true n there h = absurd cc
next_dropped name s false n there h = taken_out name s.world.files there

drop_names : (name : List ℕ) (s : State) (b : Bool) (n : ℕ) → is_some (file_named name s.world.files) ≡ b → (changes s (cond b (Ok (without name s.world.files)) (Err (fault.Plain code.Unknown)))).reply ≡ Serial n →
    TakesOut name (names_of s) (names_of (changes s (cond b (Ok (without name s.world.files)) (Err (fault.Plain code.Unknown)))).after)
drop_names name s false n there h = absurd cc
drop_names name s true n there h = next_dropped name s (nat_le LAST_SERIAL s.serial) n there h

in_order : (s : State) → KeepsOrder s
in_order s = record {
  edited = λ session name serial at del ins. put_names name s (edited at del ins (text_seen session name serial s.world.files));
  completed = λ session name serial line keyword. put_names name s (completed_at line keyword s.world.moment (text_seen session name serial s.world.files));
  added = λ name text n h. add_names name text s (not (is_file_name name)) (is_some (file_named name s.world.files)) _ (not (is_utf8 text)) _ n h;
  dropped = λ name n h. drop_names name s (is_some (file_named name s.world.files)) n refl h;
}

pub leave_the_rest : CommandsLeaveTheRest
leave_the_rest s = (
  record {
    moment = λ moment. refl;
    names = λ names. refl;
    profile = λ p n h. profile_set p s (is_unused s) n h;
    asked = λ question form session. refl;
    text = λ name. refl;
    keywords = λ name. refl;
    version = refl;
    refused = all_kept s;
    pinned = λ session. pin_world session s (is_session session) (world_of session s.pins);
    unpinned = λ session. unpin_world session s (is_session session) (world_of session s.pins);
    files = files_rest s;
    others = λ c other h. beside other s c h;
  },
  in_order s,
)

-- views over a file
module _ (name : List ℕ) where
  none_files : (files : List FileView) → IsNoName name files → files_named (Some name) files ≡ []
  none_files [] none = refl
  none_files (f ∷ fs) none =
      let P : FileView → Type 0 = λ file. name ≢ file.name in
      rw (no_name name f.name (All-head P f fs none)) (none_files fs (All-tail P f fs none))

  one_file : (file : FileView) (before behind : List FileView) → name ≡ file.name → IsNoName name before → IsNoName name behind →
      files_named (Some name) (before ++ file ∷ behind) ≡ file ∷ []
  one_file file [] behind is none more = rw (ap (λ (n : List ℕ). bytes_eq name n) (sym is) ∙ named name) (ap (λ (fs : List FileView). file ∷ fs) (none_files behind more))
  one_file file (f ∷ fs) behind is none more =
      let P : FileView → Type 0 = λ g. name ≢ g.name in
      rw (no_name name f.name (All-head P f fs none)) (one_file file fs behind is (All-tail P f fs none) more)

  one_found : (file : FileView) (before behind : List FileView) → name ≡ file.name → is_some (file_named name (before ++ file ∷ behind)) ≡ true
  one_found file [] behind is = rw (ap (λ (n : List ℕ). bytes_eq name n) (sym is) ∙ named name) refl
  one_found file (f ∷ fs) behind is = elim (cases_Bool (bytes_eq name f.name)) [
    | inl yes' ↦ rw yes' refl
    | inr no' ↦ rw no' (one_found file fs behind is)
  ]

-- the world of that file alone
world_alone : (file : FileView) (before behind : List FileView) (world : WorldView) → world.files ≡ before ++ file ∷ behind → IsNoName file.name before → IsNoName file.name behind →
    world_over (Some file.name) world ≡ record world { files = file ∷ [] }
world_alone file before behind world is none more =
    ap (λ fs. record world { files = fs }) (ap (files_named (Some file.name)) is ∙ one_file file.name file before behind refl none more)

is_there : (name : Option (List ℕ)) (file : FileView) (before behind : List FileView) (world : WorldView) → name ≡ Some file.name → world.files ≡ before ++ file ∷ behind → is_missing name world.files ≡ false
is_there name file before behind world over is =
    ap (λ (n : Option (List ℕ)). is_missing n world.files) over
    ∙ ap not (ap (λ (fs : List FileView). is_some (file_named file.name fs)) is ∙ one_found file.name file before behind refl)

pub tables_over : TablesAreOverTheirFiles
tables_over table form file before behind s over is none more =
    let one : WorldView = record s.world { files = file ∷ [] } in
    let same : table_in form table (world_over table.file s.world) ≡ table_in form table one =
    ap (λ name. table_in form table (world_over name s.world)) over ∙ ap (table_in form table) (world_alone file before behind s.world is none more) in
    rw (is_there table.file file before behind s.world over is) (ap Shown same)

-- so does a list
listed : (form : Form) (listing : Listing) (name : Option (List ℕ)) (file : FileView) (before behind : List FileView) (world : WorldView) → name ≡ Some file.name → world.files ≡ before ++ file ∷ behind →
    IsNoName file.name before → IsNoName file.name behind → list_in form listing (world_over name world) ≡ list_in form listing (record world { files = file ∷ [] })
listed form listing name file before behind world over is none more =
    ap (λ n. list_in form listing (world_over n world)) over ∙ ap (list_in form listing) (world_alone file before behind world is none more)

pub lists_over : ListsAreOverTheirFiles
lists_over (TodoList wanted words) form file before behind s over is none more =
    rw (is_there wanted file before behind s.world over is) (ap Shown (listed form (todo_listing words) wanted file before behind s.world over is none more))
lists_over (MatchList wanted (Ok expr)) form file before behind s over is none more =
    rw (is_there wanted file before behind s.world over is) (ap Shown (listed form (Matching expr s.world.moment) wanted file before behind s.world over is none more))
lists_over (MatchList wanted (Err fault)) form file before behind s over is none more = rw (is_there wanted file before behind s.world over is) refl
lists_over (DayAgenda first count) form file before behind s over is none more = absurd over
lists_over (ClockTable table) form file before behind s over is none more = absurd over
lists_over (Unread fault) form file before behind s over is none more = absurd over
