-- Which sections were read.
use Rattle.std.proofs.Common.{◌≡◌, ◌∙◌, ℕ, zero, suc, ◌+◌, ◌<◌, ◌≤◌, List, [], ◌∷◌, Bool, true, false, cond, length, take, sym, subst, refl, ap, arith, true≢false}
use Rattle.std.specs.Prelude.{Err, IfOk, Ok, OnErr, OnOk, is_some, Result, Some, None, Option, String, nat_lt, slice_get}
use Rattle.std.proofs.lemmas.Bool.{le-ltb, lt-ltb}
use Rattle.std.specs.Map.{values_of}
use Rattle.std.proofs.lemmas.List.{take_all}
use Rattle.indexmap.specs.IndexMap.{set_value_at}
use Rattle.org_base.specs.Counts.{Counts, ticked}
use Rattle.org_base.specs.declared.meter.Tick.TheVariants.{Read}
use Rattle.org_store.specs.Change.{IsChangedBy, edited, edited_text}
use Rattle.org_store.specs.Counts.{have_read}
use Rattle.org_store.specs.declared.change.Change.{Change}
use Rattle.org_base.specs.Results.{Gives, IfRefused}
use Rattle.org_base.specs.declared.fault.Fault.{Fault}
use Rattle.org_complete.specs.Completion.{completed}
use Rattle.org_complete.specs.Reading.{HasReadOne, with_one_read}
use Rattle.org_complete.specs.Written.{IsCompletionOf}
use Rattle.org_store.specs.declared.change.OwnedChange.{OwnedChange}
use Rattle.org_engine.specs.Calls.{Accepts, FailsToComplete, IsCompletionIn, RefusesEdit}
use Rattle.org_engine.specs.Step.{file_named}
use Rattle.org_store.specs.File.{FileView as KeptFile, all_marked, first_unread, marked, unread, with_first_read}
use Rattle.org_engine.specs.Files.{file_of, files_of, marks_of}
use Rattle.org_index.specs.Ticks.{examined}
use Rattle.org_engine.specs.Marks.{ExaminesSome, IsFirstPending, KeepsMarks, kept_named, NoStamps, ReadsAll, ReadsSome, all_read, first_read, marks_at, next_read, pending_at, pending_in, read_at}
use Rattle.org_engine.specs.World.{EngineView, FileView, KeptWorld, WorldView}
use Rattle.org_engine.proofs.FilesLemmas.{kept_text}

no_more : (n : ℕ) → first_read n [] ≡ []
no_more zero = refl
no_more (suc n) = refl

-- one file more was read
pub one_more : (n : ℕ) (marks : List (List Bool)) → read_at n (first_read n marks) ≡ first_read (n + 1) marks
one_more zero [] = refl
one_more zero (m ∷ marks) = refl
one_more (suc n) [] = sym (no_more (suc n + 1))
one_more (suc n) (m ∷ marks) = let next : suc n + 1 ≡ suc (n + 1) = omega arith in rw next (ap (λ ms. all_marked m ∷ ms) (one_more n marks))

-- so many are all
pub all_first : (n : ℕ) (marks : List (List Bool)) → length marks ≤ n → first_read n marks ≡ all_read marks
all_first zero [] le = refl
all_first zero (m ∷ marks) le = absurd (omega (arith, le))
all_first (suc n) [] le = refl
all_first (suc n) (m ∷ marks) le = ap (λ ms. all_marked m ∷ ms) (all_first n marks (omega (arith, le)))

-- those after them are as before
pub left_at : (n : ℕ) (marks : List (List Bool)) → marks_at n (first_read n marks) ≡ marks_at n marks
left_at zero marks = refl
left_at (suc n) [] = refl
left_at (suc n) (m ∷ marks) = left_at n marks

-- what one file more has pending
pub pending_more : (marks : List (List Bool)) (i : ℕ) → i < length marks → pending_in (take (i + 1) marks) ≡ pending_in (take i marks) + pending_at i marks
pending_more [] i lt = absurd (omega (arith, lt))
pending_more (m ∷ marks) zero lt = let one : unread m + pending_in (take zero marks) ≡ 0 + unread m = omega arith in one
pending_more (m ∷ marks) (suc i) lt =
    let next : suc i + 1 ≡ suc (i + 1) = omega arith in
    let rest = pending_more marks i (omega (arith, lt)) in
    rw next (ap (λ n. unread m + n) rest ∙ omega arith)

-- some of the files have no more pending than all
pub pending_some : (marks : List (List Bool)) (i : ℕ) → pending_in (take i marks) ≤ pending_in marks
pending_some [] zero = omega arith
pending_some [] (suc i) = omega arith
pending_some (m ∷ marks) zero = omega arith
pending_some (m ∷ marks) (suc i) = let rest = pending_some marks i in omega arith

pub pending_all : (marks : List (List Bool)) (i : ℕ) → length marks ≤ i → pending_in (take i marks) ≡ pending_in marks
pending_all marks i le = ap pending_in (take_all i marks le)

-- read twice is read together
pub read_more : (n m : ℕ) (counts : Counts) → have_read n (have_read m counts) ≡ have_read (m + n) counts
read_more zero m counts = let same : m ≡ m + zero = omega arith in ap (λ k. have_read k counts) same
read_more (suc n) m counts =
    let same : suc (m + n) ≡ m + suc n = omega arith in
    ap (ticked Read) (read_more n m counts) ∙ ap (λ k. have_read k counts) same

-- what holds is true where a call fails, or succeeds
pub on_err : {A E P : Type 0} (r : Result A E) → P → OnErr r P
on_err (Ok x) p = tt
on_err (Err e) p = p

pub on_ok : {A E P : Type 0} (r : Result A E) → P → OnOk r P
on_ok (Ok x) p = p
on_ok (Err e) p = tt

pub refused_so : {A : Type 0} (P : Type 0) (r : Result A Fault) → P → IfRefused r (λ _. P)
refused_so P (Ok x) p = tt
refused_so P (Err e) p = λ other. p

-- and what follows from what holds there
pub where_ok : {A E P Q : Type 0} (r : Result A E) → (P → Q) → OnOk r P → OnOk r Q
where_ok (Ok x) f h = f h
where_ok (Err e) f h = tt

pub where_refused : {A P Q : Type 0} (r : Result A Fault) → (P → Q) → IfRefused r (λ _. P) → IfRefused r (λ _. Q)
where_refused (Ok x) f h = tt
where_refused (Err e) f h = λ other. f (h other)

pub where_err : {A E P Q : Type 0} (r : Result A E) → (P → Q) → OnErr r P → OnErr r Q
where_err (Ok x) f h = tt
where_err (Err e) f h = f h

-- all is some
pub all_some : (may : Type 0) (stamps : ℕ) (old new : KeptWorld) (before after : Counts) → (0 < stamps → may) → ReadsAll stamps old new before after → ReadsSome may old new before after
all_some may stamps old new before after allowed read =
    let all : length old.marks ≤ length old.marks = omega arith in
    record {
      files = length old.marks;
      reads = pending_in old.marks;
      few = omega arith;
      is = read.0 ∙ (λ i. record old { marks = sym (all_first (length old.marks) old.marks all) i });
      stamps = stamps;
      allowed = allowed;
      counts = read.1;
    }

-- stamps that are examined after what was read
pub read_examined : (stamps : ℕ) (old new : KeptWorld) (before mid after : Counts) → ReadsAll 0 old new before mid → after ≡ examined stamps mid → ReadsAll stamps old new before after
read_examined stamps old new before mid after read more = (read.0, more ∙ ap (examined stamps) read.1)

pub some_examined : (may : Type 0) (old new : KeptWorld) (before mid after : Counts) → ReadsAll 0 old new before mid → ExaminesSome may mid after → ReadsSome may old new before after
some_examined may old new before mid after read some = all_some may some.0 old new before after some.1 (read_examined some.0 old new before mid after read some.2)

-- some of those that are read where no stamp is examined are some where stamps may be
pub some_read : (may : Type 0) (old new : KeptWorld) (before after : Counts) → ReadsSome NoStamps old new before after → ReadsSome may old new before after
some_read may old new before after some =
    record { files = some.files; reads = some.reads; few = some.few; is = some.is; stamps = some.stamps; allowed = λ lt. absurd (some.allowed lt); counts = some.counts }

-- none is some
pub none_some : (may : Type 0) (old : KeptWorld) (counts : Counts) → ReadsSome may old old counts counts
none_some may old counts = record { files = 0; reads = 0; few = omega arith; is = refl; stamps = 0; allowed = λ lt. absurd (omega (arith, lt)); counts = refl }

-- no stamp is some
pub none_examined : (may : Type 0) (counts : Counts) → ExaminesSome may counts counts
none_examined may counts = (0, λ lt. absurd (omega (arith, lt)), refl)

-- a value with the same text and serial is the same file
pub files_of-same : {Y : Type 0} (es : List (String Y × KeptFile)) (i : ℕ) (v kept : KeptFile) → slice_get (values_of es) i ≡ Some v → kept.text ≡ v.text → kept.serial ≡ v.serial → files_of (set_value_at es i kept) ≡ files_of es
files_of-same [] i v kept at t n = refl
files_of-same (d ∷ es) zero v kept at t n = let same : d.1 ≡ v = cc in λ i. record { name = (file_of d).name; text = (t ∙ ap (λ (w : KeptFile). w.text) (sym same)) i; serial = (n ∙ ap (λ (w : KeptFile). w.serial) (sym same)) i } ∷ files_of es
files_of-same (d ∷ es) (suc i) v kept at t n = ap (λ fs. file_of d ∷ fs) (files_of-same es i v kept at t n)

-- the same value changes nothing
pub set-same : {Y : Type 0} (es : List (String Y × KeptFile)) (i : ℕ) (v : KeptFile) → slice_get (values_of es) i ≡ Some v → set_value_at es i v ≡ es
set-same [] i v at = refl
set-same (d ∷ es) zero v at = let same : v ≡ d.1 = cc in λ i. (d.0, same i) ∷ es
set-same (d ∷ es) (suc i) v at = ap (λ ds. d ∷ ds) (set-same es i v at)

-- one whose sections were all read
pub marks_of-read : {Y : Type 0} (es : List (String Y × KeptFile)) (i : ℕ) (v kept : KeptFile) → slice_get (values_of es) i ≡ Some v → kept.marks ≡ all_marked v.marks → marks_of (set_value_at es i kept) ≡ read_at i (marks_of es)
marks_of-read [] i v kept at is = refl
marks_of-read (d ∷ es) zero v kept at is = let same : v ≡ d.1 = cc in ap (λ m. m ∷ marks_of es) (is ∙ ap (λ (w : KeptFile). all_marked w.marks) same)
marks_of-read (d ∷ es) (suc i) v kept at is = ap (λ ms. d.1.marks ∷ ms) (marks_of-read es i v kept at is)

-- the value at a place is that of the file there
pub file_at : {Y : Type 0} (es : List (String Y × KeptFile)) (i : ℕ) (v : KeptFile) (file : FileView) → slice_get (values_of es) i ≡ Some v → slice_get (files_of es) i ≡ Some file → v.text ≡ file.text
file_at [] i v file at is = absurd cc
file_at (d ∷ es) zero v file at is = let one : d.1 ≡ v = cc in let two : file_of d ≡ file = cc in ap (λ (w : KeptFile). w.text) (sym one) ∙ ap (λ (f : FileView). f.text) two
file_at (d ∷ es) (suc i) v file at is = file_at es i v file at is

-- and its marks are those there
pub marks_there : {Y : Type 0} (es : List (String Y × KeptFile)) (i : ℕ) (v : KeptFile) → slice_get (values_of es) i ≡ Some v → v.marks ≡ marks_at i (marks_of es)
marks_there [] i v at = absurd cc
marks_there (d ∷ es) zero v at = let one : d.1 ≡ v = cc in ap (λ (w : KeptFile). w.marks) (sym one)
marks_there (d ∷ es) (suc i) v at = marks_there es i v at

-- where nothing was classified, none was
pub none_kept : (most : ℕ) (e : EngineView) → KeepsMarks most e e
none_kept most e = (refl, (0, omega arith, refl))

-- a file has no more pending than all
pub pending_least : (marks : List (List Bool)) (i : ℕ) → i < length marks → pending_at i marks ≤ pending_in marks
pending_least [] i lt = absurd (omega (arith, lt))
pending_least (m ∷ marks) zero lt = omega arith
pending_least (m ∷ marks) (suc i) lt = let rest = pending_least marks i (omega (arith, lt)) in omega (arith, rest)

-- where the first one with a pending section has its first one read, the first of all was read
first_is : {Y : Type 0} (e : String Y × KeptFile) (es : List (String Y × KeptFile)) (v new : KeptFile) → Some e.1 ≡ Some v → new.marks ≡ marked (first_unread v.marks) v.marks → 0 < unread e.1.marks →
    new.marks ∷ marks_of es ≡ next_read (e.1.marks ∷ marks_of es)
first_is e es v new at is own =
    let one : e.1 ≡ v = cc in
    let some : nat_lt 0 (unread e.1.marks) ≡ true = lt-ltb 0 (unread e.1.marks) own in
    rw some (ap (λ m. m ∷ marks_of es) (is ∙ ap (λ (w : KeptFile). marked (first_unread w.marks) w.marks) (sym one)))

pub next_is : {Y : Type 0} (es : List (String Y × KeptFile)) (i : ℕ) (v new : KeptFile) → slice_get (values_of es) i ≡ Some v → new.marks ≡ marked (first_unread v.marks) v.marks → IsFirstPending (marks_of es) i →
    marks_of (set_value_at es i new) ≡ next_read (marks_of es)
next_is [] i v new at is first = let lt = first.within in absurd (omega (arith, lt))
next_is (e ∷ es) zero v new at is first = first_is e es v new at is first.own
next_is (e ∷ es) (suc i) v new at is first =
    let before = first.before in
    let within = first.within in
    let none : nat_lt 0 (unread e.1.marks) ≡ false = le-ltb 0 (unread e.1.marks) (omega (arith, before)) in
    rw none (ap (λ ms. e.1.marks ∷ ms) (next_is es i v new at is (record { within = omega (arith, within); before = omega (arith, before); own = first.own })))

-- a step of work on the file that has something pending
pub work_some : {P : Type 0} (r : Result Bool Fault) (v new : KeptFile) (before after : Counts) → IfOk r (λ b. b ≡ true → new ≡ with_first_read v) → IfOk r (λ b. after ≡ cond b (ticked Read before) before) → (new ≡ with_first_read v → P) → IfOk r (λ b. b ≡ true → P × (after ≡ ticked Read before))
work_some (Ok b) v new before after some counts f = λ yes. (f (some yes), counts ∙ ap (λ c. cond c (ticked Read before) before) yes)
work_some (Err e) v new before after some counts f = tt

pub work_none : (P : Type 0) (r : Result Bool Fault) → Gives r true → IfOk r (λ b. b ≡ false → P)
work_none P (Ok b) given = λ no. absurd (true≢false (sym given ∙ no))
work_none P (Err e) given = tt

pub work_err : (P : Type 0) (r : Result Bool Fault) (before after : Counts) → OnErr r P → OnErr r (after ≡ ticked Read before) → OnErr r (P × (after ≡ ticked Read before))
work_err P (Ok b) before after same counts = tt
work_err P (Err e) before after same counts = (same, counts)

-- a file of which at most one section was read has its text and serial
pub one_same : (old new : KeptFile) (before after : Counts) → HasReadOne old new before after → (new.text ≡ old.text) × (new.serial ≡ old.serial)
one_same old new before after one = by one.place one.file
  where
    by : (place : Option ℕ) → new ≡ with_one_read place old → (new.text ≡ old.text) × (new.serial ≡ old.serial)
    by None is = (ap (λ (f : KeptFile). f.text) is, ap (λ (f : KeptFile). f.serial) is)
    by (Some at) is = (ap (λ (f : KeptFile). f.text) is, ap (λ (f : KeptFile). f.serial) is)

-- a file is there
pub there_is_one : (o : Option FileView) → is_some o ≡ true → (file : FileView) × (o ≡ Some file)
there_is_one None h = absurd cc
there_is_one (Some file) h = (file, refl)

-- a completion of the text of the file of a name
pub completion_in : (name : List ℕ) (line : ℕ) (keyword : List ℕ) (kept : KeptWorld) (file : FileView) (r : Result OwnedChange Fault) → file_named name kept.world.files ≡ Some file →
    IfOk r (IsCompletionOf file.text line keyword kept.world.moment) → IfOk r (IsCompletionIn name line keyword kept)
completion_in name line keyword kept file (Ok v) found is = record { file = file; found = found; is = is }
completion_in name line keyword kept file (Err f) found is = tt

-- what is said of an edit of a file is said of it by its name
module _ (name : List ℕ) (change : Change) (world : WorldView) (marks : List (List Bool)) (kept : KeptFile) where
  pub accepts_edit : {A : Type 0} (new : KeptFile) (serial : ℕ) (r : Result A Fault) → kept_named name world.files marks ≡ Some kept → OnOk r (IsChangedBy kept change serial new) → OnOk r (edited_text kept.text change ≡ Ok new.text) → OnOk r (Accepts name change (record { world = world; marks = marks }))
  accepts_edit new serial (Err f) is changed made = tt
  accepts_edit new serial (Ok x) is changed made = λ file found.
      let same = kept_text name world.files marks kept file is found in
      subst (λ t. edited_text t change ≡ Ok (edited t change)) same (made ∙ ap Ok (ap (λ (f : KeptFile). f.text) changed.is))

  pub refuses_edit : {A : Type 0} (r : Result A Fault) → kept_named name world.files marks ≡ Some kept → IfRefused r (λ fault. edited_text kept.text change ≡ Err fault) → IfRefused r (RefusesEdit name change (record { world = world; marks = marks }))
  refuses_edit (Ok x) is refused = tt
  refuses_edit (Err f) is refused = λ other file found. subst (λ t. edited_text t change ≡ Err f) (kept_text name world.files marks kept file is found) (refused other)

-- so is a refusal to complete a heading
pub fails_in : {A : Type 0} (name : List ℕ) (line : ℕ) (keyword : List ℕ) (world : WorldView) (marks : List (List Bool)) (kept : KeptFile) (r : Result A Fault) → kept_named name world.files marks ≡ Some kept →
    IfRefused r (λ fault. completed kept.text line keyword world.moment ≡ Err fault) → IfRefused r (FailsToComplete name line keyword (record { world = world; marks = marks }))
fails_in name line keyword world marks kept (Ok x) is refused = tt
fails_in name line keyword world marks kept (Err f) is refused = λ other file found. subst (λ t. completed t line keyword world.moment ≡ Err f) (kept_text name world.files marks kept file is found) (refused other)
