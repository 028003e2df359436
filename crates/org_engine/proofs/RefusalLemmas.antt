-- In which order commands are refused.
use Rattle.org_base.specs.declared.limits.TheConstants.{MOST_FILES}
use Rattle.org_engine.specs.declared.limits.TheConstants.{LAST_SERIAL}
use Rattle.std.proofs.Common.{◌≡◌, ◌+◌, ◌-◌, ◌≤◌, ◌==◌, ◌&&◌, ℕ, List, [], ◌∷◌, ◌++◌, Bool, true, false, cond, refl, arith, length, length-append, take, drop}
use Rattle.std.specs.Prelude.{◌↔◌, Option, None, Some, Result, Ok, Err, is_some, nat_le, nat_lt, not}
use Rattle.std.specs.Str.{is_utf8}
use Rattle.std.proofs.lemmas.Bool.Decides.{nat_tests}
use Rattle.std.proofs.lemmas.List.{length-take-le, length-drop}
use Rattle.org_base.specs.FileName.{is_file_name}
use Rattle.org_base.specs.Reasons.{Reason, first_of}
use Rattle.org_base.specs.declared.code.Code.TheVariants as code
use Rattle.org_base.specs.declared.fault.Fault.{Fault}
use Rattle.org_base.specs.declared.fault.Fault.TheVariants.{Plain, Stale}
use Rattle.org_complete.specs.Completion.{completed}
use Rattle.org_complete.specs.Reasons.{completion_reasons}
use Rattle.org_complete.proofs.RefusalLemmas.{in_order as completion_in_order}
use Rattle.org_store.proofs.ChangeWords.{unless_refused}
use Rattle.org_text.specs.Replace.{is_boundary, max_bytes, replace}
use Rattle.org_engine.specs.Refusals.{RefusalsComeInOrder, complete_reasons, edit_reasons, spent, text_reasons}
use Rattle.org_engine.specs.Step.{Refused, Reply, Serial, changes, edited, file_named, is_session, put, with_file, with_text, without}
use Rattle.org_engine.proofs.StepWords.{completed_at, text_at}
use Rattle.org_engine.specs.World.{FileView, State}
use Rattle.org_engine.proofs.LawLemmas.{next_state}

-- a reply is a refusal exactly where there is a fault, and with that fault
abbrev Says : Reply → Option Fault → Type 0
Says reply found = (f : Fault) → (reply ≡ Refused f) ↔ (found ≡ Some f)

says : (g : Fault) → Says (Refused g) (Some g)
says g f = (λ h. cc, λ h. cc)

silent : (n : ℕ) → Says (Serial n) None
silent n f = (λ h. absurd cc, λ h. absurd cc)

next_says : (s : State) (files : List FileView) (b : Bool) → Says (next_state s files b).reply (cond b (Some (Plain code.Spent)) None)
next_says s files true = says (Plain code.Spent)
next_says s files false = silent (s.serial + 1)

last_says : (s : State) (files : List FileView) → Says (changes s (Ok files)).reply (first_of (spent s ∷ []))
last_says s files = next_says s files (nat_le LAST_SERIAL s.serial)

add_says : (name text : List ℕ) (s : State) (v w x y z : Bool) →
    Says (changes s (cond v (Err (Plain code.Command)) (cond w (Err (Plain code.Taken)) (cond x (Err (Plain code.Files)) (cond y (Err (Plain code.Utf8)) (cond z (Err (Plain code.Size)) (Ok (with_file name text (s.serial + 1) s.world.files)))))))).reply
    (first_of ((v, Plain code.Command) ∷ (w, Plain code.Taken) ∷ (x, Plain code.Files) ∷ (y, Plain code.Utf8) ∷ (z, Plain code.Size) ∷ spent s ∷ []))
add_says name text s true w x y z = says (Plain code.Command)
add_says name text s false true x y z = says (Plain code.Taken)
add_says name text s false false true y z = says (Plain code.Files)
add_says name text s false false false true z = says (Plain code.Utf8)
add_says name text s false false false false true = says (Plain code.Size)
add_says name text s false false false false false = last_says s (with_file name text (s.serial + 1) s.world.files)

drop_says : (name : List ℕ) (s : State) (b : Bool) → Says (changes s (cond b (Ok (without name s.world.files)) (Err (Plain code.Unknown)))).reply (first_of ((not b, Plain code.Unknown) ∷ spent s ∷ []))
drop_says name s true = last_says s (without name s.world.files)
drop_says name s false = says (Plain code.Unknown)

-- the text that a session saw
module _ (name : List ℕ) (serial : ℕ) (s : State) (make : Result (List ℕ) Fault → Result (List ℕ) Fault) (wrong : List ℕ → List Reason)
    (none : (f : Fault) → make (Err f) ≡ Err f) (some : (text : List ℕ) → Says (changes s (put name s (make (Ok text)))).reply (first_of (wrong text))) where
  unmade_says : (f : Fault) → Says (changes s (put name s (make (Err f)))).reply (Some f)
  unmade_says f = rw (none f) (says f)

  file_says : (file : FileView) (b : Bool) → Says (changes s (put name s (make (cond b (Ok file.text) (Err (Stale file.serial)))))).reply (first_of ((not b, Stale file.serial) ∷ wrong file.text))
  file_says file true = some file.text
  file_says file false = unmade_says (Stale file.serial)

  seen_says : (session : ℕ) (b : Bool) (o : Option FileView) → (nat_le 1 session && nat_le session 64) ≡ b →
      Says (changes s (put name s (make (cond b (text_at serial o) (Err (Plain code.Session)))))).reply (first_of (text_reasons session serial o wrong))
  seen_says session false None is = rw is (unmade_says (Plain code.Session))
  seen_says session false (Some file) is = rw is (unmade_says (Plain code.Session))
  seen_says session true None is = rw is (unmade_says (Plain code.Unknown))
  seen_says session true (Some file) is = rw is (file_says file (file.serial == serial))

-- how long an edited text is
edited_length : (text : List ℕ) (at del : ℕ) (ins : List ℕ) → at + del ≤ length text → length (replace text at del ins) ≡ length text - del + length ins
edited_length text at del ins within =
    let all = length-append (take at text ++ ins) (drop (at + del) text) in
    let front = length-append (take at text) ins in
    omega (arith, within, all, front, length-take-le at text (omega (arith, within)), length-drop (at + del) text)

within_text : (a b : ℕ) → nat_lt a b ≡ false → b ≤ a
within_text a b h = grind (arith, nat_tests)

module _ (name : List ℕ) (s : State) (at del : ℕ) (ins text : List ℕ) where
  abbrev made : Bool → Bool → Bool → Bool → Result (List ℕ) Fault
  made u r c z = cond u (unless_refused (cond r (Some code.Range) (cond c (Some code.Boundary) (cond z (Some code.Size) None))) (replace text at del ins)) (Err (Plain code.Utf8))

  edit_made : (u r c z : Bool) → Says (changes s (put name s (made u r c z))).reply (first_of ((not u, Plain code.Utf8) ∷ (r, Plain code.Range) ∷ (c, Plain code.Boundary) ∷ (z, Plain code.Size) ∷ spent s ∷ []))
  edit_made false r c z = says (Plain code.Utf8)
  edit_made true true c z = says (Plain code.Range)
  edit_made true false true z = says (Plain code.Boundary)
  edit_made true false false true = says (Plain code.Size)
  edit_made true false false false = last_says s (with_text name (replace text at del ins) (s.serial + 1) s.world.files)

  -- past the end nothing is said of the size
  edit_past : (u c y z : Bool) → Says (changes s (put name s (made u true c y))).reply (first_of ((not u, Plain code.Utf8) ∷ (true, Plain code.Range) ∷ (c, Plain code.Boundary) ∷ (z, Plain code.Size) ∷ spent s ∷ []))
  edit_past false c y z = says (Plain code.Utf8)
  edit_past true c y z = says (Plain code.Range)

  edit_at : (r : Bool) → nat_lt (length text) (at + del) ≡ r →
      Says (changes s (put name s (made (is_utf8 ins) r (not (is_boundary text at && is_boundary text (at + del))) (nat_lt max_bytes (length (replace text at del ins)))))).reply
      (first_of ((not (is_utf8 ins), Plain code.Utf8) ∷ (r, Plain code.Range) ∷ (not (is_boundary text at && is_boundary text (at + del)), Plain code.Boundary) ∷ (nat_lt 67_108_864 (length text - del + length ins), Plain code.Size) ∷ spent s ∷ []))
  edit_at true is = edit_past (is_utf8 ins) (not (is_boundary text at && is_boundary text (at + del))) (nat_lt max_bytes (length (replace text at del ins))) (nat_lt 67_108_864 (length text - del + length ins))
  edit_at false is =
      rw (edited_length text at del ins (within_text (length text) (at + del) is))
      (edit_made (is_utf8 ins) false (not (is_boundary text at && is_boundary text (at + del))) (nat_lt max_bytes (length text - del + length ins)))

  edit_says : Says (changes s (put name s (edited at del ins (Ok text)))).reply (first_of (edit_reasons at del ins s text))
  edit_says = edit_at (nat_lt (length text) (at + del)) refl

-- reasons with others behind them
first_some : (reasons others : List Reason) (g : Fault) → first_of reasons ≡ Some g → first_of (reasons ++ others) ≡ Some g
first_some [] others g is = absurd cc
first_some ((true, fault) ∷ reasons) others g is = is
first_some ((false, fault) ∷ reasons) others g is = first_some reasons others g is

first_none : (reasons others : List Reason) → first_of reasons ≡ None → first_of (reasons ++ others) ≡ first_of others
first_none [] others is = refl
first_none ((true, fault) ∷ reasons) others is = absurd cc
first_none ((false, fault) ∷ reasons) others is = first_none reasons others is

abbrev made_text : List ℕ → Result (List ℕ) Fault
made_text text = Ok text

module _ (name : List ℕ) (s : State) (reasons : List Reason) where
  made_says : (text : List ℕ) (o : Option Fault) → first_of reasons ≡ o → ((f : Fault) → (made_text text ≡ Err f) ↔ (first_of reasons ≡ Some f)) → Says (changes s (put name s (Ok text))).reply (first_of (reasons ++ spent s ∷ []))
  made_says text (Some g) is same = absurd (let e = (same g).1 is in cc)
  made_says text None is same = rw (first_none reasons (spent s ∷ []) is) (last_says s (with_text name text (s.serial + 1) s.world.files))

  complete_made : (r : Result (List ℕ) Fault) → ((f : Fault) → (r ≡ Err f) ↔ (first_of reasons ≡ Some f)) → Says (changes s (put name s r)).reply (first_of (reasons ++ spent s ∷ []))
  complete_made (Err f) same = rw (first_some reasons (spent s ∷ []) f ((same f).0 refl)) (says f)
  complete_made (Ok text) same = made_says text (first_of reasons) refl same

pub in_order : RefusalsComeInOrder
in_order s = record {
  adds = λ name text. add_says name text s (not (is_file_name name)) (is_some (file_named name s.world.files)) (nat_le MOST_FILES (length s.world.files)) (not (is_utf8 text)) (nat_lt max_bytes (length text));
  drops = λ name. drop_says name s (is_some (file_named name s.world.files));
  edits = λ session name serial at del ins.
      seen_says name serial s (edited at del ins) (edit_reasons at del ins s) (λ f. refl) (λ text. edit_says name s at del ins text) session (is_session session) (file_named name s.world.files) refl;
  completes = λ session name serial line keyword.
      seen_says name serial s (completed_at line keyword s.world.moment) (complete_reasons line keyword s) (λ f. refl) (λ text. complete_made name s (completion_reasons text line keyword s.world.moment) (completed text line keyword s.world.moment) (completion_in_order text line keyword s.world.moment)) session (is_session session) (file_named name s.world.files) refl;
}
