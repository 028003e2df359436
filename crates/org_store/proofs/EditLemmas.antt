-- What an edit makes of a text, where it isn't refused.
use Rattle.std.proofs.lemmas.Bool.Decides.{nat_tests}
use Rattle.std.proofs.Common.{◌≡◌, ◌+◌, ◌≤◌, arith, length, ℕ, List, Bool, true, false, refl}
use Rattle.std.specs.Prelude.{nat_lt, IsOkUnless, MatchOption, None, Option, Some, Result, Ok, Err}
use Rattle.org_base.specs.Codes.{memory_fault}
use Rattle.org_base.specs.declared.code.Code.{Code}
use Rattle.org_base.specs.declared.code.Code.TheVariants as code
use Rattle.org_base.specs.declared.fault.Fault.{Fault}
use Rattle.org_base.specs.declared.fault.Fault.TheVariants as fault
use Rattle.org_store.specs.Change.{replaced_text}
use Rattle.org_store.proofs.ChangeWords.{unless_refused}
use Rattle.org_text.specs.Replace.{refusal_of, replace}

module _ (text ins : List ℕ) (at del : ℕ) where
  -- what is replaced lies in the text
  lies_in : (b : Bool) → nat_lt (length text) (at + del) ≡ b → refusal_of text at del ins ≡ None → at + del ≤ length text
  lies_in true e h = absurd (let bad : Some code.Range ≡ None = rw e at h in cc)
  lies_in false e h = grind (arith, nat_tests, e)

  -- a text that is answered is the one with the change, which lies in the old one
  pub replaced_is : (new : List ℕ) → replaced_text text at del ins ≡ Ok new → (at + del ≤ length text) × (new ≡ replace text at del ins)
  replaced_is new = by (refusal_of text at del ins) refl
    where
      by : (o : Option Code) → refusal_of text at del ins ≡ o → unless_refused o (replace text at del ins) ≡ Ok new → (at + del ≤ length text) × (new ≡ replace text at del ins)
      by None is e = (lies_in (nat_lt (length text) (at + del)) refl is, cc)
      by (Some c) is e = absurd cc

  -- a text that answers a change has it
  pub replaced_made : {X : Type 0} (x : X) → MatchOption (refusal_of text at del ins) (IsOkUnless {T = X} (Ok x) memory_fault) (λ c. ◌≡◌ {A = Result X Fault} (Ok x) (Err (fault.Plain c))) →
      replaced_text text at del ins ≡ Ok (replace text at del ins)
  replaced_made {X = X} x = by (refusal_of text at del ins) refl
    where
      by : (o : Option Code) → refusal_of text at del ins ≡ o → MatchOption o (IsOkUnless {T = X} (Ok x) memory_fault) (λ c. ◌≡◌ {A = Result X Fault} (Ok x) (Err (fault.Plain c))) → replaced_text text at del ins ≡ Ok (replace text at del ins)
      by None is h = rw is refl
      by (Some c) is h = absurd cc

  -- and one that refuses it does so for the right reason
  pub replaced_not : (X : Type 0) (f : Fault) → (f ≡ memory_fault → ⊥) → MatchOption (refusal_of text at del ins) (IsOkUnless {T = X} (Err f) memory_fault) (λ c. ◌≡◌ {A = Result X Fault} (Err f) (Err (fault.Plain c))) →
      replaced_text text at del ins ≡ Err f
  replaced_not X f other = by (refusal_of text at del ins) refl
    where
      by : (o : Option Code) → refusal_of text at del ins ≡ o → MatchOption o (IsOkUnless {T = X} (Err f) memory_fault) (λ c. ◌≡◌ {A = Result X Fault} (Err f) (Err (fault.Plain c))) → replaced_text text at del ins ≡ Err f
      by None is h = absurd (other h)
      by (Some c) is h = rw is cc
