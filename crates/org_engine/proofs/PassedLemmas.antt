-- Refusals that are passed on.
use Rattle.std.proofs.Common.{◌≡◌, ◌≢◌, ◌∙◌, subst, sym}
use Rattle.std.specs.Prelude.{Err, IfErr, Ok, OnErr, Result}
use Rattle.std.specs.Result.{IsErrAnd}
use Rattle.org_base.specs.Codes.{memory_fault}
use Rattle.org_base.specs.Results.{IfRefused}
use Rattle.org_base.specs.declared.fault.Fault.{Fault}

-- what follows from what holds of a refusal, but where it is out of memory
pub quiet_passed : {A : Type 0} (P Q : Type 0) (r : Result A Fault) (f : Fault) → IsErrAnd r (λ why. why ≡ f) → (f ≢ memory_fault → P) → (P → Q) → IfRefused r (λ _. Q)
quiet_passed P Q (Ok x) f h quiet k = tt
quiet_passed P Q (Err e) f h quiet k = λ other. k (quiet (λ memory. other (h ∙ memory)))

-- what is said of a fault is said of the refusal that passes it on
pub passed : {A : Type 0} (P : Fault → Type 0) (r : Result A Fault) (f : Fault) → IsErrAnd r (λ why. why ≡ f) → (f ≢ memory_fault → P f) → IfRefused r P
passed P (Ok x) f h k = tt
passed P (Err e) f h k = λ other. subst P (sym h) (k (λ memory. other (h ∙ memory)))

-- what follows from what is said of refusals, and of the state after them
pub refuses_so : {A S : Type 0} (P Q : Fault → Type 0) (r : Result A Fault) → (S → (f : Fault) → P f → Q f) → OnErr r S → IfRefused r P → IfErr r (λ f. S × (f ≢ memory_fault → Q f))
refuses_so P Q (Ok x) k same refused = tt
refuses_so P Q (Err f) k same refused = (same, λ other. k same f (refused other))

-- the same of a refusal that is passed on
pub refuses_passed : {A S : Type 0} (Q : Fault → Type 0) (r : Result A Fault) (f : Fault) → IsErrAnd r (λ why. why ≡ f) → S → (f ≢ memory_fault → Q f) → IfErr r (λ f. S × (f ≢ memory_fault → Q f))
refuses_passed Q (Ok x) f h same k = tt
refuses_passed Q (Err e) f h same k = (same, λ other. subst Q (sym h) (k (λ memory. other (h ∙ memory))))
