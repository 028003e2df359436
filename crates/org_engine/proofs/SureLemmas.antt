-- Faults that are surely answered.
use Rattle.std.proofs.Common.{◌≡◌, subst, sym}
use Rattle.std.specs.Prelude.{Option, None, Some, Result, Ok, Err}
use Rattle.std.specs.Result.{IsErrAnd}
use Rattle.org_base.specs.declared.fault.Fault.{Fault}
use Rattle.org_engine.specs.Calls.{RefusesSurelyBy}
use Rattle.org_engine.specs.Computed.{FailsSurely}

-- the one that is passed on
pub sure_passed : {T U : Type 0} (r : Result T Fault) (computed : Result U Fault) (f : Fault) → IsErrAnd r (λ why. why ≡ f) → computed ≡ Err f → FailsSurely r computed
sure_passed {T} {U} (Ok x) computed f h is = absurd h
sure_passed {T} {U} (Err e) computed f h is = subst (λ (c : Result U Fault). FailsSurely {T = T} {U = U} (Err e) c) (sym is) (λ i. Err (h i))

-- where none is computed
pub sure_fine : {T U : Type 0} (r : Result T Fault) (computed : Result U Fault) (x : U) → computed ≡ Ok x → FailsSurely r computed
sure_fine r computed x is = subst (λ c. FailsSurely r c) (sym is) tt

-- the same of a fault that may be owed
pub owed_passed : {T : Type 0} (r : Result T Fault) (owed : Option Fault) (f : Fault) → IsErrAnd r (λ why. why ≡ f) → owed ≡ Some f → RefusesSurelyBy owed r
owed_passed {T} (Ok x) owed f h is = absurd h
owed_passed {T} (Err e) owed f h is = subst (λ (o : Option Fault). RefusesSurelyBy {T = T} o (Err e)) (sym is) (λ i. Err (h i))

pub owed_none : {T : Type 0} (r : Result T Fault) (owed : Option Fault) → owed ≡ None → RefusesSurelyBy owed r
owed_none r owed is = subst (λ o. RefusesSurelyBy o r) (sym is) tt
