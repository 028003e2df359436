-- What an act on a clock makes of a text, by what is read of it.
use Rattle.std.proofs.Common.{◌≡◌, ◌≢◌, ◌∙◌, ℕ, List, sym, ap, subst}
use Rattle.std.specs.Prelude.{Result, Ok, Err}
use Rattle.org_act.specs.Changes.{Makes, no_memory}
use Rattle.org_act.specs.Clocking.{clocked_by, clocked_in, clocked_text}
use Rattle.org_act.specs.declared.act.Refusal.{Refusal}
use Rattle.org_act.specs.declared.act.Refusal.TheVariants as refusal
use Rattle.org_store.specs.declared.change.OwnedChange.{OwnedChange}
use Rattle.org_act.specs.declared.clock_act.ClockAct.{ClockAct}
use Rattle.org_act.proofs.PlanLemmas.{sized_is}
use Rattle.org_base.specs.Codes.{memory_fault}
use Rattle.org_base.specs.declared.fault.Fault.{Fault}
use Rattle.org_complete.specs.Completion.{sized}

pub clock_made : (act : ClockAct) (text whole : List ℕ) (r : Result OwnedChange Refusal) → sized text ≡ Ok whole → Makes r text (clocked_by act text) → Makes r text (clocked_text act text)
unfolding clocked_text
clock_made act text whole r e h =
    let own : sized text ≡ Ok text = e ∙ ap Ok (sized_is text whole e) in
    subst (λ (s : Result (List ℕ) Fault). Makes r text (clocked_in act s)) (sym own) h

pub clock_refused : (act : ClockAct) (text : List ℕ) (fault : Fault) → (fault ≢ memory_fault → sized text ≡ Err fault) → refusal.Fault fault ≢ no_memory → clocked_text act text ≡ Err (refusal.Fault fault)
unfolding clocked_text
clock_refused act text fault h not_memory = ap (clocked_in act) (h (λ e. not_memory (ap refusal.Fault e)))
