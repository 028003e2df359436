use Rattle.std.proofs.Common.{◌≡◌, ◌∙◌, ℕ, List, Option, Some, None, sym, ap}
use Rattle.org_history.specs.Changes.{kept, past}
use Rattle.org_history.specs.Settled.{older_of, settled}
use Rattle.org_history.proofs.SettledLemmas.{settled_else, settled_made}
use Rattle.org_history.proofs.settled.settled_changes.Goals as goal

pub returns-then-eq : goal.returns-then-eq
returns-then-eq c = record { value = sym (settled_made (past c.args.history.now) c.args.text.now (sym c.if-eq.ensures)) }

pub returns-in_default : goal.returns-in_default
returns-in_default c = record { value = sym (settled_else (past c.args.history.now) c.args.text.now None (sym c.if-eq.ensures) (sym c.in_default.ensures.value)) }

pub returns-in-Some-2 : goal.returns-in-Some-2
returns-in-Some-2 c =
    let text = c.args.text.now in
    let older = c.in-Some.older.now in
    let before = rw c.in-Some-2.is at c.in_ok-before.ensures.value in
    let all = settled_else (past c.args.history.now) text (Some (kept c.in-Some.newest, older)) (sym c.if-eq.ensures) (sym c.in-Some.ensures.value) in
    record { value = c.older_of.ensures.value ∙ ap (λ (b : List ℕ). older_of (Some b) text older) c.as_slice.ensures.value ∙ ap (λ (o : Option (List ℕ)). older_of o text older) before ∙ sym all }

pub returns-in-None : goal.returns-in-None
returns-in-None c =
    let text = c.args.text.now in
    let older = c.in-Some.older.now in
    let before = rw c.in-None.is at c.in_ok-before.ensures.value in
    let all = settled_else (past c.args.history.now) text (Some (kept c.in-Some.newest, older)) (sym c.if-eq.ensures) (sym c.in-Some.ensures.value) in
    record { value = ap (λ (o : Option (List ℕ)). older_of o text older) before ∙ sym all }
