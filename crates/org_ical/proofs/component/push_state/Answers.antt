-- The priority, and the state behind it.
use Rattle.std.proofs.Common.{◌≡◌, ◌∷◌, [], ◌++◌, List, ℕ, ap, subst, sym}
use Rattle.std.specs.Prelude.{OnOk, codes}
use Rattle.std.proofs.lemmas.Result.{on_ok_weaker}
use Rattle.org_ical.specs.Components.{state_lines}
use Rattle.org_ical.specs.Lines.{written}
use Rattle.org_ical.specs.Properties.{priority_lines}
use Rattle.org_ical.proofs.CalendarLemmas.{last_line, then_lines}
use Rattle.org_ical.proofs.component.push_state.Goals as goal

pub returns-in_ok-push_priority-in-Task : goal.returns-in_ok-push_priority-in-Task
returns-in_ok-push_priority-in-Task c =
    let out = c.args.out.now.items in
    let first = c.push_priority.new.out.items in
    let told = c.push_line-in-Task.new.out.items in
    let P : List ℕ → Type 0 = λ t. OnOk c.push_line-in-Task.result (told ≡ out ++ t) in
    subst P (sym (ap (λ k. written (state_lines k)) c.in-Task.is))
    (on_ok_weaker c.push_line-in-Task.result
    (λ e. then_lines out first told (priority_lines c.in-Task.priority) (codes "STATUS:NEEDS-ACTION" ∷ []) c.in_ok-push_priority-in-Task.ensures (last_line first told (codes "STATUS:NEEDS-ACTION") e))
    c.push_line-in-Task.ensures)
