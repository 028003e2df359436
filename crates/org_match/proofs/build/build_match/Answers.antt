use Rattle.std.proofs.Common.{◌≡◌, rules}
use Rattle.org_expression.specs.declared.tree.Kind.TheVariants.{Tags}
use Rattle.org_match.proofs.Refused.{passed_on, refused_in_tags, refused_in_todo}
use Rattle.org_match.proofs.build.build_match.Goals as goal

pub returns-in_err-tags-clause-refused : goal.returns-in_err-tags-clause-refused
returns-in_err-tags-clause-refused c =
    let written = c.written.inside in
    let refused = refused_in_tags written.kind written.tags.items written.todo.items c.in_err-tags.field-0.0 (rw c.as_slice.ensures.value at c.in_err-tags.ensures.refused) in
    passed_on c.from_residual.result (λ why. why ≡ c.in_err-tags.field-0.0) _ (λ why is. rw (is, ← c.written.view_is) refused) c.from_residual.ensures.1

pub returns-in_err-todo-clause-refused : goal.returns-in_err-todo-clause-refused
returns-in_err-todo-clause-refused c =
    let written = c.written.inside in
    let other : written.kind ≡ Tags → ⊥ = search rules in
    let refused = refused_in_todo written.kind written.tags.items written.todo.items c.in_err-todo.field-0.0 other (rw c.as_slice-2.ensures.value at c.in_err-todo.ensures.refused) in
    passed_on c.from_residual-in_err-todo.result (λ why. why ≡ c.in_err-todo.field-0.0) _ (λ why is. rw (is, ← c.written.view_is) refused) c.from_residual-in_err-todo.ensures.1
