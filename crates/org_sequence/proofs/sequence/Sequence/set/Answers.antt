use Rattle.std.proofs.Common.{◌+◌, [], ◌∷◌, ◌++◌, ap, ◌∙◌}
use Rattle.std.specs.List.{splice}
use Rattle.org_sequence.proofs.sequence.Sequence.set.Goals as goal

pub returns-clause-ok : goal.returns-clause-ok
returns-clause-ok g c =
    let at = c.args.at in
    let one = ap (λ d. d.0) c.in_ok-leaf.ensures ∙ (c.in_ok-push.ensures.items ∙ ap (λ xs. xs ++ c.args.item ∷ []) c.in_ok-items.ensures.items) in
    c.in_ok-self-inside.ensures ∙ (ap (λ xs. splice xs at (at + 1) c.in_ok-leaf.field-0.value.0) c.self.view_is ∙ ap (λ xs. splice c.args.self.now at (at + 1) xs) one)
