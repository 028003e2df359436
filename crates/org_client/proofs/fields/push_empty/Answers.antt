use Rattle.std.proofs.Common.{◌∙◌, ◌++◌, ◌∷◌, [], ap, append_assoc}
use Rattle.std.proofs.lemmas.List.{replicate-append-replicate}
use Rattle.org_client.specs.TableFields.{empty_fields}
use Rattle.org_client.proofs.fields.push_empty.Goals as goal

pub loop-place-preserved : goal.loop-place-preserved
loop-place-preserved c =
    c.in_ok-push.ensures.ok
    ∙ ap (λ z. z ++ 44 ∷ []) c.loop-place.invariant
    ∙ append_assoc c.args.line.now (empty_fields c.loop-place._place) (44 ∷ [])
    ∙ ap (λ z. c.args.line.now ++ z) (replicate-append-replicate c.loop-place._place 1 44)
