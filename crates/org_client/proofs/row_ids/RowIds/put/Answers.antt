-- The map has one sum more.
use Rattle.std.proofs.Common.{◌∙◌, cond, ap}
use Rattle.std.specs.Prelude.{Some}
use Rattle.std.specs.Map.{lookup}
use Rattle.std.specs.Ordering.{is_eq, nat_cmp}
use Rattle.org_client.specs.RowIds.{IdsView, key_of, sum_in}
use Rattle.org_client.proofs.row_ids.RowIds.put.Goals as goal

pub returns-clause-ok : goal.returns-clause-ok
returns-clause-ok c = λ key.
    c.in_ok-insert.ensures.updates.0 key
    ∙ (λ i. cond (is_eq (nat_cmp (c.key_of.ensures.value i) key)) (Some c.args.sum) (lookup (λ k. is_eq (nat_cmp key k)) c.self.inside.sums.entries))
    ∙ ap (λ (v : IdsView). cond (is_eq (nat_cmp (key_of c.args.at) key)) (Some c.args.sum) (sum_in v key)) c.self.view_is
