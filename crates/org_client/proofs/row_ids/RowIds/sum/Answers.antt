-- What the map finds is what its view finds.
use Rattle.std.proofs.Common.{◌∙◌, ap}
use Rattle.org_client.specs.RowIds.{IdsView, sum_in}
use Rattle.org_client.proofs.row_ids.RowIds.sum.Goals as goal

pub returns : goal.returns
returns c = record {
  value = c.copied.ensures ∙ c.get.ensures.value ∙ ap (λ (v : IdsView). sum_in v c.args.key) c.self.view_is;
}
