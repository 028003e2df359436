-- What the map finds is what its view finds.
use Rattle.std.proofs.Common.{◌∙◌, ap}
use Rattle.org_ids.specs.Counts.{number_of}
use Rattle.org_ids.proofs.CountLemmas.{count-seen}
use Rattle.org_ids.proofs.counts.NameCounts.number.Goals as goal

pub returns : goal.returns
returns c = record {
  value = c.copied.ensures ∙ c.get.ensures.value ∙ count-seen _ c.self.inside.by_name.entries ∙ ap (λ p. number_of p c.args.name.now) c.self.view_is;
}
