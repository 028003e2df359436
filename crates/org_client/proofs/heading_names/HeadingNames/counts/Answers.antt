-- What is asked about is counted.
use Rattle.std.proofs.Common.{get_or}
use Rattle.org_client.specs.HeadingNames.{name_at}
use Rattle.org_client.proofs.heading_names.HeadingNames.counts.Goals as goal

pub returns : goal.returns
returns c = record {
  value = λ k d low. c.in_ok-count_all.ensures.ok (name_at c.args.self.now (get_or c.args.sections.now k d)) (c.in_ok-counts.ensures.value k d low);
}
