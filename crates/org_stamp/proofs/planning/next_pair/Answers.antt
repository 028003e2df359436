use Rattle.std.proofs.Common.{◌∙◌, ap}
use Rattle.std.specs.List.{prefix_len}
use Rattle.std.proofs.lemmas.List.{take_rest}
use Rattle.org_base.specs.Words.{is_space}
use Rattle.org_stamp.proofs.PairLemmas.{next_found}
use Rattle.org_stamp.proofs.planning.next_pair.Goals as goal

pub returns-clause-value : goal.returns-clause-value
returns-clause-value c =
    let line = c.args.line.now in
    next_found line c.args.at c.leading_spaces-gap.result c.pair_at.result
    (c.leading_spaces-gap.ensures.value ∙ ap (prefix_len is_space) (take_rest line c.args.at)) c.pair_at.ensures.value c.pair_at.ensures.bound
