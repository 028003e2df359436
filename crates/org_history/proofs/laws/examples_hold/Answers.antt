use Rattle.std.proofs.Common.{refl}
use Rattle.org_history.specs.Bytes.{history_at, past_at, piece_at}
use Rattle.org_history.specs.Changes.{text_before}
use Rattle.org_history.proofs.laws.examples_hold.Goals as goal

pub returns : goal.returns
unfolding history_at past_at piece_at text_before
returns c = record { low_first = refl; too_short = refl; piece = refl; too_long = refl; empty = refl; another = refl; before = refl; not_there = refl; past_end = refl }
