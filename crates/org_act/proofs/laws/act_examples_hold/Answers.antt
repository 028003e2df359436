use lib.Utf8.{encode}
use Rattle.std.proofs.Common.{refl}
use Rattle.std.specs.Str.{chars, is_utf8}
use Rattle.org_act.specs.Adding.{gap_behind, spot_of}
use Rattle.org_act.specs.Lines.{heading_from, subtree_end}
use Rattle.org_act.specs.Planning.{planned_at, planned_text}
use Rattle.org_act.specs.TakingBack.{goes_back, text_before}
use Rattle.org_amend.specs.Planning.{ends_like, is_left, is_plain, left_line, says, says_under, stays, undated_line, without_pairs}
use Rattle.org_stamp.specs.Inner.{inner_of}
use Rattle.org_stamp.specs.Pair.{pairs_from}
use Rattle.org_stamp.specs.Read.{single_of}
use Rattle.org_stamp.specs.Word.{words}
use Rattle.org_act.proofs.laws.act_examples_hold.Goals as goal

pub returns : goal.returns
unfolding chars encode ends_like gap_behind goes_back heading_from inner_of is_left is_plain is_utf8 left_line pairs_from planned_at planned_text says says_under single_of spot_of stays subtree_end text_before undated_line without_pairs words
returns c = record { on_its_line = refl; on_none = refl; unscheduled = refl; not_read_so = refl; below = refl; behind_all = refl; unended = refl; two_at_once = refl; one_refused = refl; one_moved = refl; back = refl; edited = refl }
