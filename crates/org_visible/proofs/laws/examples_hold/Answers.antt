use Rattle.std.proofs.Common.{refl}
use Rattle.org_visible.specs.Visible.{visible}
use Rattle.org_visible.proofs.laws.examples_hold.Goals as goal

pub returns : goal.returns
unfolding visible
returns c = record { feed = refl; second = refl; caret = refl; others = refl; turned = refl; hidden = refl; beside = refl; leaning = refl; again = refl; turned_json = refl; hidden_json = refl; fields = refl; questions = refl; cut = refl; marks = refl; no_marks = refl }
