-- What the lines that are left make of the text so far is what all make of the first.
use Rattle.std.proofs.Common.{◌≡◌, drop}
use Rattle.std.specs.Prelude.{string_bytes}
use Rattle.org_act.specs.Several.{amended_in_turn}
use Rattle.org_act.proofs.acts.text_in_turn.Given as goal

abbrev pub invariant-loop-line : goal.invariant-loop-line
invariant-loop-line g l =
    amended_in_turn (g.A.HeadingAct.amended_on l.act) (drop l.line-index l.lines) (string_bytes l.new) ≡ amended_in_turn (g.A.HeadingAct.amended_on l.act) l.lines l.text
