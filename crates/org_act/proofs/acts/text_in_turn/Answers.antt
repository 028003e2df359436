-- What is refused on a line is refused on all.
use Rattle.std.proofs.Common.{◌∙◌, ap, drop, drop-cons, get_or, suc, sym}
use Rattle.std.specs.Prelude.{string_bytes}
use Rattle.org_act.specs.Several.{amended_in_turn, if_text, on_text}
use Rattle.org_act.proofs.acts.text_in_turn.Goals as goal

pub returns-in-Err : goal.returns-in-Err
returns-in-Err g c =
    let amended_on = g.A.HeadingAct.amended_on c.args.act.now in
    let place = c.loop-line.line-index in
    let lines = c.args.lines.now in
    let line = get_or lines place 0 in
    let text = string_bytes c.loop-line.new in
    record {
      value = λ apart.
          sym c.loop-line.invariant
          ∙ (ap (λ left. amended_in_turn amended_on left text) (drop-cons lines place 0 c.loop-line-test.true)
          ∙ ap (on_text (amended_in_turn amended_on (drop (suc place) lines)))
          (ap (λ t. if_text (amended_on line t)) (sym c.as_str.ensures.value) ∙ c.in-Err.ensures.value apart));
    }
