-- One line more.
use Rattle.std.proofs.Common.{◌++◌, take, append_assoc, ap, sym, ◌∙◌, string_bytes}
use Rattle.org_layout.proofs.More.{texts_more}
use Rattle.org_layout.specs.Shown.{line_text, lines_text}
use Rattle.org_layout.proofs.text.push_lines.Goals as goal

pub loop-line-preserved : goal.loop-line-preserved
loop-line-preserved c =
    let text = line_text c.args.with_effort c.args.texts.now in
    let pushed = rw c.loop-line.invariant.texts at c.in_ok-push.ensures.ok in
    record {
      texts = c.push.ensures.unchanged ∙ c.loop-line.invariant.texts;
      out =
          pushed
          ∙ ap (λ z. z ++ text c.line-item.result) c.loop-line.invariant.out
          ∙ append_assoc (string_bytes c.args.out.now) (lines_text c.args.with_effort c.args.texts.now (take c.loop-line.line-index c.args.lines.now)) (text c.line-item.result)
          ∙ ap (λ z. string_bytes c.args.out.now ++ z) (sym (texts_more text c.args.lines.now c.loop-line.line-index c.line-item.result c.loop-line-test.true c.line-item.is));
    }
