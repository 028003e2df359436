-- At first all lines are left, and at the end none.
use Rattle.std.proofs.Common.{◌≡◌, ◌∙◌, ◌+◌, length, drop, ap, sym, subst, arith}
use Rattle.org_entry.specs.Draft.{into_entry}
use Rattle.std.specs.Prelude.{IfOk}
use Rattle.org_base.specs.Spans.{bytes_in}
use Rattle.org_entry.specs.Entry.{placed, entry_of_lines}
use Rattle.org_entry.proofs.DraftLemmas.{classes_left, bytes_left, lines_left, none_left, text_behind}
use Rattle.org_entry.proofs.QuietLemmas.{bytes_fewer, bytes_left_more, line_more, quiet_left}
use Rattle.org_lines.specs.Cuts.{lines}
use Rattle.org_lines.proofs.LineLemmas.{length_range}
use Rattle.org_entry.proofs.read.entry_in.Goals as goal
use Rattle.org_entry.proofs.read.entry_in.Goals.{in-None, in-Some+then-place-spoken+then-not-may_close}

pub loop-line-init : goal.loop-line-init
loop-line-init g c =
    let section = c.args.section in
    let text = g.T.Text.content c.args.text.now in
    let items = c.new-line-items.ensures in
    let all = c.requires.belongs in
    rw (c.into_iter-line-iterator.ensures.into_iter_gives, c.new-draft.ensures.value) (record {
      behind = omega arith;
      few = classes_left (bytes_in text section) _ _ items.lines all;
      room = bytes_left (bytes_in text section) section.len c.new-line-items.result items.joined (length_range text section.at section.len c.requires.within);
      left = items.joined;
      all = lines_left c.args.settings.now (bytes_in text section) c.args.classes.now c.new-line-items.result items.lines;
    })

pub returns-clause-value : goal.returns-clause-value
returns-clause-value g c =
    let part = bytes_in (g.T.Text.content c.args.text.now) c.args.section in
    let settings = c.args.settings.now in
    let every = placed 0 (lines part) c.args.classes.now in
    let known = c.loop-line.invariant in
    let read : into_entry c.loop-line.draft ≡ entry_of_lines settings every = elim c.match-next.branch [
      | in-None w ↦ none_left settings c.loop-line.draft c.loop-line.at c.loop-line.line-iterator _ every w.in-None.ensures.steps.0 known.all
      | in-Some+then-place-spoken+then-not-may_close w ↦ quiet_left settings c.loop-line.draft c.loop-line.at c.loop-line.line-iterator c.args.classes.now c.loop-line.place c.quiet_lines.result part every c.quiet_lines.ensures.value w.if-place-spoken.true (w.may_close.ensures.none w.if-not-may_close.true) known.left known.all
    ] in
    let all = c.requires.belongs in
    subst (λ e. IfOk c.into_entry.result (λ entry. entry ≡ e)) (read ∙ ap (λ cs. entry_of_lines settings (placed 0 (lines part) cs)) all) c.into_entry.ensures.value

pub loop-line-preserved-in_ok-add : goal.loop-line-preserved-in_ok-add
loop-line-preserved-in_ok-add g c =
    let step = rw c.in_ok-line.was at c.in-Some.ensures.steps in
    let known = c.loop-line.invariant in
    let section = bytes_in (g.T.Text.content c.args.text.now) c.args.section in
    let left = c.loop-line.line-iterator in
    let next = c.next.new.self in
    let is : c.as_slice-line.result.now ≡ step.0.bytes = c.as_slice-line.ensures.value ∙ step.2.bytes in
    let first = step.1 in
    record {
      behind = text_behind c.args.settings.now c.loop-line.draft c.add.new.self c.loop-line.at _ c.as_slice-line.result.now known.behind c.in_ok-add.ensures.ok;
      few = omega (arith, ap length first, known.few);
      room = bytes_fewer c.loop-line.at left next step.0 _ _ first is known.room;
      left = bytes_left_more c.loop-line.at left next step.0 section first known.left ∙ ap (λ l. drop (c.loop-line.at + length l) section) (sym is);
      all = line_more c.args.settings.now c.loop-line.draft c.add.new.self _ c.loop-line.at c.loop-line.place left next c.args.classes.now step.0 c.as_slice-line.result.now _ first is (omega (arith, ap length first, known.few)) c.in_ok-add.ensures.ok known.all;
    }

pub loop-line-preserved : goal.loop-line-preserved
loop-line-preserved g c =
    let step = rw c.in_ok-line.was at c.in-Some.ensures.steps in
    let known = c.loop-line.invariant in
    let section = bytes_in (g.T.Text.content c.args.text.now) c.args.section in
    let left = c.loop-line.line-iterator in
    let next = c.next.new.self in
    let is : c.as_slice-line.result.now ≡ step.0.bytes = c.as_slice-line.ensures.value ∙ step.2.bytes in
    let first = step.1 in
    record {
      behind = text_behind c.args.settings.now c.loop-line.draft c.add.new.self c.loop-line.at _ c.as_slice-line.result.now known.behind c.in_ok-add.ensures.ok;
      few = omega (arith, ap length first, known.few);
      room = bytes_fewer c.loop-line.at left next step.0 _ _ first is known.room;
      left = bytes_left_more c.loop-line.at left next step.0 section first known.left ∙ ap (λ l. drop (c.loop-line.at + length l) section) (sym is);
      all = line_more c.args.settings.now c.loop-line.draft c.add.new.self _ c.loop-line.at c.loop-line.place left next c.args.classes.now step.0 c.as_slice-line.result.now _ first is (omega (arith, ap length first, known.few)) c.in_ok-add.ensures.ok known.all;
    }
