use Rattle.std.proofs.Common.{◌≡◌, arith, true, false, cond, drop, get_or, sym, ap, ◌∙◌}
use Rattle.std.proofs.lemmas.Bool.{cond-false, cond-true}
use Rattle.orgls_text.specs.Positions.{is_beyond, is_stop}
use Rattle.orgls_text.proofs.CursorLemmas.{few_lines, few_units}
use Rattle.orgls_text.proofs.OffsetLemmas.{counted_from, last_end, last_more, none_beyond}
use Rattle.orgls_text.proofs.offset.offset_of.Goals as goal
use Rattle.orgls_text.proofs.offset.offset_of.Goals.{then-is_stop, else-is_stop}

pub returns-then-is_beyond : goal.returns-then-is_beyond
returns-then-is_beyond c =
    let far : is_beyond c.loop-at.cursor.position c.args.position ≡ true = sym c.is_beyond.ensures.value ∙ c.if-is_beyond.true in
    record {
      value = sym (c.loop-at.invariant.last
          ∙ ap (counted_from c.loop-at.at c.loop-at.offset) (none_beyond c.args.encoding c.args.position c.loop-at.cursor (drop c.loop-at.at c.args.text.now) far));
    }

pub loop-at-preserved : goal.loop-at-preserved
loop-at-preserved c =
    let e = c.args.encoding in
    let here = c.loop-at.cursor in
    let byte = get_or c.args.text.now c.loop-at.at 0 in
    let lines = few_lines e here byte in
    let units = few_units e here byte in
    let near : is_beyond here.position c.args.position ≡ false = sym c.is_beyond.ensures.value ∙ c.if-is_beyond.false in
    let after : c.if-is_stop.offset ≡ cond (is_stop here byte) c.loop-at.at c.loop-at.offset = elim c.if-is_stop.branch [
      | then-is_stop w ↦ w.offset-is ∙ sym (cond-true (is_stop here byte) c.loop-at.at c.loop-at.offset (sym c.is_stop.ensures.value ∙ w.if-is_stop.true))
      | else-is_stop w ↦ w.offset-is ∙ sym (cond-false (is_stop here byte) c.loop-at.at c.loop-at.offset (sym c.is_stop.ensures.value ∙ w.if-is_stop.false))
    ] in
    record {
      line = rw c.behind-cursor.ensures.value (omega (arith, lines));
      character = rw c.behind-cursor.ensures.value (omega (arith, units));
      within = elim c.if-is_stop.branch [ then-is_stop w ↦ omega arith | else-is_stop w ↦ omega arith ];
      last = c.loop-at.invariant.last
          ∙ last_more e c.args.position here c.args.text.now c.loop-at.at c.loop-at.offset c.if-is_stop.offset c.behind-cursor.result c.loop-at-test.true near after c.behind-cursor.ensures.value;
    }

pub returns-then-is_beyond-2 : goal.returns-then-is_beyond-2
returns-then-is_beyond-2 c =
    let far : is_beyond c.loop-at.cursor.position c.args.position ≡ true = sym c.is_beyond-2.ensures.value ∙ c.if-is_beyond-2.true in
    record {
      value = sym (c.loop-at.invariant.last
          ∙ ap (counted_from c.loop-at.at c.loop-at.offset) (none_beyond c.args.encoding c.args.position c.loop-at.cursor (drop c.loop-at.at c.args.text.now) far));
    }

pub returns-else-is_beyond-2 : goal.returns-else-is_beyond-2
returns-else-is_beyond-2 c =
    let near : is_beyond c.loop-at.cursor.position c.args.position ≡ false = sym c.is_beyond-2.ensures.value ∙ c.if-is_beyond-2.false in
    record {
      value = sym (c.loop-at.invariant.last
          ∙ last_end c.args.encoding c.args.position c.loop-at.cursor c.args.text.now c.loop-at.at c.loop-at.offset c.loop-at-test.false (omega arith) near);
    }
