use Rattle.std.proofs.Common.{arith, get_or, sym, ap, ◌∙◌}
use Rattle.orgls_text.specs.Positions.{behind_byte}
use Rattle.orgls_text.proofs.CursorLemmas.{behind_more, behind_none, few_lines, few_units}
use Rattle.orgls_text.specs.declared.cursor.Cursor.{Cursor}
use Rattle.orgls_text.proofs.cursor.cursor_on.Goals as goal

pub loop-byte-init : goal.loop-byte-init
loop-byte-init c = record {
  line = omega arith;
  character = omega arith;
  behind = sym (behind_none c.args.encoding c.args.cursor);
}

pub loop-byte-preserved : goal.loop-byte-preserved
loop-byte-preserved c =
    let e = c.args.encoding in
    let here = c.loop-byte.here in
    let byte = get_or c.args.bytes.now c.loop-byte.byte-index 0 in
    let lines = few_lines e here byte in
    let units = few_units e here byte in
    record {
      line = rw c.behind-here.ensures.value (omega (arith, lines));
      character = rw c.behind-here.ensures.value (omega (arith, units));
      behind = c.behind-here.ensures.value
          ∙ ap (λ (d : Cursor). behind_byte e d byte) c.loop-byte.invariant.behind
          ∙ sym (behind_more e c.args.cursor c.args.bytes.now c.loop-byte.byte-index c.loop-byte-test.true);
    }
