-- The texts of the lines so far.
use Rattle.std.proofs.Common.{◌≡◌, ◌++◌, take, string_bytes}
use Rattle.org_layout.specs.Shown.{lines_text}
use Rattle.org_layout.proofs.text.push_lines.Given as goal

abbrev pub invariant-loop-line : goal.invariant-loop-line
invariant-loop-line l = record {
  texts : l.texts ≡ l.fn.texts;
  out : string_bytes l.out ≡ string_bytes l.fn.out ++ lines_text l.with_effort l.fn.texts (take l.line-index l.lines);
}
