-- The rows so far, and those of the lines that are left, are all.
use Rattle.std.proofs.Common.{◌≡◌, ◌++◌, ◌+◌, ◌≤◌, length, drop}
use Rattle.org_lines.specs.Cuts.{cuts_in}
use Rattle.org_trace.specs.Sections.{cut_rows}
use Rattle.org_trace.proofs.section.push_lines.Given as goal

abbrev pub invariant-loop-line : goal.invariant-loop-line
invariant-loop-line g l = record {
  few : l.place + length l.line-iterator ≤ l.section.span.len;
  all : l.rows.items ++ cut_rows l.section l.line-iterator (drop l.place l.classes) ≡ l.fn.rows.items ++ cut_rows l.section (cuts_in (g.T.Text.run_len l.text) (g.T.Text.content l.text) l.section.span) l.classes;
}
