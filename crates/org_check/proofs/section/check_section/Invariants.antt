-- What is said so far, and the marks of the lines that are left, are all.
use Rattle.std.proofs.Common.{◌≡◌, ◌++◌, ◌+◌, ◌≤◌, length, drop}
use Rattle.org_lines.specs.Cuts.{cuts_in}
use Rattle.org_check.specs.Marks.{cut_marks}
use Rattle.org_check.specs.Said.{said}
use Rattle.org_check.proofs.section.check_section.Given as goal

abbrev pub invariant-loop-line : goal.invariant-loop-line
invariant-loop-line g l = record {
  few : l.place + length l.line-iterator ≤ l.fn.section.len;
  all : said l.found ++ cut_marks l.line-iterator (drop l.place l.classes) ≡ said l.fn.found ++ cut_marks (cuts_in (g.T.Text.run_len l.text) (g.T.Text.content l.text) l.fn.section) l.classes;
}
