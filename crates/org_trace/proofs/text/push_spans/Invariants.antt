-- The rows so far, and those of the sections that are left, are all.
use Rattle.std.proofs.Common.{◌≡◌, ◌++◌, drop}
use Rattle.org_trace.specs.Sections.{span_rows}
use Rattle.org_trace.proofs.text.push_spans.Given as goal

abbrev pub invariant-loop-span : goal.invariant-loop-span
invariant-loop-span g l = record {
  place : l.heading ≡ l.span-index;
  all : l.rows.items ++ span_rows l.of (g.T.Text.content l.text) l.heading (drop l.span-index l.spans)
      ≡ l.fn.rows.items ++ span_rows l.of (g.T.Text.content l.text) 0 l.spans;
}
