-- The parts so far, and those that are left after the open one, are all.
use Rattle.std.proofs.Common.{◌≡◌, ◌≤◌, ◌++◌}
use Rattle.org_head.specs.Tags.{spans_from}
use Rattle.org_head.proofs.SpanLemmas.{spans_left}
use Rattle.org_head.proofs.spans.Spans.push_pieces.Given as goal

abbrev pub invariant-loop-i : goal.invariant-loop-i
invariant-loop-i l = record {
  short : l.start ≤ l.i;
  all : l.self ++ spans_left l.at l.start l.i l.text ≡ l.fn.self ++ spans_from l.at 0 l.text;
}
