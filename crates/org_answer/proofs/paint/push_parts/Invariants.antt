-- The line is painted up to the rest of it.
use denote.Shadow.{shadow}
use denote.Text.{Utf8}
use Rattle.org_answer.proofs.PaintedLemmas.{IsPaintedUpTo}
use Rattle.org_answer.proofs.paint.push_parts.Given as goal

abbrev pub invariant-loop-stain : goal.invariant-loop-stain
invariant-loop-stain l = record {
  utf8 : shadow (Utf8 l.rest);
  painted : IsPaintedUpTo l.place.is_seen l.line l.rest l.fn.out.items l.out.items;
}
