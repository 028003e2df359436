-- What was painted, and the parts that are left, are all.
use Rattle.std.proofs.Common.{◌≡◌, ◌++◌, drop}
use Rattle.std.specs.List.{flat_map}
use Rattle.org_day.specs.Painted.{painted_span}
use Rattle.org_day.proofs.paint.push_spans.Given as goal

abbrev pub invariant-loop-span : goal.invariant-loop-span
invariant-loop-span l = l.out.items ++ flat_map (painted_span l.background) (drop l.span-index l.spans) ≡ l.fn.out.items ++ flat_map (painted_span l.background) l.spans
