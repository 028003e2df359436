-- What was written, and the parts that are left, are the line.
use Rattle.std.proofs.Common.{◌≡◌, ◌++◌, drop, string_bytes}
use Rattle.std.specs.List.{flat_map}
use Rattle.org_day.specs.Lines.{line_text, span_text}
use Rattle.org_day.proofs.line.Line.whole.Given as goal

abbrev pub invariant-loop-span : goal.invariant-loop-span
invariant-loop-span l = string_bytes l.whole ++ flat_map span_text (drop l.span-index l.self.spans.items) ≡ line_text l.self
