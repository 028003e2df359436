-- The parts so far are there.
use Rattle.std.proofs.Common.{◌≡◌, map, take}
use Rattle.org_base.specs.Spans.{bytes_in}
use Rattle.org_inherit.proofs.tags.parts.Given as goal

abbrev pub invariant-loop-span : goal.invariant-loop-span
invariant-loop-span l = l.parts ≡ map (bytes_in l.entry.text) (take l.span-index l.spans)
