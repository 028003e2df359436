-- The parts so far are there.
use Rattle.std.proofs.Common.{◌≡◌, map, take}
use Rattle.org_base.specs.Spans.{bytes_in}
use Rattle.org_amend.proofs.wanted_tags.own_tags.Given as goal

abbrev pub invariant-loop-span : goal.invariant-loop-span
invariant-loop-span l = l.tags ≡ map (bytes_in l.line) (take l.span-index l.spans)
