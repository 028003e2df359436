-- The parts so far are there.
use Rattle.std.proofs.Common.{◌≡◌, fold, map, take}
use Rattle.org_base.specs.Spans.{bytes_in}
use Rattle.org_inherit.specs.Tags.{with_tag}
use Rattle.org_inherit.proofs.first_tags.FirstTags.add_parts.Given as goal

abbrev pub invariant-loop-span : goal.invariant-loop-span
invariant-loop-span l = l.self ≡ fold with_tag l.initial.self (map (bytes_in l.entry.text) (take l.span-index l.parts))
