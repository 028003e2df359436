-- The sections so far with those that are left are all; each section so far was counted.
use Rattle.std.proofs.Common.{◌≡◌, ◌++◌, map, drop}
use Rattle.org_base.specs.Spans.{bytes_in}
use Rattle.org_class.specs.Sections.{sections}
use Rattle.org_class.specs.Ticks.{classified}
use Rattle.org_store.specs.Sections.{fresh_section}
use Rattle.org_store.proofs.classify.classify_part.Given as goal

abbrev pub invariant-loop-span : goal.invariant-loop-span
invariant-loop-span g l = record {
  all : l.all.items ++ map fresh_section (map (bytes_in (g.T.Text.content l.text)) (drop l.span-index l.span-items)) ≡ map fresh_section (sections (bytes_in (g.T.Text.content l.text) l.fn.part));
  counts : l.meter ≡ classified l.span-index l.fn.meter;
}
