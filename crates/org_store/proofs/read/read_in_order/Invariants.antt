-- The sections before a place, read.
use Rattle.std.proofs.Common.{◌≡◌, length, map, take, drop}
use Rattle.std.specs.List.{count_by}
use Rattle.org_class.specs.Changes.{start_of}
use Rattle.org_class.specs.Sections.{sections}
use Rattle.org_store.specs.Counts.{have_read}
use Rattle.org_store.specs.File.{read_section}
use Rattle.org_store.specs.Sections.{is_pending}
use Rattle.org_store.proofs.read.read_in_order.Given as goal

abbrev pub invariant-loop-section : goal.invariant-loop-section
invariant-loop-section g l = record {
  left : l.section-iterator ≡ drop (length l.all.items) l.list;
  so_far : l.all.items ≡ take (length l.all.items) (map (read_section l.context.settings.now) (sections (g.T.Text.content l.context.text.now)));
  place : l.at ≡ start_of (sections (g.T.Text.content l.context.text.now)) (length l.all.items);
  counts : l.meter ≡ have_read (count_by is_pending (take (length l.all.items) l.list)) l.fn.meter;
}
