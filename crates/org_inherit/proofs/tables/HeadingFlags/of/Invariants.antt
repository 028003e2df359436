-- The entries so far have their places in the tables.
use Rattle.std.proofs.Common.{◌≡◌, map, take}
use Rattle.std.specs.List.{list_any, range_with_len}
use Rattle.org_inherit.specs.Hidden.{hides}
use Rattle.org_inherit.specs.Tables.{has_category, has_tags, one_passes}
use Rattle.org_inherit.proofs.tables.HeadingFlags.of.Given as goal

abbrev pub invariant-loop-place : goal.invariant-loop-place
invariant-loop-place l = record {
  hidden : l.hidden.items ≡ map (one_passes hides l.outline) (range_with_len 0 l.place);
  tagged : l.tagged.items ≡ map (one_passes has_tags l.outline) (range_with_len 0 l.place);
  categories : l.has_categories ≡ list_any has_category (take l.place l.outline);
}
