-- The tags that are left decide.
use Rattle.std.proofs.Common.{◌≡◌, map, drop}
use Rattle.std.specs.List.{list_any}
use Rattle.org_base.specs.Spans.{bytes_in}
use Rattle.org_inherit.specs.Hidden.{is_archive}
use Rattle.org_inherit.proofs.hidden.has_archive_tag.Given as goal

abbrev pub invariant-loop-tag : goal.invariant-loop-tag
invariant-loop-tag l = list_any is_archive (map (bytes_in l.entry.text) (drop l.tag-index l.tags)) ≡ list_any is_archive (map (bytes_in l.entry.text) l.tags)
