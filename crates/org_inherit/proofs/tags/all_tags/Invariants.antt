-- The tags of the lineage's entries so far are there.
use Rattle.std.proofs.Common.{◌≡◌, ◌++◌, fold, take, []}
use Rattle.std.specs.List.{flat_map}
use Rattle.org_inherit.specs.Tags.{with_tag, own_tags_at, lineage}
use Rattle.org_inherit.proofs.tags.all_tags.Given as goal

abbrev pub invariant-loop-source : goal.invariant-loop-source
invariant-loop-source l = l.tags ≡ fold with_tag [] (l.file_tags ++ flat_map (own_tags_at l.outline) (take l.source-index (lineage l.outline l.place)))
