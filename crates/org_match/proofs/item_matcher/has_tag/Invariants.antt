use Rattle.std.proofs.Common.{◌≡◌, bytes_eq, drop}
use Rattle.std.specs.List.{list_any}
use Rattle.org_match.proofs.item_matcher.has_tag.Given as goal

abbrev pub invariant-loop-place : goal.invariant-loop-place
invariant-loop-place g l = list_any (bytes_eq l.name) (drop l.place (g.T.TagList.list l.tags)) ≡ list_any (bytes_eq l.name) (g.T.TagList.list l.tags)
