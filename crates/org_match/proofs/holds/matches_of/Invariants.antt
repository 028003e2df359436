-- The matches so far, and those of the items that are left, are all.
use Rattle.std.proofs.Common.{◌≡◌, ◌++◌, drop}
use Rattle.org_match.specs.TagMatches.{either, tag_matches}
use Rattle.org_match.proofs.holds.matches_of.Given as goal

abbrev pub invariant-loop-place : goal.invariant-loop-place
invariant-loop-place g l = record {
  same : l.items ≡ l.fn.items;
  all : l.tags_found ++ either (drop l.place l.before) (tag_matches (g.T.TagList.list l.tags) (drop l.place l.items)) ≡ either l.before (tag_matches (g.T.TagList.list l.tags) l.items);
}
