use Rattle.std.proofs.Common.{◌≡◌, drop}
use Rattle.std.specs.List.{list_any}
use Rattle.org_match.specs.Patterns.{found}
use Rattle.org_match.proofs.item_matcher.finds_tag.Given as goal

abbrev pub invariant-loop-place : goal.invariant-loop-place
invariant-loop-place g l = record {
  same : l.searcher ≡ l.fn.searcher;
  told : list_any (found l.searcher) (drop l.place (g.T.TagList.list l.tags)) ≡ list_any (found l.searcher) (g.T.TagList.list l.tags);
}
