use Rattle.std.proofs.Common.{◌∙◌, ap, sym}
use Rattle.org_expression.specs.Grammar.{Expr}
use Rattle.org_match.specs.TagMatches.{ask_tags, tag_matches}
use Rattle.org_match.specs.Holds.{tag_items}
use Rattle.org_match.proofs.Untagged.{either_none, matches_alike}
use Rattle.org_match.proofs.holds.Matcher.test.Goals as goal

pub test_with-requires : goal.test_with-requires
test_with-requires g c = record {
  known =
      c.as_slice.ensures.value ∙ c.in_ok-tags_found.ensures.value ∙ either_none _
      ∙ matches_alike _ _ c.self.inside.asks_tags (tag_items c.args.self.now) (c.self.invariant.tags ∙ ap (λ (e : Expr). ask_tags (tag_items e)) c.self.view_is) c.in_ok-tags.ensures.value
      ∙ ap (λ (e : Expr). tag_matches (g.F.Facts.tags c.args.facts.now) (tag_items e)) (sym c.in_ok-tags_found.ensures.unchanged);
}
