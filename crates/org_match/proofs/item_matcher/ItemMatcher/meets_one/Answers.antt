use Rattle.std.proofs.Common.{◌≡◌, ap, false, sym}
use Rattle.org_match.specs.TagMatches.{asks_tags, item_asks_tags}
use Rattle.org_match.specs.Built.{built_item_of, built_term_of}
use Rattle.org_match.specs.declared.built.BuiltTerm.{BuiltTerm}
use Rattle.org_match.proofs.Untagged.{unmet}
use Rattle.org_match.proofs.item_matcher.ItemMatcher.meets_one.Goals as goal

pub returns-in-Compare-clause-value : goal.returns-in-Compare-clause-value
returns-in-Compare-clause-value g c =
    let none : item_asks_tags (built_item_of c.self.inside.item.now) ≡ false = ap (λ (t : BuiltTerm). asks_tags (built_term_of t)) c.in-Compare.is in
    rw (← c.self.view_is) (sym (unmet (g.T.TagList.list c.args.tags.now) (built_item_of c.self.inside.item.now) none))
