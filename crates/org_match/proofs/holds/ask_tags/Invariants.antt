use Rattle.std.proofs.Common.{◌≡◌, drop, map}
use Rattle.org_match.specs.TagMatches.{ask_tags}
use Rattle.org_match.specs.Built.{built_item_of}
use Rattle.org_match.proofs.holds.ask_tags.Given as goal

abbrev pub invariant-loop-item : goal.invariant-loop-item
invariant-loop-item l = ask_tags (map built_item_of (drop l.item-index l.items)) ≡ ask_tags (map built_item_of l.items)
