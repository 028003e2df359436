use Rattle.std.proofs.Common.{◌≡◌, ◌++◌, drop}
use Rattle.org_page.specs.Drafts.{givens_text}
use Rattle.org_page.specs.Pieces.{attributes_text}
use Rattle.org_page.proofs.draft.attributes_of.Given as goal

abbrev pub invariant-loop-given : goal.invariant-loop-given
invariant-loop-given l = attributes_text l.attributes.items ++ givens_text (drop l.given-index l.givens) ≡ givens_text l.givens
