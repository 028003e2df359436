use Rattle.std.proofs.Common.{◌≡◌, ◌++◌, drop}
use Rattle.org_page.specs.Drafts.{lents_text}
use Rattle.org_page.specs.Pieces.{page_text, titles_of}
use Rattle.org_page.proofs.draft.Draft.put.Given as goal

abbrev pub invariant-loop-lent : goal.invariant-loop-lent
invariant-loop-lent l =
    (page_text l.self.pieces.items ++ lents_text (drop l.lent-index l.lents) ≡ page_text l.fn.self.pieces.items ++ lents_text l.lents)
    × (titles_of l.self.pieces.items ≡ titles_of l.fn.self.pieces.items)
