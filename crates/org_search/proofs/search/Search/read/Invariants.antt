use Rattle.std.proofs.Common.{◌≡◌, map, take}
use Rattle.org_base.specs.Results.{lent_in}
use Rattle.org_search.specs.Built.{asked_of}
use Rattle.org_search.specs.Typed.{typed_of}
use Rattle.org_search.proofs.search.Search.read.Given as goal

abbrev pub invariant-loop-word : goal.invariant-loop-word
invariant-loop-word l = map asked_of l.terms.items ≡ map typed_of (lent_in (take l.word-index l.words))
