use Rattle.std.proofs.Common.{◌≡◌, drop}
use Rattle.org_search.specs.Holds.{matches}
use Rattle.org_search.proofs.scan.some_match.Given as goal

abbrev pub invariant-loop-term : goal.invariant-loop-term
invariant-loop-term l = record {
  same : l.terms ≡ l.fn.terms;
  told : matches (drop l.term-index l.terms) l.line ≡ matches l.terms l.line;
}
