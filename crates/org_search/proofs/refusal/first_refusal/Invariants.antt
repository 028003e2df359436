use Rattle.std.proofs.Common.{◌≡◌, drop}
use Rattle.org_base.specs.Results.{lent_in}
use Rattle.org_search.specs.Refused.{first_refusal}
use Rattle.org_search.proofs.refusal.first_refusal.Given as goal

abbrev pub invariant-loop-word : goal.invariant-loop-word
invariant-loop-word l = first_refusal (lent_in (drop l.word-index l.words)) ≡ first_refusal (lent_in l.words)
