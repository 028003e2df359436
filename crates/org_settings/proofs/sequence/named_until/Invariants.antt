-- The last so far, or one of the words that are left, is the last of all.
use Rattle.std.proofs.Common.{◌≡◌, ◌≤◌, map, drop}
use Rattle.org_settings.proofs.SequenceLemmas.{last_named}
use Rattle.org_settings.proofs.sequence.named_until.Given as goal

abbrev pub invariant-loop-i : goal.invariant-loop-i
invariant-loop-i l = record {
  within : l.until ≤ l.i;
  last : last_named l.until l.i (drop l.i (map (λ x. x.now) l.words)) ≡ last_named 0 0 (map (λ x. x.now) l.words);
}
