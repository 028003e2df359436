-- No bar stands among the words so far.
use Rattle.std.proofs.Common.{◌≡◌, ◌+◌, map, drop}
use Rattle.org_settings.specs.Keywords.{bar_place}
use Rattle.org_settings.proofs.sequence.bar_place.Given as goal

abbrev pub invariant-loop-i : goal.invariant-loop-i
invariant-loop-i l = l.i + bar_place (drop l.i (map (λ x. x.now) l.words)) ≡ bar_place (map (λ x. x.now) l.words)
