-- The open piece has no separator, and the pieces so far with those from its start on are all.
use Rattle.std.proofs.Common.{◌≡◌, ◌≤◌, ◌-◌, ◌++◌, true, map, take, drop}
use Rattle.org_settings.specs.Pieces.{pieces}
use Rattle.org_settings.proofs.PieceLemmas.{are_letters}
use Rattle.org_settings.proofs.pieces.pieces.Given as goal

abbrev pub invariant-loop-i : goal.invariant-loop-i
invariant-loop-i l = record {
  short : l.start ≤ l.i;
  letters : are_letters l.also (take (l.i - l.start) (drop l.start l.text)) ≡ true;
  all : map (λ x. x.now) l.found.items ++ pieces l.also (drop l.start l.text) ≡ pieces l.also l.text;
}
