-- The drawer goes on among the lines that are left, as its lines so far begin it.
use Rattle.std.proofs.Common.{◌≡◌, ◌≤◌, ◌-◌, ◌++◌, drop, length}
use Rattle.std.specs.List.{concat}
use Rattle.std.specs.Option.{option_map}
use Rattle.org_amend.specs.PropertyChanges.{drawer_at, nodes_from}
use Rattle.org_lines.specs.Cuts.{lines}
use Rattle.org_amend.proofs.found_drawer.drawer_in.Given as goal

abbrev pub invariant-loop-at : goal.invariant-loop-at
invariant-loop-at l = record {
  within : l.at ≤ length l.text;
  so_far : l.at ≡ length (concat l.lines);
  all : option_map (λ d. l.lines ++ d) (nodes_from (lines (drop l.at l.text))) ≡ drawer_at (lines l.text);
}

abbrev pub decreases-loop-at : goal.decreases-loop-at
decreases-loop-at l = length l.text - l.at
