-- What is closed so far says nothing of what stands up to there.
use Rattle.std.proofs.Common.{◌≡◌, ◌≤◌, ℕ, [], length, take}
use Rattle.org_agenda.specs.TagMatches.{last_up_to}
use Rattle.org_agenda.proofs.tag_matches.TagMatches.count_open.Given as goal

abbrev pub invariant-loop-kept : goal.invariant-loop-kept
invariant-loop-kept l = record {
  within : l.kept ≤ length l.self;
  same : (m : ℕ) → m ≤ l.up_to → last_up_to (take l.kept l.self) m [] ≡ last_up_to l.self m [];
}

abbrev pub decreases-loop-kept : goal.decreases-loop-kept
decreases-loop-kept l = l.kept
