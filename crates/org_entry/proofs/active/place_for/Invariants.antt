use Rattle.std.proofs.Common.{◌≡◌, ◌++◌, take, drop}
use Rattle.org_entry.specs.Active.{put}
use Rattle.org_entry.specs.declared.active.EntryStamp.{EntryStamp}
use Rattle.org_entry.proofs.active.place_for.Given as goal

-- the stamp goes after those so far
abbrev pub invariant-loop-place : goal.invariant-loop-place
invariant-loop-place l = (s : EntryStamp) → s.at ≡ l.at → put s l.own ≡ take l.place l.own ++ put s (drop l.place l.own)
