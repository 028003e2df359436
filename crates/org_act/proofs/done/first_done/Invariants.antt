-- None of the keywords so far is the one.
use Rattle.std.proofs.Common.{◌≡◌, drop}
use Rattle.org_act.specs.Completing.{first_done}
use Rattle.org_act.proofs.done.first_done.Given as goal

abbrev pub invariant-loop-place : goal.invariant-loop-place
invariant-loop-place l = first_done l.first 0 l.settings.keywords ≡ first_done l.first l.place (drop l.place l.settings.keywords)
