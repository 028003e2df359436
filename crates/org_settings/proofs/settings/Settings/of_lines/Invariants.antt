use Rattle.std.proofs.Common.{◌≡◌, drop}
use Rattle.org_settings.specs.Draft.{nothing_said, with_lines}
use Rattle.org_settings.proofs.settings.Settings.of_lines.Given as goal

-- what was said so far, and what the lines left say
abbrev pub invariant-loop-place : goal.invariant-loop-place
invariant-loop-place l = with_lines l.said (drop l.place l.lines) ≡ with_lines nothing_said l.lines
