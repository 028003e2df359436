-- The setting lines are the same.
use Rattle.std.proofs.Common.{ap}
use Rattle.org_settings.specs.Settings.{settings_of}
use Rattle.org_store.proofs.file.File.new_settings.Goals as goal

pub returns-then-branch-clause-value : goal.returns-then-branch-clause-value
returns-then-branch-clause-value g c = rw (← c.self.view_is) (ap settings_of (c.in_ok-keeps_setting_lines.ensures.same c.if-branch.true))
