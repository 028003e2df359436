-- The numbers of what several crates speak of (profile).
use Rattle.std.specs.Prelude.{◌≡◌}
use Rattle.org_base.specs.declared.limits.TheConstants.{MOST_DAYS, MOST_FILES}

-- there are at most 256 files, and an agenda has at most 366 days
abbrev pub LimitsAreNamed : Type 0
LimitsAreNamed = (MOST_FILES ≡ 256) × (MOST_DAYS ≡ 366)
