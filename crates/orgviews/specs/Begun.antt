-- The state with which a run begins (profile).
use Rattle.std.specs.Prelude.{[]}
use Rattle.org_base.specs.declared.profile.Profile.{Profile}
use Rattle.org_cal.specs.declared.moment.Moment.{Moment}
use Rattle.org_engine.specs.World.{State, empty_world}

-- no files and no pins, at this moment, in this profile, and no serial was given
abbrev pub begun : Moment → Profile → State
begun moment profile = record { world = record (empty_world moment) { profile = profile }; pins = []; serial = 0 }
