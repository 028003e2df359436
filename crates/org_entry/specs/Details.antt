-- What few headings have (Org Syntax, "Sections").
use Rattle.std.specs.Prelude.{List, []}
use Rattle.org_base.specs.Properties.{Property}
use Rattle.org_drawer.specs.declared.clock.ClockLine.{ClockLine}
use Rattle.org_stamp.specs.declared.stamp.Found.{Found}

-- the heading's own properties, the active stamps of its title and of setting lines and plain lines, and the clocks of its
-- clock lines
pub record DetailsView : Type 0 where
  pub drawer : List Property
  pub stamps : List Found
  pub clocks : List ClockLine

-- nothing of it
abbrev pub nothing : DetailsView
nothing = record { drawer = []; stamps = []; clocks = [] }
