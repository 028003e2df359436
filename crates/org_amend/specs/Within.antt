-- What is found of a section lies in it (profile).
use Rattle.std.specs.Prelude.{◌+◌, ◌≤◌, Option, IfSome}
use Rattle.org_amend.specs.Cancelled.{LiesIn}
use Rattle.org_amend.specs.declared.running.RunningClock.{RunningClock}
use Rattle.org_base.specs.declared.span.Span.{Span}

-- a clock's line lies in a section, and its stamp in its line
pub record IsWithin (section : Span) (clock : RunningClock) : Type 0 where
  pub low : section.at ≤ clock.at
  pub high : clock.at + clock.len ≤ section.at + section.len
  pub stamp_low : clock.at ≤ clock.end
  pub stamp_high : clock.end ≤ clock.at + clock.len

-- a line, if there is one, lies in a section
abbrev pub LiesInside : Span → Option Span → Type 0
LiesInside section found = IfSome found (LiesIn section)
