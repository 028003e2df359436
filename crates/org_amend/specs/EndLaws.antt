-- Laws of a clock that ends (Org Syntax, "Clocks").
use Rattle.std.specs.Prelude.{◌≡◌, ◌+◌, ◌-◌, ◌≤◌, ◌<◌, ℕ, true, List, ◌∷◌, ◌++◌, length, Some, None}
use Rattle.org_amend.specs.Clocks.{end_text, first_running, minute_at, running_in}
use Rattle.org_amend.specs.Laws.{with_text}
use Rattle.org_amend.specs.declared.running.RunningClock.{RunningClock}
use Rattle.org_base.specs.Spans.{bytes_in}
use Rattle.org_base.specs.declared.span.Span.{Span}
use Rattle.org_cal.specs.Days.{IsDay}
use Rattle.org_cal.specs.declared.moment.Moment.{Moment}
use Rattle.org_cal.specs.declared.time_of_day.TheConstants.{MINUTES_PER_DAY}
use Rattle.org_class.specs.Classes.{classes_in, section_classes}
use Rattle.org_class.specs.Heading.{begins_heading}
use Rattle.org_class.specs.Sections.{ends_line}
use Rattle.org_class.specs.declared.class.Class.{Class}
use Rattle.org_class.specs.declared.class.Class.TheVariants.{Clock}
use Rattle.org_drawer.specs.Clock.{clock_of}
use Rattle.org_lines.specs.Cuts.{lines}

-- of a section one line has changed, that of the first clock that runs, and says now that this ended in a minute: all other
-- lines stay, and all lines keep their classes
pub record HasEnded (from to : ℕ) (section new : List ℕ) : Type 0 where
  pub before : List (List ℕ)
  pub line : List ℕ
  pub ended : List ℕ
  pub after : List (List ℕ)
  pub before_classes : List Class
  pub after_classes : List Class
  pub lines_were : lines section ≡ before ++ line ∷ after
  pub lines_are : lines new ≡ before ++ ended ∷ after
  pub classes_were : section_classes section ≡ before_classes ++ Clock ∷ after_classes
  pub classes_are : section_classes new ≡ before_classes ++ Clock ∷ after_classes
  pub before_size : length before_classes ≡ length before
  pub last_ends : ends_line section ≡ true → ends_line new ≡ true
  pub none_before : first_running (section_classes section) 0 0 before ≡ None
  pub ran : clock_of line ≡ Some (record { from = from; to = None })
  pub ends : clock_of ended ≡ Some (record { from = from; to = Some to })

-- where the running clock of a heading gets its end, only its line changes, and says that
abbrev pub OneClockEnds : Type 0
OneClockEnds = (text : List ℕ) (section : Span) (clock : RunningClock) (now : Moment) (minutes : ℕ) → section.at + section.len ≤ length text → begins_heading (bytes_in text section) ≡ true →
    IsDay now.day → now.minute < MINUTES_PER_DAY → running_in text section (classes_in text section) ≡ Some clock →
    HasEnded clock.from (minute_at now) (bytes_in text section) (with_text (bytes_in text section) (clock.end - section.at) (end_text now minutes))
