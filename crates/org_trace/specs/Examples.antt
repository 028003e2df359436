-- Worked examples: what the definitions say of inputs at which a wrong rule says something else.
use Rattle.std.specs.Prelude.{◌≡◌, ◌<◌, ℕ, Bool, Option, None, Some, codes, true, false}
use Rattle.org_settings.specs.Keywords.{Keyword, standard_keywords}
use Rattle.org_trace.specs.Entries.{clock_of, closed_of}
use Rattle.org_trace.specs.Order.{time_of}
use Rattle.org_trace.specs.State.{state_change}
use Rattle.org_trace.specs.Times.{end_time, entry_minutes}
use Rattle.org_trace.specs.declared.entry.LogEntry.{LogEntry}
use Rattle.org_trace.specs.declared.entry.LogEvent.TheVariants.{Clock, Closed}
use Rattle.org_stamp.specs.declared.stamp.Stamp.{Stamp}

-- a stamp of day 10 at ten past ten, active or not, and of a range its last day and time
abbrev pub stamp_of : Bool → Option (ℕ × Option ℕ) → Stamp
stamp_of active last = record { active = active; day = 10; time = Some 610; end_time = None; repeater = None; delay = None; last = last }

-- what is logged on day 10 at a time
abbrev pub entry_of : Option ℕ → Option ℕ → LogEntry
entry_of time end = record { day = 10; time = time; event = Clock end }

pub record ExamplesHold : Type 0 where
  pub change : state_change standard_keywords (codes "  - State \"DONE\"       from \"TODO\"       [2024-02-28 Wed 10:30]") ≡ Some (record { to = 1; from = Some 0 })
  -- of a heading that had no keyword Org writes none
  pub first_keyword : state_change standard_keywords (codes "- State \"TODO\"       from              [2024-02-28 Wed 10:30]") ≡ Some (record { to = 0; from = None })
  pub without_from : state_change standard_keywords (codes "- State \"DONE\" [2024-02-28 Wed]") ≡ Some (record { to = 1; from = None })
  -- one that the file no longer has
  pub old_keyword : state_change standard_keywords (codes "- State \"DONE\" from \"WAIT\" [2024-02-28 Wed]") ≡ Some (record { to = 1; from = None })
  pub unknown_keyword : state_change standard_keywords (codes "- State \"WAIT\" from \"TODO\" [2024-02-28 Wed]") ≡ None
  -- a part of a keyword is none
  pub cut_keyword : state_change standard_keywords (codes "- State \"DON\" from \"TODO\" [2024-02-28 Wed]") ≡ None
  pub other_item : state_change standard_keywords (codes "+ State \"DONE\" from \"TODO\" [2024-02-28 Wed]") ≡ None
  pub no_item : state_change standard_keywords (codes "State \"DONE\" from \"TODO\" [2024-02-28 Wed]") ≡ None
  pub unclosed : state_change standard_keywords (codes "- State \"DONE from TODO [2024-02-28 Wed]") ≡ None
  pub closed : closed_of (Some (stamp_of false None, record { at = 8; len = 22 })) ≡ Some (record { day = 10; time = Some 610; event = Closed })
  -- a date in pointed brackets is none at which a heading was closed
  pub active : closed_of (Some (stamp_of true None, record { at = 8; len = 22 })) ≡ None
  -- from ten past ten to an hour later: minute 13,570 is that of day 10 at 610
  pub clocked : clock_of (stamp_of false (Some (10, Some 670))) ≡ entry_of (Some 610) (Some 13_630)
  pub running : clock_of (stamp_of false None) ≡ entry_of (Some 610) None
  pub over_midnight : end_time (entry_of (Some 1_430) (Some 14_410)) ≡ Some 10
  pub reversed : entry_minutes (entry_of (Some 610) (Some 13_500)) ≡ 0
  pub last_of_its_day : time_of (record { file = 0; heading = 0; at = 0; entry = entry_of None None }) ≡ 15_850
