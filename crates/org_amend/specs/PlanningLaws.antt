-- Laws of the line under a heading (Org Syntax, "Planning").
use Rattle.std.specs.Prelude.{◌≡◌, ◌<◌, ℕ, true, false, if◌then◌else◌, List, [], ◌∷◌, ◌++◌, get_or, Option, Some, None, IfSome, IfNone}
use Rattle.std.specs.Option.{option_and_then, option_map, option_or}
use Rattle.org_amend.specs.Planning.{dated_line, undated_line}
use Rattle.org_amend.specs.declared.typed.TypedDate.{TypedDate}
use Rattle.org_cal.specs.Days.{IsDay}
use Rattle.org_cal.specs.declared.time_of_day.TheConstants.{MINUTES_PER_DAY}
use Rattle.org_class.specs.Classes.{classes}
use Rattle.org_class.specs.Drawers.{classes_below}
use Rattle.org_class.specs.Heading.{begins_heading}
use Rattle.org_class.specs.declared.class.Class.{Class}
use Rattle.org_class.specs.declared.class.Class.TheVariants.{Heading, Plain, Planning as PlanningLine}
use Rattle.org_drawer.specs.Planning.{is_same, planning_of, stamp_under}
use Rattle.org_drawer.specs.declared.planning.Planning.{Planning}
use Rattle.org_stamp.specs.CanPrint.{IsRepeater}
use Rattle.org_stamp.specs.Pair.{is_planning}
use Rattle.org_stamp.specs.declared.pair.PlanningKeyword.{PlanningKeyword}
use Rattle.org_stamp.specs.declared.stamp.Stamp.{Stamp}

-- a day of the calendar with times of a day, of which none ends that doesn't begin, and with a repeater and a delay that stamps
-- may have
pub record IsDate (date : TypedDate) : Type 0 where
  pub day : IsDay date.day
  pub time : IfSome date.time (λ t. t < MINUTES_PER_DAY)
  pub end_time : IfSome date.end_time (λ t. t < MINUTES_PER_DAY)
  pub end_of_start : IfNone date.time (date.end_time ≡ None)
  pub repeater : IfSome date.repeater IsRepeater
  pub delay : IfSome date.delay (λ d. d.n < 10000)

-- the stamp that planning has under a keyword
abbrev pub stamp_of_planning : PlanningKeyword → Option Planning → Option Stamp
stamp_of_planning word None = None
stamp_of_planning word (Some planning) = option_map (λ s. s.0) (stamp_under word planning)

-- the stamp that a line says under a keyword, where it is read as a planning line
abbrev pub said : PlanningKeyword → List ℕ → Option Stamp
said word line = stamp_of_planning word (planning_of line)

-- the active stamp of a date, with the repeater and the delay of an old stamp, unless the date has others, and no range
pub record IsStampOf (date : TypedDate) (old : Option Stamp) (s : Stamp) : Type 0 where
  pub active : s.active ≡ true
  pub day : s.day ≡ date.day
  pub time : s.time ≡ date.time
  pub end_time : s.end_time ≡ date.end_time
  pub repeater : s.repeater ≡ option_or date.repeater (option_and_then (λ o. o.repeater) old)
  pub delay : s.delay ≡ option_or date.delay (option_and_then (λ o. o.delay) old)
  pub last : s.last ≡ None

-- under each other keyword a new line says what the old one says
abbrev pub SaysElse : PlanningKeyword → List ℕ → List ℕ → Type 0
SaysElse word old new = (other : PlanningKeyword) → is_same word other ≡ false → said other new ≡ said other old

-- under the keyword a new line says the date, and under each other keyword what the old one says
pub record IsDated (word : PlanningKeyword) (date : TypedDate) (line new : List ℕ) : Type 0 where
  pub stamp : Stamp
  pub said_is : said word new ≡ Some stamp
  pub is_of : IsStampOf date (said word line) stamp
  pub others : SaysElse word line new

-- a line that gets a date says it, and all else that it said
abbrev pub DatesAreSaid : Type 0
DatesAreSaid = (word : PlanningKeyword) (date : TypedDate) (line end new : List ℕ) → IsDate date → dated_line word date line end ≡ Some new → IsDated word date line new

-- a line that loses a keyword says nothing under it, and all else that it said
abbrev pub LostStampsAreUnsaid : Type 0
LostStampsAreUnsaid = (word : PlanningKeyword) (line next left : List ℕ) → undated_line word line next ≡ Some left → (said word left ≡ None) × SaysElse word line left

-- a line that gets a date is the planning line of its heading, and the lines behind it are read as behind any planning line
abbrev pub DatedLinesArePlanning : Type 0
DatedLinesArePlanning = (word : PlanningKeyword) (date : TypedDate) (line end new h : List ℕ) (ls : List (List ℕ)) → IsDate date → begins_heading h ≡ true →
    dated_line word date line end ≡ Some new → classes (h ∷ new ∷ ls) ≡ Heading ∷ PlanningLine ∷ classes_below ls

-- what is left of a line, as a line, or none where nothing is left
abbrev pub as_line : List ℕ → List (List ℕ)
as_line [] = []
as_line (b ∷ bs) = (b ∷ bs) ∷ []

-- the class of what is left: of a planning line, or of text
abbrev pub class_left : List ℕ → List Class
class_left [] = []
class_left (b ∷ bs) = (if is_planning (b ∷ bs) then PlanningLine else Plain) ∷ []

-- what is left of a planning line is one or is text, and the lines behind it are read as before
abbrev pub OtherLinesStay : Type 0
OtherLinesStay = (word : PlanningKeyword) (line left h : List ℕ) (ls : List (List ℕ)) → begins_heading h ≡ true →
    undated_line word line (get_or ls 0 []) ≡ Some left → classes (h ∷ (as_line left ++ ls)) ≡ Heading ∷ (class_left left ++ classes_below ls)
