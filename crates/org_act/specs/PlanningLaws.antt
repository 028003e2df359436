-- Laws of planning a heading of a text (Org Syntax, "Planning").
use Rattle.std.specs.Prelude.{◌≡◌, ◌⊎◌, ℕ, true, List, [], ◌∷◌, ◌++◌, length, Option, Some, None, Ok}
use Rattle.org_act.specs.Lines.{first_line, heading_at}
use Rattle.org_act.specs.Planning.{planned_text}
use Rattle.org_act.specs.declared.planning.Planning.{Planning}
use Rattle.org_amend.specs.PlanningLaws.{IsDate, IsStampOf, SaysElse, as_line, class_left, said}
use Rattle.org_amend.specs.declared.typed.TypedDate.{TypedDate}
use Rattle.org_class.specs.Classes.{classes}
use Rattle.org_class.specs.Drawers.{classes_below}
use Rattle.org_class.specs.Heading.{begins_heading}
use Rattle.org_class.specs.declared.class.Class.TheVariants.{Heading}
use Rattle.org_lines.specs.Cuts.{lines}
use Rattle.org_stamp.specs.Pair.{is_planning}
use Rattle.org_stamp.specs.declared.pair.PlanningKeyword.{PlanningKeyword}
use Rattle.org_stamp.specs.declared.stamp.Stamp.{Stamp}

-- a date, where one is given, is one of the calendar
abbrev pub IsDateIfAny : Option TypedDate → Type 0
IsDateIfAny None = Unit {0}
IsDateIfAny (Some date) = IsDate date

-- under a keyword a line says the stamp of a date, with the repeater and the delay that the old line has there; without a date
-- it says nothing
abbrev pub SaysDate : PlanningKeyword → Option TypedDate → List ℕ → List ℕ → Type 0
SaysDate word None old new = said word new ≡ None
SaysDate word (Some date) old new = (stamp : Stamp) × (said word new ≡ Some stamp) × IsStampOf date (said word old) stamp

-- nothing, or the first line of a text, which is a planning line
abbrev pub IsOldLine : List ℕ → List ℕ → Type 0
IsOldLine below old = (old ≡ []) ⊎ ((old ≡ first_line below) × (is_planning old ≡ true))

-- nothing, or a line feed
abbrev pub IsGap : List ℕ → Type 0
IsGap gap = (gap ≡ []) ⊎ (gap ≡ 10 ∷ [])

-- a heading was planned: under its line stands another line in the place of its planning line, or none, and says what is asked,
-- and under other keywords what was said. Nothing goes but a planning line, and all that stands before and behind it stays, and the lines behind it are read as before
pub record IsPlanned (p : Planning) (text new : List ℕ) : Type 0 where
  pub front : List ℕ
  pub heading : List ℕ
  pub gap : List ℕ
  pub old : List ℕ
  pub line : List ℕ
  pub rest : List ℕ
  pub place : heading_at text p.line ≡ Some (length front)
  pub begins : begins_heading heading ≡ true
  pub text_is : text ≡ front ++ (heading ++ (old ++ rest))
  pub old_is : IsOldLine (old ++ rest) old
  pub gap_is : IsGap gap
  pub new_is : new ≡ front ++ (heading ++ (gap ++ (line ++ rest)))
  pub says : SaysDate p.keyword p.date old line
  pub others : SaysElse p.keyword old line
  pub classes_are : classes (heading ∷ (as_line line ++ lines rest)) ≡ Heading ∷ (class_left line ++ classes_below (lines rest))

-- what planning makes of a text, where it isn't refused
abbrev pub HeadingsArePlanned : Type 0
HeadingsArePlanned = (p : Planning) (text new : List ℕ) → IsDateIfAny p.date → planned_text p text ≡ Ok new → IsPlanned p text new
