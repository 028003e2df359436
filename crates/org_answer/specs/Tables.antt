-- Clock tables as they are shown (Org manual 9.6, "The clock table").
use Rattle.std.specs.Prelude.{ℕ, List, Result, map}
use Rattle.std.specs.List.{flat_map}
use Rattle.org_cal.specs.Pieces.{pieces}
use Rattle.org_cal.specs.declared.moment.Moment.{Moment}
use Rattle.org_clocktable.specs.Counted.{Counted, counted_of}
use Rattle.org_clocktable.specs.Request.{TableRequest}
use Rattle.org_clocktable.specs.Table.{step_rows}
use Rattle.org_expression.specs.Grammar.{Expr}
use Rattle.org_inherit.specs.Scope.{Scope}
use Rattle.org_layout.specs.Shown.{step_lines_shown}
use Rattle.org_layout.specs.declared.shown.Line.{Line}
use Rattle.org_answer.specs.Views.{Answers}
use Rattle.org_answer.specs.declared.view.Answer.{Answer}

-- the lines of a step: its own, and those of its rows
unfoldable pub step_stands : TableRequest Expr → List Counted → ℕ × ℕ → List Line
step_stands table files days = step_lines_shown days (step_rows days table.most files)

-- the first and the last day of each step into which days are cut
abbrev pub steps_in : TableRequest Expr → ℕ × ℕ → List (ℕ × ℕ)
steps_in table days = pieces table.step days.1 days.0

-- the lines of these steps, one after the other
abbrev pub lines_of_steps : TableRequest Expr → List Counted → ℕ × ℕ → List Line
lines_of_steps table files days = flat_map (step_stands table files) (steps_in table days)

-- what a table asks for of files at a moment, over days that are cut by its step
abbrev pub ShowsTable : {E : Type 0} → Result Answer E → TableRequest Expr → List Scope → ℕ × ℕ → Moment → Type 0
ShowsTable result table scopes days now = Answers result table.with_effort (lines_of_steps table (map (counted_of table.expression now) scopes) days)
