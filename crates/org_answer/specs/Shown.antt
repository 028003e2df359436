-- How lines are printed (profile): colours as terminals have them (ECMA-48, "SGR").
use Rattle.std.specs.Prelude.{◌≡◌, ℕ, Bool, true, false, not, ◌&&◌, if◌then◌else◌, Option, is_none, List, [], ◌∷◌, ◌++◌, codes, decimal, length, ◌==◌, ◌⊎◌, Result, OnOk, Vec}
use Rattle.org_agenda.specs.declared.row.RowKind.{RowKind}
use Rattle.org_agenda.specs.declared.row.RowKind.TheVariants.{LateSchedule, LateDeadline, OnDeadline, Warning}
use Rattle.org_visible.specs.Clean.{IsClean}
use Rattle.org_visible.specs.Visible.{visible}
use Rattle.org_visible.specs.declared.visible.Escape.TheVariants.{Caret}
use Rattle.org_answer.specs.declared.show.Form.{Form}
use Rattle.org_answer.specs.declared.show.LineOfAnswer.{LineOfAnswer}
use Rattle.org_answer.specs.declared.show.Form.TheVariants.{Plain, Places, Json, Csv, Template}
use Rattle.org_answer.specs.declared.show.PrintOptions.{PrintOptions}
use Rattle.org_answer.specs.declared.view.Answer.{Answer}
use Rattle.org_client.specs.Report.{ReportView}
use Rattle.org_layout.specs.Shown.{lines_text}
use Rattle.org_layout.specs.declared.shown.Line.{Line}
use Rattle.org_layout.specs.declared.shown.Line.TheVariants.{Day, Step, Row, Table}

-- the colour of a kind of rows: late ones are red, warnings yellow, and so are deadlines on their days, if they are due
abbrev pub kind_color : Bool → RowKind → List ℕ
kind_color is_due LateSchedule = 27 ∷ codes "[31m"
kind_color is_due LateDeadline = 27 ∷ codes "[31m"
kind_color is_due Warning = 27 ∷ codes "[33m"
kind_color is_due OnDeadline = if is_due then 27 ∷ codes "[33m" else []
kind_color is_due _ = []

-- days are bold
abbrev pub color_of : Bool → Line → List ℕ
color_of is_due (Day day) = 27 ∷ codes "[1m"
color_of is_due (Step first last) = 27 ∷ codes "[1m"
color_of is_due (Row shown) = kind_color is_due shown.row.kind
color_of is_due (Table row) = []

abbrev pub color : PrintOptions → Bool → Line → List ℕ
color look is_due line = if look.is_colored then color_of is_due line else []

-- a text, without control characters where they are to be seen
abbrev pub shown_text : Bool → List ℕ → List ℕ
shown_text is_seen text = if is_seen then visible Caret text else text

-- a line in a colour
abbrev pub shown_line : List ℕ → Bool → List ℕ → List ℕ
shown_line color is_seen text = color ++ shown_text is_seen text ++ (if length color == 0 then [] else 27 ∷ codes "[0m") ++ 10 ∷ []

-- a line of an answer as it is printed
abbrev pub line_in : PrintOptions → LineOfAnswer → List ℕ
line_in look shown = shown_line (color look shown.is_due shown.line.now) look.is_seen shown.text.now

-- the text of a view is printed as it stands: without ids and colours, into a pipe, and whole
abbrev pub is_bare_form : Form → Bool → Bool → Bool → Option ℕ → Bool
is_bare_form Plain ids colored seen limit = not ids && not colored && not seen && is_none limit
is_bare_form _ ids colored seen limit = false

abbrev pub is_bare : PrintOptions → Bool
is_bare look = is_bare_form look.form look.has_ids look.is_colored look.is_seen look.limit

-- a title as it is printed: bold where colours are asked for
abbrev pub title_in : PrintOptions → List ℕ → List ℕ
title_in look title = shown_line (if look.is_colored then 27 ∷ codes "[1m" else []) look.is_seen title

-- that text, over the files of the rows
abbrev pub bare_text : Answer → ReportView → List ℕ
bare_text answer files = lines_text answer.with_effort files.scopes answer.lines.items

-- no control character of a file may stand in what is printed in this form
abbrev pub is_safe : Form → Bool → Bool
is_safe Plain is_seen = is_seen
is_safe Places is_seen = is_seen
is_safe Json is_seen = true
is_safe Csv is_seen = true
is_safe (Template template) is_seen = true

abbrev pub IsSafe : PrintOptions → Type 0
IsSafe look = is_safe look.form look.is_seen ≡ true

-- one of our colours, or none
abbrev pub IsColor : List ℕ → Type 0
IsColor color = (color ≡ []) ⊎ ((is_due : Bool) × (line : Line) × (color ≡ color_of is_due line))

-- what stands before a colour of ours, and a text after it: neither has a control character
pub record IsCleanLine (bytes : List ℕ) : Type 0 where
  pub front : List ℕ
  pub color : List ℕ
  pub text : List ℕ
  pub clean_front : IsClean front
  pub is_color : IsColor color
  pub clean_text : IsClean text
  pub made : bytes ≡ front ++ shown_line color false text

-- nothing but such lines
pub data AreCleanLines : List ℕ → Type 0 where
  no_line : AreCleanLines []
  one_more : (bytes line : List ℕ) → AreCleanLines bytes → IsCleanLine line → AreCleanLines (bytes ++ line)

-- such lines stay such lines
abbrev pub KeepsClean : {T E A : Type 0} → Result T E → Vec ℕ A → Vec ℕ A → Type 0
KeepsClean result old new = AreCleanLines old.items → OnOk result (AreCleanLines new.items)

-- a text without control characters after others
pub record AddsClean (old new : List ℕ) : Type 0 where
  pub text : List ℕ
  pub clean : IsClean text
  pub added : new ≡ old ++ text

-- the number of a line after a file's name
abbrev pub number_text : ℕ → Bool → List ℕ
number_text number is_spaced = 58 ∷ decimal number ++ 58 ∷ (if is_spaced then 32 ∷ [] else [])
