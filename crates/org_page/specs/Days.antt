-- The titles of days.
use Rattle.std.specs.Prelude.{ℕ, List, ◌++◌, map}
use Rattle.std.specs.List.{flat_map}
use Rattle.org_page.specs.Rows.{row_title, rows_titles}
use Rattle.org_page.specs.declared.day.Boxed.{Boxed}
use Rattle.org_page.specs.declared.day.Day.{Day}
use Rattle.org_page.specs.declared.day.MonthDay.{MonthDay}
use Rattle.org_page.specs.declared.day.Today.{Today}
use Rattle.org_page.specs.declared.day.Week.{Week}

abbrev pub day_titles : Day → List (List ℕ × List ℕ)
day_titles day = rows_titles day.rows.items

abbrev pub days_titles : List Day → List (List ℕ × List ℕ)
days_titles days = flat_map day_titles days

abbrev pub boxes_titles : List Boxed → List (List ℕ × List ℕ)
boxes_titles boxes = map (λ boxed. row_title boxed.row) boxes

-- rows without hours, those in boxes, and those that have none
abbrev pub today_titles : Today → List (List ℕ × List ℕ)
today_titles today = rows_titles today.whole.items ++ (boxes_titles today.boxes.items ++ rows_titles today.beside.items)

-- days of ranges, and other rows
abbrev pub cell_titles : MonthDay → List (List ℕ × List ℕ)
cell_titles day = rows_titles day.ranges.items ++ rows_titles day.rows.items

abbrev pub cells_titles : List MonthDay → List (List ℕ × List ℕ)
cells_titles days = flat_map cell_titles days

abbrev pub week_titles : Week → List (List ℕ × List ℕ)
week_titles week = cells_titles week.days.items

abbrev pub weeks_titles : List Week → List (List ℕ × List ℕ)
weeks_titles weeks = flat_map week_titles weeks
