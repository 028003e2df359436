-- Rows of any view.
use Rattle.std.specs.Prelude.{ℕ, Option, None, Some}
use Rattle.org_client.specs.declared.rows.ViewRow.{ViewRow}
use Rattle.org_client.specs.declared.rows.ViewRow.TheVariants as view
use Rattle.org_clocktable.specs.declared.row.Of.{Of}
use Rattle.org_clocktable.specs.declared.row.Of.TheVariants as of

-- the places of the file and the heading of a row of a clock table, if it is one of a heading
abbrev pub heading_in : Of → Option (ℕ × ℕ)
heading_in of.All = None
heading_in (of.File file) = None
heading_in (of.Heading file place level) = Some (file, place)

-- the same of any row
abbrev pub heading_of : ViewRow → Option (ℕ × ℕ)
heading_of (view.Row shown) = Some (shown.row.file, shown.row.heading)
heading_of (view.Sum shown) = heading_in shown.row.of
heading_of (view.Clock shown) = Some (shown.row.file, shown.row.heading)
heading_of (view.Log row) = Some (row.file, row.heading)
