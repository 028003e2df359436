-- A page and its titles.
use Rattle.std.specs.Prelude.{◌≡◌, ℕ, List, ◌++◌, encode_utf8_all}
use Rattle.org_page.specs.Clocked.{sums_titles}
use Rattle.org_page.specs.Days.{days_titles, today_titles, weeks_titles}
use Rattle.org_page.specs.Pieces.{page_text, titles_of}
use Rattle.org_page.specs.Rows.{rows_titles}
use Rattle.org_page.specs.Tasks.{groups_titles}
use Rattle.org_page.specs.declared.page.Page.{Page}
use Rattle.org_page.specs.declared.piece.Piece.{Piece}

-- today's rows, late ones, and those due soon
abbrev pub here_titles : Page → List (List ℕ × List ℕ)
here_titles page = today_titles page.today ++ (rows_titles page.late.items ++ rows_titles page.soon.items)

-- the titles of a page with their links: each row's once in its place, in order
abbrev pub page_titles : Page → List (List ℕ × List ℕ)
page_titles page =
    here_titles page ++ (days_titles page.days.items ++ (weeks_titles page.month.weeks.items ++ (sums_titles page.sums.rows.items ++ groups_titles page.groups.items)))

-- the text of some pieces whose titles are those of a page
abbrev pub IsPageOf : List ℕ → Page → Type 0
IsPageOf text page = (pieces : List Piece) × ((text ≡ encode_utf8_all (page_text pieces)) × (titles_of pieces ≡ page_titles page))
