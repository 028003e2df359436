-- Worked examples: what the definitions say of inputs at which a wrong rule says something else.
use Rattle.std.specs.Prelude.{◌≡◌, [], ◌∷◌, false, true, None, Some, codes}
use Rattle.org_look.specs.Bars.{bar_text}
use Rattle.org_look.specs.Cells.{content_of}
use Rattle.org_look.specs.Cuts.{cut_text, filled_text, row_text, spread_text}
use Rattle.org_look.specs.Entries.{left_count, shown_count}
use Rattle.org_look.specs.FreeLanes.{free_lane}
use Rattle.org_look.specs.Grids.{line_width}
use Rattle.org_look.specs.Hours.{last_half}
use Rattle.org_look.specs.Ranges.{bar_if, range_bar}
use Rattle.org_look.specs.declared.cell.Content.TheVariants.{Blank, Note, Others, Row}
use Rattle.org_look.specs.declared.sign.Signs.TheVariants.{Ascii}

-- 230 151 165 is U+65E5, 230 156 172 is U+672C, and 101 204 129 is an e with an accent of its own
pub record ExamplesHold : Type 0 where
  pub whole : cut_text Ascii 4 (codes "abcd") ≡ codes "abcd"
  pub front : cut_text Ascii 4 (codes "abcde") ≡ codes "abc~"
  -- a wide character isn't halved
  pub wide : cut_text Ascii 4 (230 ∷ 151 ∷ 165 ∷ 230 ∷ 156 ∷ 172 ∷ 230 ∷ 151 ∷ 165 ∷ []) ≡ 230 ∷ 151 ∷ 165 ∷ 126 ∷ []
  -- an accent takes no column
  pub accent : cut_text Ascii 2 (101 ∷ 204 ∷ 129 ∷ 101 ∷ 101 ∷ []) ≡ 101 ∷ 204 ∷ 129 ∷ 126 ∷ []
  -- in a narrow cell a row's front alone, without a sign
  pub narrow : row_text Ascii 7 (codes "09 Stand-up") ≡ codes "09 Stan"
  pub roomy : row_text Ascii 11 (codes "09:00 Stand-up") ≡ codes "09:00 Sta~ "
  pub narrow_wide : spread_text 2 (97 ∷ 230 ∷ 151 ∷ 165 ∷ []) ≡ 97 ∷ 32 ∷ []
  -- 59 columns have seven a day, 80 ten, 88 eleven
  pub least_line : line_width 7 ≡ 59
  pub usual_line : line_width 10 ≡ 80
  pub roomy_line : line_width 11 ≡ 88
  pub spaces : filled_text Ascii 5 (230 ∷ 151 ∷ 165 ∷ []) ≡ 230 ∷ 151 ∷ 165 ∷ 32 ∷ 32 ∷ 32 ∷ []
  pub bar : bar_text Ascii false true 10 (codes "Trip") ≡ codes "[ Trip ==>"
  pub bar_cut : bar_text Ascii true false 8 (codes "Holiday") ≡ codes "< Hol~ ]"
  -- six rows fill six lines, of eight the last line counts three
  pub full : shown_count 6 0 6 ≡ 6
  pub over : shown_count 8 0 6 ≡ 5
  pub others : left_count 8 0 6 ≡ 3
  -- a bar without a line is counted with them, also where all rows would fit
  pub hidden_bar : shown_count 6 1 6 ≡ 5
  pub hidden_count : left_count 6 1 6 ≡ 2
  -- a full cell with a lane above and two notes below
  pub lane : content_of (record { lanes = 1; shown = 2; left = 5; notes = 2; height = 6 }) 0 ≡ Blank
  pub second : content_of (record { lanes = 1; shown = 2; left = 5; notes = 2; height = 6 }) 2 ≡ Row 1
  pub count : content_of (record { lanes = 1; shown = 2; left = 5; notes = 2; height = 6 }) 3 ≡ Others
  pub foot : content_of (record { lanes = 1; shown = 2; left = 5; notes = 2; height = 6 }) 5 ≡ Note 1
  -- a range of seven days that begins on a Friday has three of them in its first week; its later days there have no bar
  pub range_goes_on : range_bar 4 1 7 (codes "Trip") ≡ record { first = 4; last = 6; is_begun = false; goes_on = true; label = codes "Trip" }
  pub seen_before : bar_if 4 2 3 5 (codes "Trip") ≡ []
  -- from 9 to 11 o'clock, to half past 9, without an end, and with one that isn't later
  pub two_hours : last_half 540 (Some 660) ≡ 21
  pub half_an_hour : last_half 540 (Some 570) ≡ 18
  pub no_end : last_half 555 None ≡ 18
  pub earlier_end : last_half 1215 (Some 1140) ≡ 40
  -- of lanes that are free from the third, the first and the second day on, the second is the first one free on the second day
  pub first_free : free_lane (2 ∷ 0 ∷ 1 ∷ []) 1 ≡ 1
  pub none_free : free_lane (2 ∷ 3 ∷ []) 1 ≡ 2
