-- Outlines of texts (Org Syntax, "Headings and Sections").
use Rattle.std.specs.Prelude.{◌≡◌, ◌≤◌, ℕ, List, length}
use Rattle.org_cal.specs.declared.day.TheConstants.{LAST_DAY}
use Rattle.org_entry.specs.Entry.{entries_of}
use Rattle.org_entry.specs.declared.entry.Entry.{Entry}
use Rattle.org_settings.specs.Settings.{FileSettings}
use Rattle.org_text.specs.Replace.{max_bytes}
use Rattle.org_sum.specs.declared.measure.Measure.{Measure}
use Rattle.org_sum.specs.declared.measure.Measure.TheVariants.{Clocks, Efforts}

-- these are the entries of one text, which is no longer than texts may be
pub record AreOfText (es : List Entry) : Type 0 where
  pub settings : FileSettings
  pub text : List ℕ
  pub short : length text ≤ max_bytes
  pub are : es ≡ entries_of settings text

-- a period that is measured ends within the calendar
abbrev pub IsOfCalendar : Measure → Type 0
IsOfCalendar (Clocks period) = period.last ≤ LAST_DAY
IsOfCalendar Efforts = Unit {0}
