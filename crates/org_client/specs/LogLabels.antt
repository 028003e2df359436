-- What a log shows before a heading (Org's log mode).
use Rattle.std.specs.Prelude.{ℕ, ◌/◌, ◌%◌, List, ◌∷◌, [], ◌++◌, Option, None, Some, codes, decimal}
use Rattle.org_cal.specs.Texts.{two}
use Rattle.org_settings.specs.Keywords.{Keyword, keyword_word}
use Rattle.org_trace.specs.Times.{entry_minutes}
use Rattle.org_trace.specs.declared.entry.LogEntry.{LogEntry}
use Rattle.org_trace.specs.declared.entry.LogEvent.{LogEvent}
use Rattle.org_trace.specs.declared.entry.LogEvent.TheVariants.{Clock, Closed, State}

-- a text in parentheses behind another
abbrev pub in_parens : List ℕ → List ℕ → List ℕ
in_parens front text = front ++ 40 ∷ text ++ 41 ∷ []

-- minutes as hours, a colon and two digits of minutes
abbrev pub hours_text : ℕ → List ℕ
hours_text minutes = decimal (minutes / 60) ++ 58 ∷ two (minutes % 60)

-- how long a clock ran up to its end; a dash where it has none
abbrev pub clock_label : LogEntry → Option ℕ → List ℕ
clock_label entry None = in_parens (codes "Clocked:   ") (codes "-")
clock_label entry (Some end) = in_parens (codes "Clocked:   ") (hours_text (entry_minutes entry))

abbrev pub log_label : List Keyword → LogEntry → LogEvent → List ℕ
log_label ks entry Closed = codes "Closed:    "
log_label ks entry (State change) = in_parens (codes "State:     ") (keyword_word ks change.to)
log_label ks entry (Clock end) = clock_label entry end
