-- The rows of a log (Org's log mode; which views take expressions: profile).
use Rattle.std.specs.Prelude.{ℕ, ◌+◌, Bool, not, ◌&&◌, List, [], ◌∷◌, ◌++◌, Option, None, Some, Result, IfOk, Vec, filter, is_some, slice_get}
use Rattle.org_cal.specs.declared.moment.Moment.{Moment}
use Rattle.org_client.specs.Files.{NamedText}
use Rattle.org_client.specs.Matching.{heading_holds_at, meets}
use Rattle.org_client.specs.declared.logged.LogChoice.{LogChoice}
use Rattle.org_client.specs.declared.logged.LoggedFile.{LoggedFile}
use Rattle.org_entry.specs.declared.entry.Entry.{Entry}
use Rattle.org_expression.specs.Grammar.{Expr}
use Rattle.org_inherit.specs.Hidden.{is_hidden}
use Rattle.org_inherit.specs.Scope.{Scope}
use Rattle.org_trace.specs.Asked.{FileAsked}
use Rattle.org_trace.specs.Order.{IsByTime}
use Rattle.org_trace.specs.Sections.{text_rows}
use Rattle.org_trace.specs.declared.row.LogQuery.{LogQuery}
use Rattle.org_trace.specs.declared.row.LogRow.{LogRow}

-- of entries, the first of which has a place, whether their logs are shown: they are headings that aren't hidden
abbrev pub shown_from : List Entry → ℕ → List Entry → List Bool
shown_from es place [] = []
shown_from es place (e ∷ rest) = (is_some e.head && not (is_hidden es place)) ∷ shown_from es (place + 1) rest

-- a file of a log
abbrev pub log_file_of : LogQuery → ℕ → Scope → FileAsked
log_file_of asked file scope =
    record { file = file; keywords = scope.settings.keywords; shown = shown_from scope.entries 0 scope.entries; asked = asked }

-- the rows of a file that has a text
abbrev pub rows_of_text : LogQuery → ℕ → Scope → List ℕ → List LogRow
rows_of_text asked file scope content = text_rows (log_file_of asked file scope) content

abbrev pub log_of_text : LoggedFile → List ℕ → List LogRow
log_of_text of content = rows_of_text of.asked.now of.file of.inherit.now content

-- the same of a file, if it is there
abbrev pub rows_if_there : LogQuery → ℕ → Scope → Option NamedText → List LogRow
rows_if_there asked file scope None = []
rows_if_there asked file scope (Some named) = rows_of_text asked file scope named.text

abbrev pub file_log : LoggedFile → List NamedText → List LogRow
file_log of files = rows_if_there of.asked.now of.file of.inherit.now (slice_get files of.file)

-- those of files, the first of which stands at a place
abbrev pub files_log : LogQuery → List NamedText → ℕ → List Scope → List LogRow
files_log asked files file [] = []
files_log asked files file (scope ∷ scopes) =
    rows_if_there asked file scope (slice_get files file) ++ files_log asked files (file + 1) scopes

-- those of some rows of whose headings an expression holds
abbrev pub is_of_log : List (List Bool) → LogRow → Bool
is_of_log held row = heading_holds_at held row.file row.heading

abbrev pub log_meeting : Expr → Moment → List Scope → List LogRow → List LogRow
log_meeting expr moment scopes rows = filter (λ (row : LogRow). meets expr moment scopes row.file row.heading) rows

-- and those of which each of these expressions holds
abbrev pub chosen_log : List Expr → Moment → List Scope → List LogRow → List LogRow
chosen_log [] moment scopes rows = rows
chosen_log (expr ∷ exprs) moment scopes rows = chosen_log exprs moment scopes (log_meeting expr moment scopes rows)

-- what is chosen of the logs of files, in their order
abbrev pub log_of_choice : LogChoice → List NamedText → List Scope → List LogRow
log_of_choice choice files scopes =
    chosen_log choice.expressions.now choice.moment scopes (files_log choice.asked.now files 0 scopes)

-- it is given by time
abbrev pub GivesLog : {A E : Type 0} → Result (Vec LogRow A) E → List LogRow → Type 0
GivesLog result came = IfOk result (λ sorted. IsByTime came sorted.items)
