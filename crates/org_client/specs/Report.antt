-- What rows are told by.
use Rattle.std.specs.Prelude.{ℕ, Bool, if◌then◌else◌, List, [], map}
use Rattle.org_client.specs.Files.{NamedText}
use Rattle.org_client.specs.RowIds.{IdsView, no_ids}
use Rattle.org_inherit.specs.Scope.{Scope}
use Rattle.org_lines.specs.Cuts.{lines, starts}

-- files, what inheritance looks at in each, the properties that are asked for, where the lines of each file begin, where that is
-- asked for, and the short ids of rows
pub record ReportView : Type 0 where
  pub files : List NamedText
  pub scopes : List Scope
  pub properties : List (List ℕ)
  pub starts : List (List ℕ)
  pub ids : IdsView

-- where the lines of a file begin
abbrev pub starts_of : NamedText → List ℕ
starts_of named = starts 0 (lines named.text)

-- the same of files, with or without these lines
abbrev pub report_of : List NamedText → List Scope → List (List ℕ) → Bool → ReportView
report_of files scopes properties has_lines =
    record { files = files; scopes = scopes; properties = properties; starts = if has_lines then map starts_of files else []; ids = no_ids }
