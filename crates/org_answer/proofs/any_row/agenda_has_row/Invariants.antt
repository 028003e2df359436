use Rattle.std.proofs.Common.{◌≡◌, ◌+◌, ◌-◌}
use Rattle.std.specs.List.{list_any}
use Rattle.org_answer.specs.Limits.{is_row}
use Rattle.org_answer.proofs.RowLemmas.{lines_from}
use Rattle.org_layout.specs.Shown.{lines_of}
use Rattle.org_answer.proofs.any_row.agenda_has_row.Given as goal

-- the days that are left tell it
abbrev pub invariant-loop-ahead : goal.invariant-loop-ahead
invariant-loop-ahead l = list_any is_row (lines_from l.agenda (l.agenda.first + l.ahead) (l.agenda.count - l.ahead)) ≡ list_any is_row (lines_of l.agenda)
