use Rattle.std.proofs.Common.{◌≡◌, take}
use Rattle.std.specs.List.{sum_by}
use Rattle.org_page.specs.Sums.{told}
use Rattle.org_overview.specs.Charts.{minutes_at}
use Rattle.org_overview.proofs.chart.total_at.Given as goal

abbrev pub invariant-loop-file : goal.invariant-loop-file
invariant-loop-file l = l.total ≡ told (sum_by (minutes_at l.place) (take l.file-index l.files))
