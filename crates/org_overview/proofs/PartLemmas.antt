-- Each row is in one part.
use Rattle.std.proofs.Common.{ℕ, refl}
use Rattle.std.specs.Prelude.{Option, None, Some}
use Rattle.org_agenda.specs.declared.row.RowKind.{RowKind}
use Rattle.org_agenda.specs.declared.row.RowKind.TheVariants.{Listed, OnDay, InRange, OnSchedule, LateSchedule, OnDeadline, Warning, LateDeadline}
use Rattle.org_overview.specs.Laws.{IsInOne, RowsAreInOnePart}

by : (kind : RowKind) (start end : Option ℕ) (number of file heading at : ℕ) →
    IsInOne (record { kind = kind; start = start; end = end; number = number; of = of; file = file; heading = heading; stamp_at = at })
by Listed None end number of file heading at = record { day = refl; cell = refl; hours = refl }
by Listed (Some s) end number of file heading at = record { day = refl; cell = refl; hours = refl }
by OnDay None end number of file heading at = record { day = refl; cell = refl; hours = refl }
by OnDay (Some s) end number of file heading at = record { day = refl; cell = refl; hours = refl }
by InRange None end number of file heading at = record { day = refl; cell = refl; hours = refl }
by InRange (Some s) end number of file heading at = record { day = refl; cell = refl; hours = refl }
by OnSchedule None end number of file heading at = record { day = refl; cell = refl; hours = refl }
by OnSchedule (Some s) end number of file heading at = record { day = refl; cell = refl; hours = refl }
by LateSchedule None end number of file heading at = record { day = refl; cell = refl; hours = refl }
by LateSchedule (Some s) end number of file heading at = record { day = refl; cell = refl; hours = refl }
by OnDeadline None end number of file heading at = record { day = refl; cell = refl; hours = refl }
by OnDeadline (Some s) end number of file heading at = record { day = refl; cell = refl; hours = refl }
by Warning None end number of file heading at = record { day = refl; cell = refl; hours = refl }
by Warning (Some s) end number of file heading at = record { day = refl; cell = refl; hours = refl }
by LateDeadline None end number of file heading at = record { day = refl; cell = refl; hours = refl }
by LateDeadline (Some s) end number of file heading at = record { day = refl; cell = refl; hours = refl }

pub rows_are_in_one_part : RowsAreInOnePart
rows_are_in_one_part row = by row.kind row.start row.end row.number row.of row.file row.heading row.stamp_at
