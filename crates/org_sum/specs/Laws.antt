-- Laws of sums (Org manual 9.6, "The clock table"; "Effort Estimates").
use Rattle.std.specs.Prelude.{◌≡◌, ℕ, ◌+◌, ◌*◌, ◌<◌, ◌≤◌, Bool, List, length}
use Rattle.std.specs.List.{sum_by}
use Rattle.org_cal.specs.Pieces.{AreJoined}
use Rattle.org_cal.specs.declared.day.TheConstants.{LAST_DAY}
use Rattle.org_cal.specs.declared.minute.TheConstants.{CALENDAR_MINUTES}
use Rattle.org_entry.specs.Entry.{entries_of}
use Rattle.org_entry.specs.declared.entry.Entry.{Entry}
use Rattle.org_settings.specs.Settings.{FileSettings}
use Rattle.org_drawer.specs.declared.effort.TheConstants.{LONGEST_EFFORT}
use Rattle.org_sum.specs.Measures.{clock_minutes, effort_minutes}
use Rattle.org_sum.specs.Sums.{children_sum, own_at, subtree_sum, total}

-- a heading's sum is what it counts itself and the sums of its children
abbrev pub SumsAreOwnAndChildren : Type 0
SumsAreOwnAndChildren = (f : Entry → ℕ) (es : List Entry) (counted : List Bool) (i : ℕ) → i < length es →
    subtree_sum f es counted i ≡ own_at f es counted i + children_sum f es counted i

-- a heading has no more in a part of a period than in the whole
abbrev pub PartsHaveNoMore : Type 0
PartsHaveNoMore = (part whole : ℕ × ℕ) (es : List Entry) (counted : List Bool) (i : ℕ) → whole.0 ≤ part.0 → part.1 ≤ whole.1 →
    subtree_sum (clock_minutes part) es counted i ≤ subtree_sum (clock_minutes whole) es counted i

-- what a heading has in the pieces of a period is in sum what it has in the whole
abbrev pub PiecesMakeTheWhole : Type 0
PiecesMakeTheWhole = (first last : ℕ) (pieces : List (ℕ × ℕ)) (es : List Entry) (counted : List Bool) (i : ℕ) → 1 ≤ first → AreJoined first pieces last →
    sum_by (λ piece. subtree_sum (clock_minutes piece) es counted i) pieces ≡ subtree_sum (clock_minutes (first, last)) es counted i

-- a text has at most the minutes of all years for every eighteen of its bytes
abbrev pub ClocksAreSmall : Type 0
ClocksAreSmall = (settings : FileSettings) (days : ℕ × ℕ) (text : List ℕ) → days.1 ≤ LAST_DAY →
    18 * total (clock_minutes days) (entries_of settings text) ≤ CALENDAR_MINUTES * length text

-- a text has at most the minutes of 9,999 years for every ten of its bytes
abbrev pub EffortsAreSmall : Type 0
EffortsAreSmall = (settings : FileSettings) (text : List ℕ) → 10 * total effort_minutes (entries_of settings text) ≤ LONGEST_EFFORT * length text
