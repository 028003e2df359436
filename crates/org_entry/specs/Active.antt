-- The active stamps of an entry (Org manual 9.6, "Timestamps"; "Deadlines and Scheduling").
use Rattle.std.specs.Option.{option_map_or}
use Rattle.std.specs.Prelude.{ℕ, Bool, true, false, nat_lt, if◌then◌else◌, List, [], ◌∷◌, Option, None, Some, map}
use Rattle.org_base.specs.declared.span.Span.{Span}
use Rattle.org_drawer.specs.declared.planning.Planning.{Planning}
use Rattle.org_entry.specs.Keyword.{is_open}
use Rattle.org_entry.specs.Planning.{entry_planning}
use Rattle.org_entry.specs.declared.active.EntryStamp.{EntryStamp}
use Rattle.org_entry.specs.declared.active.Role.{Role}
use Rattle.org_entry.specs.declared.active.Role.TheVariants.{Plain, Scheduled, Deadline}
use Rattle.org_entry.specs.declared.entry.Entry.{Entry}
use Rattle.org_head.specs.declared.head.Head.{Head}
use Rattle.org_settings.specs.Settings.{FileSettings}
use Rattle.org_stamp.specs.declared.stamp.Found.{Found}
use Rattle.org_stamp.specs.declared.stamp.Stamp.{Stamp}

-- it stands in the planning line
abbrev pub is_planned : Role → Bool
is_planned Plain = false
is_planned Scheduled = true
is_planned Deadline = true

-- a stamp with its role and its place in the section, under a heading that is open or isn't
abbrev pub stamp_at : Bool → Role → ℕ → Stamp → EntryStamp
stamp_at opens role at stamp = record { at = at; role = role; stamp = stamp; is_open = opens }

-- stamps in the order of their places, with one more
abbrev pub put : EntryStamp → List EntryStamp → List EntryStamp
put s [] = s ∷ []
put s (t ∷ ts) = if nat_lt s.at t.at then s ∷ t ∷ ts else t ∷ put s ts

-- stamps with one of the planning line, if it is there and active
abbrev pub with_planned : Bool → Role → Option (Stamp × Span) → List EntryStamp → List EntryStamp
with_planned opens role None stamps = stamps
with_planned opens role (Some found) stamps = if found.0.active then put (stamp_at opens role found.1.at found.0) stamps else stamps

-- stamps with the scheduled stamp and the deadline of a planning line, in the order of their places
abbrev pub with_line : Bool → Planning → List EntryStamp → List EntryStamp
with_line opens planning stamps = with_planned opens Deadline planning.deadline (with_planned opens Scheduled planning.scheduled stamps)

-- the plain stamps of an entry, each with its role
abbrev pub plain_stamps : Bool → List Found → List EntryStamp
plain_stamps opens stamps = map (λ (f : Found). stamp_at opens Plain f.at f.stamp) stamps

-- the active stamps of an entry under a heading that is open or isn't, by their places in the section
abbrev pub stamps_under : Bool → Entry → List EntryStamp
stamps_under opens e = option_map_or (λ planning. with_line opens planning (plain_stamps opens e.details.stamps))
    (entry_planning e) (plain_stamps opens e.details.stamps)

-- those of an entry with this head; none where it has none
abbrev pub stamps_by : FileSettings → Entry → Option Head → List EntryStamp
stamps_by settings e None = []
stamps_by settings e (Some head) = stamps_under (is_open settings e.text head) e

-- the active stamps of an entry, whether it is hidden or not
abbrev pub active_stamps : FileSettings → Entry → List EntryStamp
active_stamps settings e = stamps_by settings e e.head
