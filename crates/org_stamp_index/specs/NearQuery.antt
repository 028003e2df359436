-- Which stamps of entries are near the days that are asked (profile; delays and warnings as in Org manual 9.6, "Deadlines
-- and Scheduling").
use Rattle.std.specs.Prelude.{Bool, ◌&&◌, ◌||◌, List, filter}
use Rattle.org_entry.specs.Active.{is_planned}
use Rattle.org_entry.specs.declared.active.EntryStamp.{EntryStamp}
use Rattle.org_index.specs.Reaches.{reach_of}
use Rattle.org_index.specs.Near.{touches, warns}
use Rattle.org_stamp_index.specs.declared.near_query.NearQuery.{NearQuery}

-- it stands in the planning line of a heading without a done keyword
abbrev pub is_reminding : EntryStamp → Bool
is_reminding s = is_planned s.role && s.is_open

-- the stamp is near the days that are asked: it touches them, or it warns or is late today, and today is one of them
abbrev pub is_asked : NearQuery → EntryStamp → Bool
is_asked a s = touches a.from a.to (reach_of a.profile s.stamp) || (is_reminding s && warns a.from a.to a.today (reach_of a.profile s.stamp))

-- of some stamps those that are near
abbrev pub asked_of : NearQuery → List EntryStamp → List EntryStamp
asked_of a stamps = filter (is_asked a) stamps
