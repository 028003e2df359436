-- How many stamps views examine (profile).
use Rattle.std.specs.Prelude.{◌≡◌, ◌≤◌, ℕ, ◌+◌, ◌-◌, List, Option, Result, Ok, Err}
use Rattle.org_agenda.specs.Bound.{near_count, row_count}
use Rattle.org_agenda.specs.declared.as_of.AsOf.{AsOf}
use Rattle.org_base.specs.Counts.{Counts}
use Rattle.org_base.specs.declared.fault.Fault.{Fault}
use Rattle.org_index.specs.Ticks.{examined}
use Rattle.org_inherit.specs.Scope.{Scope}
use Rattle.org_engine.specs.Outlines.{scopes_of}
use Rattle.org_engine.specs.Marks.{AnyStamps, NoStamps, ReadsAll, ReadsAllAsked, ReadsSome}
use Rattle.org_engine.specs.Questions.{asked_agenda}
use Rattle.org_engine.specs.Step.{ClockTable, DayAgenda, MatchList, Query, TodoList, Unread, world_for}
use Rattle.org_engine.specs.World.{EngineView, KeptWorld, WorldView}
use Rattle.org_engine.specs.declared.question.View.{View}
use Rattle.org_engine.specs.declared.question.View.TheVariants.{Agenda, Match, Todo, Clock}

-- how many stamps of a world are near so many days from a first one on
unfoldable pub near_in_world : ℕ → ℕ → WorldView → ℕ
near_in_world first count world = near_count world.profile first (first + count - 1) world.moment.day (scopes_of world)

-- an agenda of a world examines at least the stamps that give it a row
abbrev pub RowsAreExamined : Type 0
RowsAreExamined = (world : WorldView) (first count : ℕ) → row_count world.profile first count world.moment.day (scopes_of world) ≤ near_in_world first count world

-- those that are near so many days from a first one on were examined, each once, and nothing else was counted
abbrev pub ExaminesNear : AsOf → List Scope → ℕ → ℕ → Counts → Counts → Type 0
ExaminesNear seen scopes first count old new = new ≡ examined (near_count seen.profile first (first + count - 1) seen.today scopes) old

-- an agenda examines those that are near its days, and no other question any
abbrev pub examined_for : Query → WorldView → ℕ
examined_for (DayAgenda first count) world = near_in_world first count world
examined_for (TodoList file words) world = 0
examined_for (MatchList file read) world = 0
examined_for (ClockTable table) world = 0
examined_for (Unread fault) world = 0

-- the same of a view that is answered
abbrev pub examined_by : View → WorldView → ℕ
examined_by (Agenda date days) world = examined_for (asked_agenda date.now days) world
examined_by (Todo file words) world = 0
examined_by (Match file text) world = 0
examined_by (Clock text) world = 0

-- and of the world that is asked, if one is
abbrev pub examined_in : View → Result WorldView Fault → ℕ
examined_in view (Ok world) = examined_by view world
examined_in view (Err fault) = 0

-- all sections of a world were read, and the stamps examined that are near so many days from a first one on; those that an
-- agenda asks for by a date; those that a view asks for
abbrev pub ReadsDays : ℕ → ℕ → KeptWorld → KeptWorld → Counts → Counts → Type 0
ReadsDays first count old new before after = ReadsAll (near_in_world first count old.world) old new before after

abbrev pub ReadsAgenda : List ℕ → ℕ → KeptWorld → KeptWorld → Counts → Counts → Type 0
ReadsAgenda date days old new before after = ReadsAll (examined_for (asked_agenda date days) old.world) old new before after

abbrev pub ReadsView : View → KeptWorld → KeptWorld → Counts → Counts → Type 0
ReadsView view old new before after = ReadsAll (examined_by view old.world) old new before after

-- the same of the world that a session asks
abbrev pub ReadsAsked : View → Option ℕ → EngineView → EngineView → Type 0
ReadsAsked view session old new = ReadsAllAsked (examined_in view (world_for session old.state)) session old new

-- a view that is refused may have examined stamps where it is an agenda
abbrev pub MayExamine : View → Type 0
MayExamine (Agenda date days) = AnyStamps
MayExamine (Todo file words) = NoStamps
MayExamine (Match file text) = NoStamps
MayExamine (Clock text) = NoStamps

-- where memory was refused for a view, some sections may have been read, and of an agenda some stamps examined
abbrev pub MayRead : View → KeptWorld → KeptWorld → Counts → Counts → Type 0
MayRead view old new before after = ReadsSome (MayExamine view) old new before after
