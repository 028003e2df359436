-- Laws of places: where the lines of a view lead, and what a command does that is made from there (profile).
use Rattle.std.specs.Prelude.{◌≡◌, ◌≢◌, ℕ, Bool, true, false, List, [], Option, None, Some, IsSome, Result, Ok, Err, map, slice_get}
use Rattle.org_agenda.specs.Lists.{Listing, Matching, list_rows, todo_listing}
use Rattle.org_base.specs.declared.code.Code.TheVariants as code
use Rattle.org_base.specs.declared.fault.Fault.{Fault}
use Rattle.org_base.specs.declared.fault.Fault.TheVariants as fault
use Rattle.org_clocktable.specs.declared.row.Of.{Of}
use Rattle.org_clocktable.specs.declared.row.Of.TheVariants as of
use Rattle.org_entry.specs.Entry.{heading_line}
use Rattle.org_complete.specs.Completion.{completed}
use Rattle.org_inherit.specs.Scope.{Scope}
use Rattle.org_store.specs.Begun.{entry_there}
use Rattle.org_store.specs.Places.{HasLine, place_at}
use Rattle.org_store.specs.declared.place.Place.{Place}
use Rattle.org_layout.specs.Shown.{lines_text, row_line}
use Rattle.org_layout.specs.declared.shown.Line.{Line}
use Rattle.org_layout.specs.declared.shown.Line.TheVariants as line
use Rattle.org_engine.specs.Laws.{IsIn, after_all}
use Rattle.org_engine.specs.Outlines.{scopes_of}
use Rattle.org_engine.specs.Places.{days_shown, line_places, table_shown}
use Rattle.org_engine.specs.Step.{ClockTable, Command, Complete, DayAgenda, EditFile, MatchList, Query, Refused, Serial, Shown, TodoList, Unread, edited, file_named, is_session, step, render_view, world_for}
use Rattle.org_engine.specs.Views.{files_named, scopes_over, world_over}
use Rattle.org_engine.specs.World.{FileView, State, WorldView}
use Rattle.org_engine.specs.declared.question.Form.TheVariants.{Places, Text}

-- the file that a question names, if its view is over one: its rows count files by those that it is over
abbrev pub named_by : Query → Option (List ℕ)
named_by (ClockTable table) = table.file
named_by (TodoList file words) = file
named_by (MatchList file read) = file
named_by (DayAgenda first count) = None
named_by (Unread fault) = None

-- the files that the rows of a question are of, by the places that rows name
abbrev pub files_for : Query → WorldView → List FileView
files_for question world = files_named (named_by question) world.files

-- what inheritance looks at in each of the files that the rows of a question are of
abbrev pub scopes_for : Query → WorldView → List Scope
scopes_for question world = scopes_over (named_by question) world

-- whether the rows of a question show efforts
abbrev pub has_efforts : Query → Bool
has_efforts (ClockTable table) = table.with_effort
has_efforts (TodoList file words) = false
has_efforts (MatchList file read) = false
has_efforts (DayAgenda first count) = false
has_efforts (Unread fault) = false

-- what the lines of a list stand for
abbrev pub list_shown : Listing → List Scope → List Line
list_shown listing scopes = map (row_line None) (list_rows listing scopes)

-- what the lines of a question's view stand for
abbrev pub lines_for : Query → WorldView → List Line
lines_for (TodoList file words) world = list_shown (todo_listing words) (scopes_of (world_over file world))
lines_for (MatchList file (Ok expr)) world = list_shown (Matching expr world.moment) (scopes_of (world_over file world))
lines_for (MatchList file (Err fault)) world = []
lines_for (DayAgenda first count) world = days_shown world.profile (scopes_of world) world.moment.day first count
lines_for (ClockTable table) world = table_shown table world.moment (scopes_of (world_over table.file world))
lines_for (Unread fault) world = []

-- text and places are two renderings of one list of lines, and are refused alike
pub record AreOfOneList (question : Query) (world : WorldView) : Type 0 where
  pub text : (shown : List ℕ) → render_view Text question world ≡ Shown shown → shown ≡ lines_text (has_efforts question) (scopes_for question world) (lines_for question world)
  pub places : (shown : List ℕ) → render_view Places question world ≡ Shown shown → shown ≡ line_places (files_for question world) (lines_for question world)
  pub answered : (shown : List ℕ) → render_view Text question world ≡ Shown shown → (places : List ℕ) × (render_view Places question world ≡ Shown places)
  pub refused : (fault : Fault) → render_view Text question world ≡ Refused fault → render_view Places question world ≡ Refused fault

-- the text of a view and where its lines lead are two renderings of one list of lines, and are refused alike
abbrev pub TextAndPlacesAreOfOneList : Type 0
TextAndPlacesAreOfOneList = (question : Query) (world : WorldView) → AreOfOneList question world

-- a row of a clock table leads to the section at a place of a file, where it is a heading's
abbrev pub LeadsToOf : List FileView → Of → FileView → ℕ → Type 0
LeadsToOf files of.All file heading = ⊥
LeadsToOf files (of.File place) file heading = ⊥
LeadsToOf files (of.Heading place section level) file heading = (slice_get files place ≡ Some file) × (section ≡ heading)

-- a line of a view leads to the section at a place of a file
abbrev pub LeadsTo : List FileView → Line → FileView → ℕ → Type 0
LeadsTo files (line.Day day) file heading = ⊥
LeadsTo files (line.Step first last) file heading = ⊥
LeadsTo files (line.Row shown) file heading = (slice_get files shown.row.file ≡ Some file) × (shown.row.heading ≡ heading)
LeadsTo files (line.Table row) file heading = LeadsToOf files row.of file heading

-- a command that names a version of a file, and says what is to be made of its text: accepted it works on that text, and
-- where the file has another version, or is gone, it is refused with that
pub record WorksThereAlone (file : FileView) (make : List ℕ → Result (List ℕ) Fault) (command : Command) (s : State) : Type 0 where
  pub works : (next : ℕ) → (step command s).reply ≡ Serial next →
      (text : List ℕ) × (make file.text ≡ Ok text) × (file_named file.name (step command s).after.world.files ≡ Some (record file { text = text; serial = next }))
  pub stale : (now : FileView) → file_named file.name s.world.files ≡ Some now → now ≢ file → (step command s).reply ≡ Refused (fault.Stale now.serial)
  pub gone : file_named file.name s.world.files ≡ None → (step command s).reply ≡ Refused (fault.Plain code.Unknown)

-- a version of a file leads back: each completion and each edit that names it, of any session, works on its text, or is
-- refused where the file has another
pub record LeadsBack (file : FileView) (s : State) : Type 0 where
  pub completes : (session line : ℕ) (keyword : List ℕ) → is_session session ≡ true →
      WorksThereAlone file (λ text. completed text line keyword s.world.moment) (Complete session file.name file.serial line keyword) s
  pub edits : (session at del : ℕ) (ins : List ℕ) → is_session session ≡ true →
      WorksThereAlone file (λ text. edited at del ins (Ok text)) (EditFile session file.name file.serial at del ins) s

-- whatever was done before a world was asked, and after it: the version of a file in that world leads back to its own text
abbrev pub VersionsLeadBack : Type 0
VersionsLeadBack = (before between : List Command) (start : State) (asked : Option ℕ) (world : WorldView) (file : FileView) →
    start.world.files ≡ [] → start.pins ≡ [] → world_for asked (after_all before start) ≡ Ok world → IsIn file world.files →
    LeadsBack file (after_all between (after_all before start))

-- a completion or an edit that is made from a place in an answer works on the heading that the row shows, or is refused.
-- At the place stands the heading line of the row, in the text of the version that it names, and that version leads back
abbrev pub PlacesLeadBack : Type 0
PlacesLeadBack = (before between : List Command) (start : State) (asked : Option ℕ) (question : Query) (world : WorldView) (k heading : ℕ) (line : Line) (file : FileView) (place : Place) →
    start.world.files ≡ [] → start.pins ≡ [] → world_for asked (after_all before start) ≡ Ok world →
    slice_get (lines_for question world) k ≡ Some line → LeadsTo (files_for question world) line file heading →
    place_at file.text heading ≡ Some place → IsSome (entry_there file.text heading).head →
    HasLine file.text place (heading_line (entry_there file.text heading)) × LeadsBack file (after_all between (after_all before start))
