-- What commands leave as it was, what a session pins, over which files a table is, and the numbers of the engine (profile).
use Rattle.std.specs.Prelude.{◌≡◌, ◌≢◌, ℕ, List, [], ◌∷◌, ◌++◌, map, Option, None, Some}
use Rattle.std.specs.List.{All}
use Rattle.org_base.specs.declared.fault.Fault.{Fault}
use Rattle.org_base.specs.declared.profile.Profile.{Profile}
use Rattle.org_cal.specs.declared.moment.Moment.{Moment}
use Rattle.org_clocktable.specs.Request.{TableRequest}
use Rattle.org_expression.specs.Grammar.{Expr}
use Rattle.org_engine.specs.Step.{Command, AddFile, DropFile, EditFile, Complete, At, Inherit, SetProfile, PinWorld, Unpin, TextOf, KeywordsOf, Version, Ask, Query, ClockTable, MatchList, TodoList, Serial, Refused, file_named, step}
use Rattle.org_engine.specs.World.{FileView, State}
use Rattle.org_engine.specs.declared.question.Form.{Form}
use Rattle.org_engine.specs.declared.limits.TheConstants.{LAST_SERIAL, MOST_SESSIONS}

-- serials end at 10^18, and sessions are 1 to 64
abbrev pub LimitsAreNamed : Type 0
LimitsAreNamed = (LAST_SERIAL ≡ 1_000_000_000_000_000_000) × (MOST_SESSIONS ≡ 64)

-- the names of files, in order
abbrev pub names_in : List FileView → List (List ℕ)
names_in files = map (λ (file : FileView). file.name) files

-- the names of a state's files, in order
abbrev pub names_of : State → List (List ℕ)
names_of s = names_in s.world.files

-- the file that a command adds, drops or changes
abbrev pub changed_by : Command → Option (List ℕ)
changed_by (AddFile name text) = Some name
changed_by (DropFile name) = Some name
changed_by (EditFile session name serial at del ins) = Some name
changed_by (Complete session name serial line keyword) = Some name
changed_by c = None

-- all but the files and the serial is as before
pub record KeepsRest (old new : State) : Type 0 where
  pub moment : new.world.moment ≡ old.world.moment
  pub inherited : new.world.inherited ≡ old.world.inherited
  pub profile : new.world.profile ≡ old.world.profile
  pub pins : new.pins ≡ old.pins

-- one of some names is gone, and the others stand in their order
abbrev pub TakesOut : List ℕ → List (List ℕ) → List (List ℕ) → Type 0
TakesOut name old new = (before behind : List (List ℕ)) × (old ≡ before ++ name ∷ behind) × (new ≡ before ++ behind)

-- what commands leave as it was in a state: `at`, `inherit` and `profile` all but what they set, questions and refused
-- commands all, pins the world, and what concerns a file all but the files
pub record LeavesTheRest (s : State) : Type 0 where
  pub moment : (moment : Moment) → (step (At moment) s).after ≡ record s { world = record s.world { moment = moment } }
  pub names : (names : List (List ℕ)) → (step (Inherit names) s).after ≡ record s { world = record s.world { inherited = names } }
  pub profile : (p : Profile) (serial : ℕ) → (step (SetProfile p) s).reply ≡ Serial serial → (step (SetProfile p) s).after ≡ record s { world = record s.world { profile = p } }
  pub asked : (question : Query) (form : Form) (session : Option ℕ) → (step (Ask question form session) s).after ≡ s
  pub text : (name : List ℕ) → (step (TextOf name) s).after ≡ s
  pub keywords : (name : List ℕ) → (step (KeywordsOf name) s).after ≡ s
  pub version : (step Version s).after ≡ s
  pub refused : (c : Command) (fault : Fault) → (step c s).reply ≡ Refused fault → (step c s).after ≡ s
  pub pinned : (session : ℕ) → (step (PinWorld session) s).after.world ≡ s.world
  pub unpinned : (session : ℕ) → (step (Unpin session) s).after.world ≡ s.world
  pub files : (c : Command) (name : List ℕ) → changed_by c ≡ Some name → KeepsRest s (step c s).after
  pub others : (c : Command) (other : List ℕ) → (changed_by c ≡ Some other → ⊥) → file_named other (step c s).after.world.files ≡ file_named other s.world.files

-- where files stand: one that changes stays, a new one goes last, and the others close the gap of one that is dropped
pub record KeepsOrder (s : State) : Type 0 where
  pub edited : (session : ℕ) (name : List ℕ) (serial at del : ℕ) (ins : List ℕ) → names_of (step (EditFile session name serial at del ins) s).after ≡ names_of s
  pub completed : (session : ℕ) (name : List ℕ) (serial line : ℕ) (keyword : List ℕ) → names_of (step (Complete session name serial line keyword) s).after ≡ names_of s
  pub added : (name text : List ℕ) (serial : ℕ) → (step (AddFile name text) s).reply ≡ Serial serial → names_of (step (AddFile name text) s).after ≡ names_of s ++ name ∷ []
  pub dropped : (name : List ℕ) (serial : ℕ) → (step (DropFile name) s).reply ≡ Serial serial → TakesOut name (names_of s) (names_of (step (DropFile name) s).after)

-- in each state commands leave as it was all that they aren't about, and files stay in their order
abbrev pub CommandsLeaveTheRest : Type 0
CommandsLeaveTheRest = (s : State) → LeavesTheRest s × KeepsOrder s

-- right after a pin, its session is answered as the current world is
abbrev pub PinsKeepTheWorld : Type 0
PinsKeepTheWorld = (session serial : ℕ) (question : Query) (form : Form) (s : State) → (step (PinWorld session) s).reply ≡ Serial serial →
    (step (Ask question form (Some session)) (step (PinWorld session) s).after).reply ≡ (step (Ask question form None) s).reply

-- the state with these files alone
abbrev pub with_files : List FileView → State → State
with_files files s = record s { world = record s.world { files = files } }

-- a table's request, over all files
abbrev pub over_all : TableRequest Expr → TableRequest Expr
over_all table = record table { file = None }

-- the name is that of no file
abbrev pub IsNoName : List ℕ → List FileView → Type 0
IsNoName name files = All (λ (file : FileView). name ≢ file.name) files

-- a table over one file is the table over all files of a world that has that file alone
abbrev pub TablesAreOverTheirFiles : Type 0
TablesAreOverTheirFiles = (table : TableRequest Expr) (form : Form) (file : FileView) (before behind : List FileView) (s : State) → table.file ≡ Some file.name →
    s.world.files ≡ before ++ file ∷ behind → IsNoName file.name before → IsNoName file.name behind →
    (step (Ask (ClockTable table) form None) s).reply ≡ (step (Ask (ClockTable (over_all table)) form None) (with_files (file ∷ []) s)).reply

-- the same list over all files
abbrev pub list_over_all : Query → Query
list_over_all (TodoList file words) = TodoList None words
list_over_all (MatchList file read) = MatchList None read
list_over_all question = question

-- the question is for a list over the file of a name
abbrev pub IsListOver : List ℕ → Query → Type 0
IsListOver name (TodoList file words) = file ≡ Some name
IsListOver name (MatchList file read) = file ≡ Some name
IsListOver name _ = ⊥

-- a list over one file is the list over all files of a world that has that file alone
abbrev pub ListsAreOverTheirFiles : Type 0
ListsAreOverTheirFiles = (question : Query) (form : Form) (file : FileView) (before behind : List FileView) (s : State) → IsListOver file.name question →
    s.world.files ≡ before ++ file ∷ behind → IsNoName file.name before → IsNoName file.name behind →
    (step (Ask question form None) s).reply ≡ (step (Ask (list_over_all question) form None) (with_files (file ∷ []) s)).reply
