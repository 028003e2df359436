-- Which sections were read, and what calls do to that (profile).
use Rattle.std.specs.Prelude.{IsOk, ◌≡◌, ◌==◌, ◌≤◌, ◌<◌, ◌+◌, ◌++◌, ℕ, zero, suc, Bool, false, List, [], ◌∷◌, Option, None, Some, IfSome, Result, Ok, Err, bytes_eq, get_or, if◌then◌else◌, length, map, nat_lt, replicate, slice_get, take}
use Rattle.org_base.specs.Counts.{Counts, ticked}
use Rattle.org_base.specs.Results.{Gives}
use Rattle.org_base.specs.declared.fault.Fault.{Fault}
use Rattle.org_base.specs.declared.meter.Tick.TheVariants.{Read}
use Rattle.org_class.specs.Changes.{new_sections}
use Rattle.org_class.specs.Sections.{sections}
use Rattle.org_class.specs.Ticks.{classified}
use Rattle.org_cal.specs.declared.moment.Moment.{Moment}
use Rattle.org_complete.specs.Completion.{completion_part}
use Rattle.org_complete.specs.Parts.{Part}
use Rattle.org_complete.specs.Reading.{HasReadOne, ReadsOwn}
use Rattle.org_index.specs.Ticks.{examined}
use Rattle.org_store.specs.Change.{IsChangedBy}
use Rattle.org_store.specs.Counts.{have_read}
use Rattle.org_store.specs.File.{FileView as KeptFile, IsChanged, all_marked, first_unread, marked, unread}
use Rattle.org_store.specs.Outline.{OutlineView, outline_of}
use Rattle.org_store.specs.declared.change.Change.{Change}
use Rattle.org_engine.specs.Step.{file_named, text_seen, with_file, with_text, without, world_for}
use Rattle.org_engine.specs.World.{EngineView, FileView, KeptWorld, Marks, PinView}

-- how many sections of a world's files are still to be read
abbrev pub pending_in : List (List Bool) → ℕ
pending_in [] = 0
pending_in (own ∷ marks) = unread own + pending_in marks

-- all sections of all files were read
abbrev pub all_read : List (List Bool) → List (List Bool)
all_read marks = map all_marked marks

-- those of the first so many files were
abbrev pub first_read : ℕ → List (List Bool) → List (List Bool)
first_read zero marks = marks
first_read (suc n) [] = []
first_read (suc n) (own ∷ marks) = all_marked own ∷ first_read n marks

-- a file has a section that is still to be read
abbrev pub has_pending : List Bool → Bool
has_pending own = nat_lt 0 (unread own)

-- the first section was read that was still to be read
abbrev pub next_read : List (List Bool) → List (List Bool)
next_read [] = []
next_read (own ∷ marks) = if has_pending own then marked (first_unread own) own ∷ marks else own ∷ next_read marks

-- those of the file at a place
abbrev pub marks_at : ℕ → List (List Bool) → List Bool
marks_at place marks = get_or marks place []

-- all sections of the file at a place were read
abbrev pub read_at : ℕ → List (List Bool) → List (List Bool)
read_at place [] = []
read_at zero (own ∷ marks) = all_marked own ∷ marks
read_at (suc place) (own ∷ marks) = own ∷ read_at place marks

-- how many of its sections are still to be read
abbrev pub pending_at : ℕ → List (List Bool) → ℕ
pending_at place marks = unread (marks_at place marks)

-- it is the first file with sections that are still to be read
pub record IsFirstPending (marks : List (List Bool)) (place : ℕ) : Type 0 where
  pub within : place < length marks
  pub before : pending_in (take place marks) ≡ 0
  pub own : 0 < pending_at place marks

-- the file at a place says this
abbrev pub IsOutlineAt : List FileView → ℕ → Result OutlineView Fault → Type 0
IsOutlineAt files place result = (file : FileView) → slice_get files place ≡ Some file → Gives result (outline_of file.text)

-- the marks without those of the file of that name
abbrev pub without_marks : List ℕ → List FileView → List (List Bool) → List (List Bool)
without_marks name [] marks = marks
without_marks name (file ∷ files) [] = []
without_marks name (file ∷ files) (own ∷ marks) = if bytes_eq name file.name then marks else own ∷ without_marks name files marks

-- the marks with others for the file of that name
abbrev pub with_marks : List ℕ → List Bool → List FileView → List (List Bool) → List (List Bool)
with_marks name new [] marks = marks
with_marks name new (file ∷ files) [] = []
with_marks name new (file ∷ files) (own ∷ marks) = if bytes_eq name file.name then new ∷ marks else own ∷ with_marks name new files marks

-- the file of that name, with its marks
abbrev pub kept_named : List ℕ → List FileView → List (List Bool) → Option KeptFile
kept_named name [] marks = None
kept_named name (file ∷ files) [] = None
kept_named name (file ∷ files) (own ∷ marks) =
    if bytes_eq name file.name then Some (record { text = file.text; serial = file.serial; marks = own }) else kept_named name files marks

-- a world without the file of that name
abbrev pub without_kept : List ℕ → KeptWorld → KeptWorld
without_kept name kept = record {
  world = record kept.world { files = without name kept.world.files };
  marks = without_marks name kept.world.files kept.marks;
}

-- a world with one more file, which goes last; none of its sections was read
abbrev pub with_new : List ℕ → List ℕ → ℕ → KeptWorld → KeptWorld
with_new name text serial kept = record {
  world = record kept.world { files = with_file name text serial kept.world.files };
  marks = kept.marks ++ replicate (length (sections text)) false ∷ [];
}

-- a world with another file in the place of the one of that name
abbrev pub with_kept : List ℕ → KeptFile → KeptWorld → KeptWorld
with_kept name file kept = record {
  world = record kept.world { files = with_text name file.text file.serial kept.world.files };
  marks = with_marks name file.marks kept.world.files kept.marks;
}

-- all sections of a world were read, of which those were counted that were still to be read, and so many stamps were examined
abbrev pub ReadsAll : ℕ → KeptWorld → KeptWorld → Counts → Counts → Type 0
ReadsAll stamps old new before after = (new ≡ record old { marks = all_read old.marks }) × (after ≡ examined stamps (have_read (pending_in old.marks) before))

-- no stamp may be examined
abbrev pub NoStamps : Type 0
NoStamps = ⊥

-- some may be
abbrev pub AnyStamps : Type 0
AnyStamps = Unit {0}

-- some stamps were examined, if they may be, and nothing else was counted
abbrev pub ExaminesSome : Type 0 → Counts → Counts → Type 0
ExaminesSome may before after = (stamps : ℕ) × (0 < stamps → may) × (after ≡ examined stamps before)

-- those of the first so many files were read; some of those still to be read were counted, and some stamps, if they may be
pub record ReadsSome (may : Type 0) (old new : KeptWorld) (before after : Counts) : Type 0 where
  pub files : ℕ
  pub reads : ℕ
  pub few : reads ≤ pending_in old.marks
  pub is : new ≡ record old { marks = first_read files old.marks }
  pub stamps : ℕ
  pub allowed : 0 < stamps → may
  pub counts : after ≡ examined stamps (have_read reads before)

-- the first section was read that was still to be read, and no other
abbrev pub WorksOnce : KeptWorld → KeptWorld → Counts → Counts → Type 0
WorksOnce old new before after = (new ≡ record old { marks = next_read old.marks }) × (after ≡ ticked Read before)

-- the text of the file of that name changed: its new sections are still to be read, and where its settings changed all its
-- sections; the others are as before
pub record ChangesFile (name : List ℕ) (change : Change) (serial : ℕ) (old new : KeptWorld) : Type 0 where
  pub before : KeptFile
  pub after : KeptFile
  pub found : kept_named name old.world.files old.marks ≡ Some before
  pub changed : IsChangedBy before change serial after
  pub is : new ≡ with_kept name after old

-- how many sections a change of a file makes, if it is there
abbrev pub new_count : ℕ → ℕ → List ℕ → Option FileView → ℕ
new_count at del ins None = 0
new_count at del ins (Some file) = length (new_sections file.text at del ins)

-- the same of the file of a name, of a world
abbrev pub new_in : List ℕ → Change → KeptWorld → ℕ
new_in name change kept = new_count change.at change.del change.ins.now (file_named name kept.world.files)

-- each of them was classified
abbrev pub ClassifiesNew : List ℕ → Change → KeptWorld → Counts → Counts → Type 0
ClassifiesNew name change kept before after = after ≡ classified (new_in name change kept) before

-- some of them were, none twice
abbrev pub ClassifiesSome : List ℕ → Change → KeptWorld → Counts → Counts → Type 0
ClassifiesSome name change kept before after = (n : ℕ) × (n ≤ new_in name change kept) × (after ≡ classified n before)

-- nothing was read
abbrev pub ReadsNone : KeptWorld → KeptWorld → Counts → Counts → Type 0
ReadsNone old new before after = (new ≡ old) × (after ≡ before)

-- the marks at a place are changed
abbrev pub at_place : ℕ → (List (List Bool) → List (List Bool)) → List (List (List Bool)) → List (List (List Bool))
at_place i f [] = []
at_place zero f (marks ∷ rest) = f marks ∷ rest
at_place (suc i) f (marks ∷ rest) = marks ∷ at_place i f rest

-- the marks of the session's world are changed
abbrev pub at_pin : ℕ → (List (List Bool) → List (List Bool)) → List PinView → List (List (List Bool)) → List (List (List Bool))
at_pin session f [] rest = rest
at_pin session f (pin ∷ pins) [] = []
at_pin session f (pin ∷ pins) (marks ∷ rest) = if pin.session == session then f marks ∷ rest else marks ∷ at_pin session f pins rest

-- the marks of the session's world; none where it keeps none
abbrev pub marks_kept : ℕ → List PinView → List (List (List Bool)) → List (List Bool)
marks_kept session [] rest = []
marks_kept session (pin ∷ pins) [] = []
marks_kept session (pin ∷ pins) (marks ∷ rest) = if pin.session == session then marks else marks_kept session pins rest

-- the marks without those of the session's world
abbrev pub marks_released : ℕ → List PinView → List (List (List Bool)) → List (List (List Bool))
marks_released session [] rest = rest
marks_released session (pin ∷ pins) [] = []
marks_released session (pin ∷ pins) (marks ∷ rest) = if pin.session == session then rest else marks ∷ marks_released session pins rest

-- the marks of the world that is asked: the current one, or the one that a session keeps
abbrev pub marks_asked : Option ℕ → List PinView → Marks → List (List Bool)
marks_asked None pins marks = marks.world
marks_asked (Some session) pins marks = marks_kept session pins marks.pins

-- they are changed, and no others
abbrev pub at_asked : Option ℕ → (List (List Bool) → List (List Bool)) → List PinView → Marks → Marks
at_asked None f pins marks = record marks { world = f marks.world }
at_asked (Some session) f pins marks = record marks { pins = at_pin session f pins marks.pins }

-- how many sections of the world that is asked are still to be read
abbrev pub pending_asked : Option ℕ → EngineView → ℕ
pending_asked session e = pending_in (marks_asked session e.state.pins e.marks)

-- all sections of the world that is asked were read, of which those were counted that were still to be read, and so many stamps
-- were examined; the marks of no other world changed
abbrev pub ReadsAllAsked : ℕ → Option ℕ → EngineView → EngineView → Type 0
ReadsAllAsked stamps session old new =
    (new.marks ≡ at_asked session all_read old.state.pins old.marks) × (new.counts ≡ examined stamps (have_read (pending_asked session old) old.counts))

-- those of its first so many files were read; some of those still to be read were counted, and some stamps, if they may be
pub record ReadsSomeAsked (may : Type 0) (session : Option ℕ) (old new : EngineView) : Type 0 where
  pub files : ℕ
  pub reads : ℕ
  pub few : reads ≤ pending_asked session old
  pub marks : new.marks ≡ at_asked session (first_read files) old.state.pins old.marks
  pub stamps : ℕ
  pub allowed : 0 < stamps → may
  pub counts : new.counts ≡ examined stamps (have_read reads old.counts)

-- nothing was read or classified, and no mark changed
abbrev pub IsQuiet : EngineView → EngineView → Type 0
IsQuiet old new = (new.marks ≡ old.marks) × (new.counts ≡ old.counts)

-- at most so many sections were classified, and none was read
abbrev pub Classifies : ℕ → EngineView → EngineView → Type 0
Classifies most old new = (n : ℕ) × (n ≤ most) × (new.counts ≡ classified n old.counts)

-- at most so many sections were read, and some stamps examined, if they may be; none was classified
abbrev pub Looks : ℕ → Type 0 → EngineView → EngineView → Type 0
Looks most may old new = (n : ℕ) × (n ≤ most) × (stamps : ℕ) × (0 < stamps → may) × (new.counts ≡ examined stamps (have_read n old.counts))

-- at most so many sections were read, and none was classified
abbrev pub Reads : ℕ → EngineView → EngineView → Type 0
Reads most old new = (n : ℕ) × (n ≤ most) × (new.counts ≡ have_read n old.counts)

-- no mark changed; at most so many sections were classified
abbrev pub KeepsMarks : ℕ → EngineView → EngineView → Type 0
KeepsMarks most old new = (new.marks ≡ old.marks) × Classifies most old new

-- how many sections a text has
abbrev pub added_count : List ℕ → ℕ
added_count text = length (sections text)

-- a file with this text was put at the end: its sections were classified, and none of them was read
pub record AddsMarks (text : List ℕ) (old new : EngineView) : Type 0 where
  pub marks : new.marks ≡ record old.marks { world = old.marks.world ++ replicate (length (sections text)) false ∷ [] }
  pub counts : new.counts ≡ classified (added_count text) old.counts

-- it was refused where memory is
abbrev pub AddsNoMarks : List ℕ → EngineView → EngineView → Type 0
AddsNoMarks text old new = KeepsMarks (added_count text) old new

-- the marks of the file of that name went with it
abbrev pub DropsMarks : List ℕ → EngineView → EngineView → Type 0
DropsMarks name old new =
    (new.marks ≡ record old.marks { world = without_marks name old.state.world.files old.marks.world }) × (new.counts ≡ old.counts)

-- a change of the file of that name, in an engine: its new sections were classified and are still to be read, and where its
-- settings changed all its sections are; the others are as before, and none was read
pub record EditsMarks (name : List ℕ) (at del : ℕ) (ins : List ℕ) (old new : EngineView) : Type 0 where
  pub before : KeptFile
  pub after : KeptFile
  pub found : kept_named name old.state.world.files old.marks.world ≡ Some before
  pub changed : IsChanged before at del ins new.state.serial after
  pub marks : new.marks ≡ record old.marks { world = with_marks name after.marks old.state.world.files old.marks.world }
  pub counts : new.counts ≡ classified (new_count at del ins (file_named name old.state.world.files)) old.counts

-- it was refused where memory is
abbrev pub EditsNoMarks : List ℕ → ℕ → ℕ → List ℕ → EngineView → EngineView → Type 0
EditsNoMarks name at del ins old new = KeepsMarks (new_count at del ins (file_named name old.state.world.files)) old new

-- the same of a change
abbrev pub PutsMarks : List ℕ → Change → EngineView → EngineView → Type 0
PutsMarks name change old new = EditsMarks name change.at change.del change.ins.now old new

-- the same of a change
abbrev pub PutsNoMarks : List ℕ → Change → EngineView → EngineView → Type 0
PutsNoMarks name change old new = EditsNoMarks name change.at change.del change.ins.now old new

-- the marks of the file of that name
abbrev pub marks_named : List ℕ → List FileView → List (List Bool) → List Bool
marks_named name [] marks = []
marks_named name (file ∷ files) [] = []
marks_named name (file ∷ files) (own ∷ marks) = if bytes_eq name file.name then own else marks_named name files marks

-- at most one section of the file of that name was read; the marks of no other changed, and no text
pub record ReadsOne (name : List ℕ) (old new : KeptWorld) (before after : Counts) : Type 0 where
  pub file : KeptFile
  pub read : KeptFile
  pub found : kept_named name old.world.files old.marks ≡ Some file
  pub one : HasReadOne file read before after
  pub world : new.world ≡ old.world
  pub marks : new.marks ≡ with_marks name read.marks old.world.files old.marks

-- it was the section that begins with a line, if the line is a heading's
pub record ReadsOwnIn (name : List ℕ) (line : ℕ) (old new : KeptWorld) (before after : Counts) : Type 0 where
  pub one : ReadsOne name old new before after
  pub own : ReadsOwn line one.file one.read before after

-- the same of a refusal, whichever it is
abbrev pub OwnRead : List ℕ → ℕ → KeptWorld → KeptWorld → Counts → Counts → Fault → Type 0
OwnRead name line old new before after fault = ReadsOwnIn name line old new before after

-- completing a heading replaces this in the text of the file of that name
pub record IsCompletion (name : List ℕ) (line : ℕ) (keyword : List ℕ) (old : EngineView) (part : Part) : Type 0 where
  pub file : FileView
  pub found : file_named name old.state.world.files ≡ Some file
  pub is : completion_part file.text line keyword old.state.world.moment ≡ Ok part

-- a heading of the file of that name was completed: its own section was read, if it was still to be read, and no other; then
-- the change is as any other, from the first byte that it replaces to the last
pub record CompletesMarks (name : List ℕ) (line : ℕ) (keyword : List ℕ) (old new : EngineView) : Type 0 where
  pub part : Part
  pub before : KeptFile
  pub read : KeptFile
  pub after : KeptFile
  pub between : Counts
  pub completion : IsCompletion name line keyword old part
  pub found : kept_named name old.state.world.files old.marks.world ≡ Some before
  pub one : HasReadOne before read old.counts between
  pub own : ReadsOwn line before read old.counts between
  pub changed : IsChanged read part.at part.del part.ins new.state.serial after
  pub marks : new.marks ≡ record old.marks { world = with_marks name after.marks old.state.world.files old.marks.world }
  pub counts : new.counts ≡ classified (length (new_sections before.text part.at part.del part.ins)) between

-- how many sections completing a heading of a file makes, if it is there
abbrev pub part_count : FileView → Result Part Fault → ℕ
part_count file (Err fault) = 0
part_count file (Ok part) = length (new_sections file.text part.at part.del part.ins)

abbrev pub completed_count : ℕ → List ℕ → Moment → Option FileView → ℕ
completed_count line keyword now None = 0
completed_count line keyword now (Some file) = part_count file (completion_part file.text line keyword now)

-- so much may be counted: one section as read, and at most so many as classified
pub record CountsOne (most : ℕ) (before after : Counts) : Type 0 where
  pub reads : ℕ
  pub count : ℕ
  pub one : reads ≤ 1
  pub few : count ≤ most
  pub counts : after ≡ classified count (have_read reads before)

-- what completing a heading may count
abbrev pub Completes : List ℕ → ℕ → List ℕ → EngineView → EngineView → Type 0
Completes name line keyword old new =
    CountsOne (completed_count line keyword old.state.world.moment (file_named name old.state.world.files)) old.counts new.counts

-- the marks are as before, but for one section of the file of that name, at most, which was read
abbrev pub with_section_read : List ℕ → Option ℕ → List FileView → List (List Bool) → List (List Bool)
with_section_read name None files marks = marks
with_section_read name (Some place) files marks = with_marks name (marked place (marks_named name files marks)) files marks

pub record KeepsOthers (name : List ℕ) (old new : EngineView) : Type 0 where
  pub place : Option ℕ
  pub within : IfSome place (λ p. p < length (marks_named name old.state.world.files old.marks.world))
  pub marks : new.marks ≡ record old.marks { world = with_section_read name place old.state.world.files old.marks.world }

-- a completion was refused: at most one section was read, and only where memory is refused sections were classified
abbrev pub CompletesNone : List ℕ → ℕ → List ℕ → EngineView → EngineView → Type 0
CompletesNone name line keyword old new = KeepsOthers name old new × Completes name line keyword old new

-- a completion was refused, and memory wasn't: where the session, the name or the serial is refused nothing was read; else the
-- heading's own section was, if it was still to be read, and no other
pub data ReadsOwnOnly (session : ℕ) (name : List ℕ) (serial line : ℕ) (old new : EngineView) : Type 0 where
  Unseen : (fault : Fault) → text_seen session name serial old.state.world.files ≡ Err fault → IsQuiet old new → ReadsOwnOnly session name serial line old new
  Seen : (text : List ℕ) → text_seen session name serial old.state.world.files ≡ Ok text → (before read : KeptFile) →
      kept_named name old.state.world.files old.marks.world ≡ Some before → ReadsOwn line before read old.counts new.counts →
      new.marks ≡ record old.marks { world = with_marks name read.marks old.state.world.files old.marks.world } → ReadsOwnOnly session name serial line old new

-- the same of a refusal, whichever it is
abbrev pub KeepsRest : ℕ → List ℕ → ℕ → ℕ → EngineView → EngineView → Fault → Type 0
KeepsRest session name serial line old new fault = ReadsOwnOnly session name serial line old new

-- a session keeps the marks as they are, and as many sections of its world are still to be read
pub record PinsMarks (session : ℕ) (old new : EngineView) : Type 0 where
  pub marks : new.marks ≡ record old.marks { pins = old.marks.pins ++ old.marks.world ∷ [] }
  pub counts : new.counts ≡ old.counts
  pub pending : pending_asked (Some session) new ≡ pending_in old.marks.world

-- those of the session's world went with it
abbrev pub UnpinsMarks : ℕ → EngineView → EngineView → Type 0
UnpinsMarks session old new =
    (new.marks ≡ record old.marks { pins = marks_released session old.state.pins old.marks.pins }) × (new.counts ≡ old.counts)

-- the first section of the current world was read that was still to be read, and no other
abbrev pub Works : EngineView → EngineView → Type 0
Works old new = (new.marks ≡ record old.marks { world = next_read old.marks.world }) × (new.counts ≡ ticked Read old.counts)

-- it was counted, and is still to be read
abbrev pub WorkFails : EngineView → EngineView → Type 0
WorkFails old new = (new.marks ≡ old.marks) × (new.counts ≡ ticked Read old.counts)

-- the session keeps a world, of which so many sections are still to be read
abbrev pub HasPending : ℕ → EngineView → ℕ → Type 0
HasPending session e count = (count ≡ pending_asked (Some session) e) × IsOk (world_for (Some session) e.state)
