-- Words of the proofs about Run: parts of its definitions.
use Rattle.std.specs.Result.{result_ok}
use Rattle.std.specs.Option.{option_and_then}
use Rattle.std.specs.Prelude.{Bool, Result, List, ℕ, Option, IfSome}
use Rattle.org_cal.specs.declared.moment.Moment.{Moment}
use Rattle.org_base.specs.declared.fault.Fault.{Fault}
use Rattle.org_engine.specs.World.{EngineView, FileView}
use Rattle.org_complete.specs.Completion.{completion_part}
use Rattle.org_complete.specs.Parts.{Part}
use Rattle.org_wire.specs.Stream.{Line}
use Rattle.org_wire.specs.Views.{CountedView}
use Rattle.org_wire.specs.declared.stream.End.{End}
use Rattle.org_wire.specs.Run.{IsRun, AnswersTaken}

-- what completing a heading replaces in a file's text, if it does
abbrev pub part_if : Result Part Fault → Option Part
part_if found = result_ok found

-- what completing a heading replaces in a file, if the file is there and the heading can be completed
abbrev pub part_in : ℕ → List ℕ → Moment → Option FileView → Option Part
part_in line keyword moment found = option_and_then (λ file. result_ok (completion_part file.text line keyword moment)) found

-- a run over a stream whose bytes are known; of a reader that doesn't tell its bytes nothing is said
abbrev pub IsRunOver : {W : Type 0} → Bool → (List ℕ → Line) → (W → Option (List ℕ)) → Option (List ℕ) → CountedView W → EngineView → End → CountedView W → EngineView → Type 0
IsRunOver second says contents stream had old end has new =
    IfSome stream (λ bytes. IsRun second says bytes old.state end new.state (contents had.inner) (contents has.inner))

-- all commands that are whole in the bytes taken were answered, where the bytes of the stream are known
abbrev pub AnswersAllTaken : {W : Type 0} → Bool → (List ℕ → Line) → (W → Option (List ℕ)) → Option (List ℕ) → CountedView W → EngineView → Option (List ℕ) → CountedView W → EngineView → Type 0
AnswersAllTaken second says contents stream had old held has new =
    IfSome stream (λ bytes. AnswersTaken second says bytes old.state new.state (contents had.inner) (contents has.inner) held)
