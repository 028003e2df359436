-- What a run counts (profile).
use Rattle.std.specs.Prelude.{◌≡◌, ℕ, Bool, List, [], ◌∷◌, Option, Some, IfSome}
use Rattle.org_engine.specs.Marks.{Reads}
use Rattle.org_engine.specs.World.{EngineView}
use Rattle.org_wire.specs.Run.{Turn}
use Rattle.org_wire.specs.Stream.{line_of, reading_of}
use Rattle.org_wire.specs.Turns.{CountsFor}
use Rattle.org_wire.specs.declared.command.Next.{Next}
use Rattle.org_wire.specs.declared.command.Next.TheVariants.{Given}
use Rattle.org_wire.specs.declared.reply.Reply.{Reply}

-- a command counts no more than it may, and nothing else that is read counts
abbrev pub CountsSo : Next → EngineView → EngineView → Type 0
CountsSo (Given command) old new = CountsFor command old new
CountsSo _ old new = new.counts ≡ old.counts

-- one turn of an engine, and after it at most so many background steps, which leave the state and count one section each
pub record CountedTurn (idle : ℕ) (second : Bool) (bytes : List ℕ) (old : EngineView) (answer : Reply) (new : EngineView) : Type 0 where
  pub mid : EngineView
  pub turn : Turn second (line_of second) bytes old.state answer mid.state
  pub counts : CountsSo (reading_of second bytes).next old mid
  pub state : new.state ≡ mid.state
  pub steps : Reads idle mid new

-- such turns, one after another
abbrev pub CountedRuns : ℕ → Bool → List ℕ → EngineView → List Reply → List ℕ → EngineView → Type 0
CountedRuns idle second bytes old [] rest new = (rest ≡ bytes) × (new ≡ old)
CountedRuns idle second bytes old (answer ∷ answers) rest new =
    (mid : EngineView) × CountedTurn idle second bytes old answer mid × CountedRuns idle second (reading_of second bytes).rest mid answers rest new

-- an engine became what it is by such turns over a stream, or over a front of it, and by nothing else
pub record IsCounted (idle : ℕ) (second : Bool) (bytes : List ℕ) (old new : EngineView) : Type 0 where
  pub answers : List Reply
  pub rest : List ℕ
  pub runs : CountedRuns idle second bytes old answers rest new

-- the same of a stream whose bytes are known
abbrev pub CountsAlong : ℕ → Bool → Option (List ℕ) → EngineView → EngineView → Type 0
CountsAlong idle second stream old new = IfSome stream (λ bytes. IsCounted idle second bytes old new)

-- so far, with what is left of the stream
pub record IsCountedSoFar (idle : ℕ) (second : Bool) (bytes : List ℕ) (old new : EngineView) (now : Option (List ℕ)) : Type 0 where
  pub answers : List Reply
  pub rest : List ℕ
  pub left : now ≡ Some rest
  pub runs : CountedRuns idle second bytes old answers rest new
