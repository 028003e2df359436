-- What lines say is determined by how commands are spelled.
use Rattle.std.proofs.Common.{◌≡◌, Bool, List, ℕ, refl, sym, ◌∙◌, subst}
use Rattle.std.specs.Prelude.{Option}
use Rattle.org_engine.specs.World.{EngineView}
use Rattle.org_wire.specs.Run.{AnswersAllSpelled, IsSpelledRun}
use Rattle.org_wire.proofs.RunWords.{AnswersAllTaken, IsRunOver}
use Rattle.org_wire.specs.Spelled.{IsSpelled}
use Rattle.org_wire.specs.Stream.{Bad, Framed, Line, Plainly, line_of}
use Rattle.org_wire.specs.Turns.{AnswersAllRead, IsReadRun}
use Rattle.org_wire.specs.Views.{CountedView}
use Rattle.org_wire.specs.declared.stream.End.{End}
use Rattle.org_wire.proofs.SpelledBack.{lines_are_spelled}

module _ (second : Bool) (says : List ℕ → Line) (spelled : IsSpelled second says) where
  read : IsSpelled second (line_of second)
  read = lines_are_spelled second

  one_saying : (line : List ℕ) (l m : Line) → line_of second line ≡ l → says line ≡ m → l ≡ m
  one_saying line Bad Bad p q = refl
  one_saying line Bad (Plainly command) p q = sym p ∙ (read.plain line command).1 ((spelled.plain line command).0 q)
  one_saying line Bad (Framed frame size) p q = sym p ∙ (read.command_of_frame line frame size).1 ((spelled.command_of_frame line frame size).0 q)
  one_saying line (Plainly command) m p q = sym ((spelled.plain line command).1 ((read.plain line command).0 p)) ∙ q
  one_saying line (Framed frame size) m p q = sym ((spelled.command_of_frame line frame size).1 ((read.command_of_frame line frame size).0 p)) ∙ q

  pub says_is : line_of second ≡ says
  says_is = λ i line. one_saying line (line_of second line) (says line) refl refl i

-- so a run over lines that are read is one over lines that say what they spell
pub spelled_run : {W : Type 0} (second : Bool) (contents : W → Option (List ℕ)) (stream : Option (List ℕ)) (had : CountedView W) (old : EngineView) (end : End) (has : CountedView W) (new : EngineView) →
    IsReadRun second contents stream had old end has new → IsSpelledRun second contents stream had old end has new
spelled_run second contents stream had old end has new run = λ says spelled.
    subst (λ (s : List ℕ → Line). IsRunOver second s contents stream had old end has new) (says_is second says spelled) run

pub all_spelled : {W : Type 0} (second : Bool) (contents : W → Option (List ℕ)) (stream : Option (List ℕ)) (had : CountedView W) (old : EngineView) (held : Option (List ℕ)) (has : CountedView W) (new : EngineView) →
    AnswersAllRead second contents stream had old held has new → AnswersAllSpelled second contents stream had old held has new
all_spelled second contents stream had old held has new run = λ says spelled.
    subst (λ (s : List ℕ → Line). AnswersAllTaken second s contents stream had old held has new) (says_is second says spelled) run
