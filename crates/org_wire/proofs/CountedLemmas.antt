-- What the turns of a run count.
use Rattle.std.proofs.Common.{◌≡◌, Bool, List, [], ◌∷◌, ◌++◌, ℕ, refl, ap, sym, subst, arith}
use Rattle.std.specs.Prelude.{Option, None, Some, IfSome}
use Rattle.org_engine.specs.Marks.{Reads}
use Rattle.org_engine.specs.World.{EngineView}
use Rattle.org_wire.specs.Counting.{CountedRuns, CountedTurn, CountsAlong, CountsSo, IsCountedSoFar}
use Rattle.org_wire.specs.Stream.{IsRead, reading_of}
use Rattle.org_wire.specs.Turns.{Answered, CountsFor}
use Rattle.org_wire.specs.declared.command.Command.{Command}
use Rattle.org_wire.specs.declared.command.Command.TheVariants.{Add, Agenda, At, Clock, Complete, Drop, Edit, Inherit, Keywords, Match, Pin, Profile, Text, Todo, Unpin, Version}
use Rattle.org_wire.specs.declared.command.Next.{Next}
use Rattle.org_wire.specs.declared.command.Next.TheVariants.{Given, Refused, Last, Ended}
use Rattle.org_wire.specs.declared.reply.Reply.{Reply}
use Rattle.org_wire.proofs.RunLemmas.{read_at, turn_of}

-- nothing is no more than a command may count
nothing_counts : (command : Command) (e : EngineView) → CountsFor command e e
nothing_counts (Todo session file words) e = (0, omega arith, 0, λ lt. absurd (omega (arith, lt)), refl)
nothing_counts (Match session file text) e = (0, omega arith, 0, λ lt. absurd (omega (arith, lt)), refl)
nothing_counts (Agenda session date days) e = (0, omega arith, 0, λ lt. absurd (omega (arith, lt)), refl)
nothing_counts (Clock session text) e = (0, omega arith, 0, λ lt. absurd (omega (arith, lt)), refl)
nothing_counts (Complete seen line keyword) e = record { reads = 0; count = 0; one = omega arith; few = omega arith; counts = refl }
nothing_counts (Add name text) e = (0, omega arith, refl)
nothing_counts (Edit seen at del ins) e = (0, omega arith, refl)
nothing_counts (Drop name) e = refl
nothing_counts (Inherit names) e = refl
nothing_counts (At moment) e = refl
nothing_counts (Profile profile) e = refl
nothing_counts (Pin session) e = refl
nothing_counts (Unpin session) e = refl
nothing_counts (Text name) e = refl
nothing_counts (Keywords name) e = refl
nothing_counts Version e = refl

nothing_so : (next : Next) (e : EngineView) → CountsSo next e e
nothing_so (Given command) e = nothing_counts command e
nothing_so (Refused fault) e = refl
nothing_so (Last fault) e = refl
nothing_so Ended e = refl

-- what a reading did to the engine
abbrev pub Did : Next → EngineView → EngineView → Type 0
Did (Given command) old new = CountsFor command old new
Did (Refused fault) old new = new ≡ old
Did (Last fault) old new = ⊥
Did Ended old new = ⊥

module _ (second : Bool) where
  did_so : (rest : List ℕ) (result : Next) (next : Option (List ℕ)) (old new : EngineView) → IsRead (reading_of second rest) result next → Did result old new → CountsSo (reading_of second rest).next old new
  did_so rest (Given command) next old new read did = subst (λ (n : Next). CountsSo n old new) (read.is (λ e. cc) (λ e. cc)) did
  did_so rest (Refused fault) next old new read did = subst (λ (e : EngineView). CountsSo (reading_of second rest).next old e) (sym did) (nothing_so (reading_of second rest).next old)
  did_so rest (Last fault) next old new read did = absurd did
  did_so rest Ended next old new read did = absurd did

  counted_more : (idle : ℕ) (answers : List Reply) (bytes : List ℕ) (old : EngineView) (rest : List ℕ) (mid : EngineView) (answer : Reply) (new : EngineView) →
      CountedRuns idle second bytes old answers rest mid → CountedTurn idle second rest mid answer new → CountedRuns idle second bytes old (answers ++ answer ∷ []) (reading_of second rest).rest new
  counted_more idle [] bytes old rest mid answer new h t =
      let at : CountedTurn idle second bytes mid answer new = subst (λ (b : List ℕ). CountedTurn idle second b mid answer new) h.0 t in
      (new, subst (λ (e : EngineView). CountedTurn idle second bytes e answer new) h.1 at, (ap (λ (b : List ℕ). (reading_of second b).rest) h.0, refl))
  counted_more idle (a ∷ answers) bytes old rest mid answer new h t = (h.0, h.1, counted_more idle answers (reading_of second bytes).rest h.0 rest mid answer new h.2 t)

  -- one more turn, and the background steps after it
  pub count_turn : (idle : ℕ) (first now next : Option (List ℕ)) (old mid new end : EngineView) (result : Next) (answer : Reply) → IfSome first (λ bytes. IsCountedSoFar idle second bytes old mid now) →
      IfSome now (λ b. IsRead (reading_of second b) result next) → Answered second result mid.state answer new.state → Did result mid new → end.state ≡ new.state → Reads idle new end →
      IfSome first (λ bytes. IsCountedSoFar idle second bytes old end next)
  count_turn idle None now next old mid new end result answer s read a did state steps = tt
  count_turn idle (Some bytes) now next old mid new end result answer s read a did state steps =
      let r = read_at second now next s.rest result s.left read in
      let t = turn_of second s.rest result next mid.state new.state answer r a in
      record {
        answers = s.answers ++ answer ∷ [];
        rest = (reading_of second s.rest).rest;
        left = t.1;
        runs = counted_more idle s.answers bytes old s.rest mid answer end s.runs (record { mid = new; turn = t.0; counts = did_so s.rest result next mid new r did; state = state; steps = steps });
      }

  pub count_end : (idle : ℕ) (first now : Option (List ℕ)) (old new : EngineView) → IfSome first (λ bytes. IsCountedSoFar idle second bytes old new now) → CountsAlong idle second first old new
  count_end idle None now old new s = tt
  count_end idle (Some bytes) now old new s = record { answers = s.answers; rest = s.rest; runs = s.runs }

  -- a turn whose reply was cut off
  pub count_cut : (idle : ℕ) (first now next : Option (List ℕ)) (old mid new : EngineView) (result : Next) (answer : Reply) → IfSome first (λ bytes. IsCountedSoFar idle second bytes old mid now) →
      IfSome now (λ b. IsRead (reading_of second b) result next) → Answered second result mid.state answer new.state → Did result mid new → CountsAlong idle second first old new
  count_cut idle first now next old mid new result answer s read a did =
      count_end idle first next old new (count_turn idle first now next old mid new new result answer s read a did refl (0, omega arith, refl))
