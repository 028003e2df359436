-- What a run leaves open (profile).
use Rattle.std.specs.Prelude.{◌≡◌, Bool, ◌≢◌, List, ℕ, Option, Some, length}
use Rattle.std.specs.List.{All}
use Rattle.org_base.specs.declared.code.Code.TheVariants.{Regexp}
use Rattle.org_base.specs.declared.fault.Fault.TheVariants.{Plain}
use Rattle.org_engine.specs.World.{State}
use Rattle.org_wire.specs.Run.{IsWhole, AreReplies, out_of_memory}
use Rattle.org_wire.specs.Stream.{line_of}
use Rattle.org_wire.specs.declared.reply.Reply.{Reply}
use Rattle.org_wire.specs.declared.reply.Reply.TheVariants.{Refused}
use Rattle.org_wire.specs.declared.stream.End.{End}

-- neither out of memory is answered, nor that `regex` refuses a pattern
abbrev pub IsSettled : Reply → Type 0
IsSettled answer = (answer ≢ out_of_memory) × (answer ≢ Refused (Plain Regexp))

-- what a run does is determined but for want of memory and refused patterns. Two runs over one stream, from one state and
-- with as many replies, have the same replies, the same rest of the stream and the same state. Two over the whole stream
-- also write the same and end alike
pub record RunsAreDetermined : Type 0 where
  pub alike : (second : Bool) (bytes rest left : List ℕ) (old new after : State) (answers others : List Reply) → AreReplies second (line_of second) bytes old answers rest new → AreReplies second (line_of second) bytes old others left after →
      length answers ≡ length others → All IsSettled answers → All IsSettled others → (answers ≡ others) × (rest ≡ left) × (new ≡ after)
  pub whole : (second : Bool) (bytes had : List ℕ) (has held : Option (List ℕ)) (old new after : State) (end last : End) (run : IsWhole second (line_of second) bytes old end new (Some had) has) (other : IsWhole second (line_of second) bytes old last after (Some had) held) →
      All IsSettled run.answers → All IsSettled other.answers → (has ≡ held) × (end ≡ last) × (new ≡ after)
