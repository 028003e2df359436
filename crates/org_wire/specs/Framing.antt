-- How a stream is cut into commands (profile).
use Rattle.std.specs.Prelude.{Bool, ◌≡◌, ◌≢◌, ◌<◌, ◌≤◌, ℕ, List, [], ◌∷◌, ◌++◌, length}
use Rattle.std.specs.List.{All}
use Rattle.org_base.specs.declared.code.Code.TheVariants as code
use Rattle.org_base.specs.declared.fault.Fault.TheVariants.{Plain}
use Rattle.org_wire.specs.Stream.{Bad, Framed, Plainly, command_of_frame, line_of, reading_of}
use Rattle.org_wire.specs.declared.command.Command.{Command}
use Rattle.org_wire.specs.declared.command.PayloadHeader.{PayloadHeader}
use Rattle.org_wire.specs.declared.command.Next.TheVariants.{Given, Refused, Last, Ended}

-- what stands before a line feed is a line. It has at most 4096 bytes, or all of it is passed over. A payload stands
-- right after, as long as its line says, and has at most 67,108,864 bytes. What ends before that is cut
pub record IsCutSo (second : Bool) (line rest : List ℕ) : Type 0 where
  pub long : 4096 < length line → reading_of second (line ++ 10 ∷ rest) ≡ record { next = Refused (Plain code.Long); rest = rest }
  pub bad : length line ≤ 4096 → line_of second line ≡ Bad → reading_of second (line ++ 10 ∷ rest) ≡ record { next = Refused (Plain code.Command); rest = rest }
  pub plain : (command : Command) → length line ≤ 4096 → line_of second line ≡ Plainly command → reading_of second (line ++ 10 ∷ rest) ≡ record { next = Given command; rest = rest }
  pub payload : (frame : PayloadHeader) (bytes : List ℕ) → length line ≤ 4096 → line_of second line ≡ Framed frame (length bytes) → length bytes ≤ 67_108_864 →
      reading_of second (line ++ 10 ∷ (bytes ++ rest)) ≡ record { next = Given (command_of_frame frame bytes); rest = rest }
  pub size : (frame : PayloadHeader) (n : ℕ) → length line ≤ 4096 → line_of second line ≡ Framed frame n → 67_108_864 < n → reading_of second (line ++ 10 ∷ rest) ≡ record { next = Last (Plain code.Size); rest = rest }
  pub short : (frame : PayloadHeader) (n : ℕ) → length line ≤ 4096 → line_of second line ≡ Framed frame n → n ≤ 67_108_864 → length rest < n → reading_of second (line ++ 10 ∷ rest) ≡ record { next = Last (Plain code.Cut); rest = [] }
  pub unended : 0 < length line → reading_of second line ≡ record { next = Last (Plain code.Cut); rest = [] }

-- a line ends at its first line feed, and what it says is read, with the payload that follows. What is too long or cut
-- off is refused. A stream without bytes has ended
abbrev pub StreamsAreFramed : Type 0
StreamsAreFramed = (second : Bool) → (reading_of second [] ≡ record { next = Ended; rest = [] }) × ((line rest : List ℕ) → All (λ b. b ≢ 10) line → IsCutSo second line rest)
