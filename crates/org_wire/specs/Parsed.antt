-- What a line that was parsed without memory says.
-- Characters by their codes: 32 space, 124 |.
use Rattle.std.specs.Prelude.{◌≤◌, List, [], ℕ, Option, None, Some, length}
use Rattle.std.specs.Borrow.{Bor}
use Rattle.std.specs.Option.{option_copied}
use Rattle.org_wire.specs.Lines.{Cut}
use Rattle.org_wire.specs.Stream.{Line, Bad, Plainly, Framed, words_from}
use Rattle.org_wire.specs.declared.command.Command.{Command}
use Rattle.org_wire.specs.declared.command.Command.TheVariants as command
use Rattle.org_wire.specs.declared.command.PayloadHeader.TheVariants as frame
use Rattle.org_wire.specs.declared.command.BaseVersion.{BaseVersion}
use Rattle.org_wire.specs.declared.parsed.ParsedLine.{ParsedLine}
use Rattle.org_wire.specs.declared.parsed.ParsedLine.TheVariants as parsed
use Rattle.org_wire.specs.declared.parsed.BorrowedCommand.{BorrowedCommand}
use Rattle.org_wire.specs.declared.parsed.BorrowedCommand.TheVariants as words
use Rattle.org_wire.specs.declared.words.BaseVersionWords.{BaseVersionWords}

-- the words between bytes of a kind, where there are any
abbrev pub words_in : ℕ → Option (List ℕ) → List (List ℕ)
words_in gap None = []
words_in gap (Some words) = words_from gap [] words

-- what a session saw, as a line says it
abbrev pub seen_in : BaseVersionWords → BaseVersion
seen_in seen = record { session = seen.session; name = seen.name.now; serial = seen.serial }

-- what stands before a byte, and what follows it
abbrev pub cut_of : Bor (List ℕ) × Bor (List ℕ) → Cut
cut_of parts = record { before = parts.0.now; after = parts.1.now }

-- a number, and what follows it
abbrev pub number_and_rest : ℕ × Bor (List ℕ) → ℕ × List ℕ
number_and_rest first = (first.0, first.1.now)

-- what a session saw, and what follows it
abbrev pub seen_and_rest : BaseVersionWords × Bor (List ℕ) → BaseVersion × List ℕ
seen_and_rest seen = (seen_in seen.0, seen.1.now)

-- the command of the words of a line
abbrev pub worded : BorrowedCommand → Command
worded (words.Todo request file keywords) = command.Todo request (option_copied file) (words_in 124 (option_copied keywords))
worded (words.Match request file text) = command.Match request (option_copied file) text.now
worded (words.Clock request text) = command.Clock request text.now
worded (words.Agenda request date days) = command.Agenda request date.now days
worded (words.Drop name) = command.Drop name.now
worded (words.Complete seen line keyword) = command.Complete (seen_in seen) line keyword.now
worded (words.Inherit names) = command.Inherit (words_in 32 (option_copied names))
worded (words.Text name) = command.Text name.now
worded (words.Keywords name) = command.Keywords name.now

-- what a parsed line says
abbrev pub said : ParsedLine → Line
said parsed.Bad = Bad
said (parsed.Ready command) = Plainly command
said (parsed.BorrowedCommand words) = Plainly (worded words)
said (parsed.Add name size) = Framed (frame.Add name.now) size
said (parsed.Edit seen at del size) = Framed (frame.Edit (seen_in seen) at del) size

-- an expression, and the options of a table, are no longer than so many bytes
abbrev pub AreWithin : ℕ → BorrowedCommand → Type 0
AreWithin most (words.Match request file text) = length text.now ≤ most
AreWithin most (words.Clock request text) = length text.now ≤ most
AreWithin most (words.Todo request file keywords) = Unit {0}
AreWithin most (words.Agenda request date days) = Unit {0}
AreWithin most (words.Drop name) = Unit {0}
AreWithin most (words.Complete seen line keyword) = Unit {0}
AreWithin most (words.Inherit names) = Unit {0}
AreWithin most (words.Text name) = Unit {0}
AreWithin most (words.Keywords name) = Unit {0}

-- the same of a parsed line
abbrev pub IsWithin : ℕ → ParsedLine → Type 0
IsWithin most parsed.Bad = Unit {0}
IsWithin most (parsed.Ready command) = Unit {0}
IsWithin most (parsed.BorrowedCommand words) = AreWithin most words
IsWithin most (parsed.Add name size) = Unit {0}
IsWithin most (parsed.Edit seen at del size) = Unit {0}
