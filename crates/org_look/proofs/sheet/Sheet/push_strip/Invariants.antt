-- The text has the strip's behind it.
use Rattle.std.proofs.Common.{◌≡◌, ◌++◌, string_bytes}
use Rattle.org_look.proofs.sheet.Sheet.push_strip.Given as goal

abbrev pub invariant-loop-stain : goal.invariant-loop-stain
invariant-loop-stain l = string_bytes l.self.text ≡ string_bytes l.fn.self.text ++ string_bytes l.strip.text
