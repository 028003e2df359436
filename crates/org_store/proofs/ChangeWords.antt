-- Words of the proofs about Change: parts of its definitions.
use Rattle.std.specs.Option.{option_map_or}
use Rattle.std.specs.Prelude.{ℕ, List, Option, Result, Ok, Err}
use Rattle.org_base.specs.declared.code.Code.{Code}
use Rattle.org_base.specs.declared.fault.Fault.{Fault}
use Rattle.org_base.specs.declared.fault.Fault.TheVariants.{Plain}

-- a text, unless a change is refused with a code
abbrev pub unless_refused : Option Code → List ℕ → Result (List ℕ) Fault
unless_refused refusal text = option_map_or (λ code. Err (Plain code)) refusal (Ok text)
