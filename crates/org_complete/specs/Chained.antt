-- What follows where nothing was refused.
use Rattle.std.specs.Prelude.{Result, Ok, Err}

-- what is made of a value, unless that was refused
abbrev pub and_then : {A B E : Type 0} → (A → Result B E) → Result A E → Result B E
and_then f (Err fault) = Err fault
and_then f (Ok value) = f value
