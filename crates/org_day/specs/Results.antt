-- What a result gives, in the words of the other crates.
use Rattle.std.specs.Prelude.{◌≡◌, ◌++◌, ℕ, List, Result, IfOk, OnOk, String, Vec}
use Rattle.std.specs.String.{string_bytes}

-- a vector of these items, unless memory is refused
abbrev pub GivesItems : {T A E : Type 0} → Result (Vec T A) E → List T → Type 0
GivesItems result items = IfOk result (λ given. given.items ≡ items)

-- these items after those of a vector, unless memory is refused
abbrev pub Adds : {T X A E : Type 0} → Result T E → Vec X A → Vec X A → List X → Type 0
Adds result old new items = OnOk result (new.items ≡ old.items ++ items)

-- these bytes after those of a string, unless memory is refused
abbrev pub Writes : {T A E : Type 0} → Result T E → String A → String A → List ℕ → Type 0
Writes result old new bytes = OnOk result (string_bytes new ≡ string_bytes old ++ bytes)

-- a string of these bytes, unless memory is refused
abbrev pub GivesText : {A E : Type 0} → Result (String A) E → List ℕ → Type 0
GivesText result bytes = IfOk result (λ given. string_bytes given ≡ bytes)
