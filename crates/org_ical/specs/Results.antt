-- What a result gives, in the words of the other crates.
use Rattle.std.specs.Prelude.{◌≡◌, ◌++◌, ℕ, List, Result, IfOk, OnOk, Vec, map}
use Rattle.org_ical.specs.Lines.{written}

-- this value, unless memory is refused
abbrev pub Gives : {T E : Type 0} → Result T E → T → Type 0
Gives result value = IfOk result (λ given. given ≡ value)

-- a vector of these items, unless memory is refused
abbrev pub GivesItems : {T A E : Type 0} → Result (Vec T A) E → List T → Type 0
GivesItems result items = IfOk result (λ given. given.items ≡ items)

-- these items after those of a vector, unless memory is refused
abbrev pub Adds : {T X A E : Type 0} → Result T E → Vec X A → Vec X A → List X → Type 0
Adds result old new items = OnOk result (new.items ≡ old.items ++ items)

-- these content lines after what a vector has, folded, unless memory is refused
abbrev pub AddsLines : {T A E : Type 0} → Result T E → Vec ℕ A → Vec ℕ A → List (List ℕ) → Type 0
AddsLines result old new lines = Adds result old new (written lines)

-- the bytes of some texts
abbrev pub bytes_of : {A : Type 0} → List (Vec ℕ A) → List (List ℕ)
bytes_of texts = map (λ text. text.items) texts
