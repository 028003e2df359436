-- What calls give, in words of pictures.
use Rattle.std.specs.Prelude.{◌≡◌, ◌+◌, ℕ, List, Result, IfOk, OnOk, String, Vec}
use Rattle.std.specs.String.{string_bytes}
use Rattle.org_look.specs.Grids.{AreWide}
use Rattle.org_look.specs.Widths.{columns_of}
use Rattle.org_look.specs.declared.strip.Strip.{Strip}

-- a strip of these bytes, unless memory is refused
abbrev pub GivesStrip : {E : Type 0} → Result Strip E → List ℕ → Type 0
GivesStrip result bytes = IfOk result (λ strip. string_bytes strip.text ≡ bytes)

-- a strip of so many columns, unless memory is refused
abbrev pub GivesWide : {E : Type 0} → Result Strip E → ℕ → Type 0
GivesWide result columns = IfOk result (λ strip. strip.columns ≡ columns)

-- lines that are so wide stay so with those that are added, unless memory is refused
abbrev pub KeepsWide : {T A E : Type 0} → Result T E → Vec Strip A → Vec Strip A → ℕ → Type 0
KeepsWide result old new columns = AreWide columns old.items → OnOk result (AreWide columns new.items)

-- so many columns more, unless memory is refused
abbrev pub Widens : {T A E : Type 0} → Result T E → String A → String A → ℕ → Type 0
Widens result old new columns = OnOk result (columns_of (string_bytes new) ≡ columns_of (string_bytes old) + columns)
