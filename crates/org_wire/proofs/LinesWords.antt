-- Words of the proofs about Lines: parts of its definitions.
use Rattle.std.specs.Option.{option_map}
use Rattle.std.specs.Prelude.{ℕ, ◌∷◌, Option}
use Rattle.org_wire.specs.Lines.{Cut}

-- bytes that are cut, with one byte more in front
abbrev pub cut_before : ℕ → Option Cut → Option Cut
cut_before x found = option_map (λ cut. record { before = x ∷ cut.before; after = cut.after }) found
