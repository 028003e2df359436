-- Words of the proofs about Print: parts of its definitions.
use Rattle.std.specs.Option.{option_map_or}
use Rattle.std.specs.Prelude.{ℕ, List, [], ◌∷◌, Option}
use Rattle.org_cal.specs.declared.unit.Unit.{Unit}
use Rattle.org_cal.specs.Texts.{time_text}
use Rattle.org_stamp.specs.Print.{amount_text}

-- a repeater's limit after a slash
abbrev pub limit_text : Option (ℕ × Unit) → List ℕ
limit_text limit = option_map_or (λ a. 47 ∷ amount_text a) limit []

-- the end of a time range after a dash
abbrev pub end_text : Option ℕ → List ℕ
end_text end_time = option_map_or (λ e. 45 ∷ time_text e) end_time []
