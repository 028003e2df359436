-- What a call of `next` gives (profile).
use Rattle.std.specs.Prelude.{◌≡◌, List, [], ◌∷◌, length, Option, Result, MatchOption, MatchResult, IsTrue, ◌↔◌, false}
use Rattle.std.specs.Cow.{cow_slice_items, IsBorrowedSlice}
use Rattle.org_base.specs.Codes.{memory_fault}
use Rattle.org_base.specs.declared.fault.Fault.{Fault}
use Rattle.org_lines.specs.Cuts.{Cut}
use Rattle.org_lines.specs.declared.lines.Line.{Line}

-- the line is the cut
pub record IsCut (line : Line) (cut : Cut) : Type 0 where
  pub at : line.span.at ≡ cut.at
  pub len : line.span.len ≡ length cut.bytes
  pub bytes : cow_slice_items line.bytes ≡ cut.bytes
  pub lent : IsBorrowedSlice line.bytes ↔ IsTrue cut.lent

-- the first line that is left comes; or none is left; or memory was refused to a line that could not be lent, and none is left then
abbrev pub LineComes : List Cut → Option (Result Line Fault) → List Cut → Type 0
LineComes s r t = MatchOption r ((s ≡ []) × (t ≡ [])) (λ item. MatchResult item
    (λ line. (cut : Cut) × (s ≡ cut ∷ t) × IsCut line cut)
    (λ fault. (cut : Cut) × (rest : List Cut) × (s ≡ cut ∷ rest) × (cut.lent ≡ false) × (fault ≡ memory_fault) × (t ≡ [])))
