-- What contracts see of a reader or a writer that is counted, and of an input (profile).
use Rattle.std.specs.Prelude.{ℕ, Bool, List}
use Rattle.std.specs.Borrow.{MutBor}

-- the reader or the writer, how often it was called, how often a call failed, and whether all that was written was flushed
pub record CountedView (D : Type 0) : Type 0 where
  pub inner : D
  pub calls : ℕ
  pub failed : ℕ
  pub is_flushed : Bool

-- the reader that an input lends, what was read ahead of it and not yet taken, the line that was read last, and whether
-- whether the second protocol is spoken
pub record InputView (R : Type 0) : Type 0 where
  pub reader : MutBor (CountedView R)
  pub room : List ℕ
  pub line : List ℕ
  pub second : Bool
