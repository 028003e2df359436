-- When a text isn't read as an expression (profile: the refusal says how far the text goes).
use Rattle.std.specs.Prelude.{◌≡◌, ◌⊎◌, ℕ, List}
use Rattle.org_base.specs.declared.fault.Fault.{Fault}
use Rattle.org_base.specs.declared.fault.Fault.TheVariants.{MatchAt}
use Rattle.org_base.specs.Codes.{memory_fault}
use Rattle.org_expression.specs.Grammar.{Expr, Reads, IsLongestFront}

-- the characters are no expression, and the refusal says how many bytes of them begin one
pub record IsNoExpr (cs : List ℕ) (why : Fault) : Type 0 where
  pub none : (e : Expr) → Reads cs e → ⊥
  pub at : ℕ
  pub says : why ≡ MatchAt at
  pub longest : IsLongestFront cs at

-- why the characters aren't read: they are no expression, or they are one and memory is wanted
abbrev pub IsUnread : List ℕ → Fault → Type 0
IsUnread cs why = IsNoExpr cs why ⊎ ((why ≡ memory_fault) × ((e : Expr) × Reads cs e))
