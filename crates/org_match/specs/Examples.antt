-- Worked examples: what the definitions say of inputs at which a wrong rule says something else.
use Rattle.std.specs.Prelude.{◌≡◌, ℕ, Bool, true, false, not, List, [], ◌∷◌, None, Some, codes}
use Rattle.org_cal.specs.declared.moment.Moment.{Moment}
use Rattle.org_expression.specs.Grammar.{And, Differs, Direct, Equal, Expr, item, Op, Open, Or, Pattern, spell, Tag, Tags, Unsigned}
use Rattle.org_match.specs.Compare.{by_times, compares}
use Rattle.org_match.specs.Holds.{holds}
use Rattle.org_match.specs.Patterns.{found}

-- a or b and c
abbrev pub or_and : Expr
or_and = Tags (item Direct Unsigned (Tag (codes "a")) ∷ item Or Unsigned (Tag (codes "b")) ∷ item And Unsigned (Tag (codes "c")) ∷ [])

-- whether it holds of a heading with these tags alone
abbrev pub or_and_holds : Moment → List (List ℕ) → Bool
or_and_holds moment tags = holds tags (λ name. None) None false moment or_and

-- `&` binds tighter than `|`, `/!` leaves out a heading without a keyword, a time that isn't there compares as false, and with
-- a pattern `=` holds where it is found and `<>` where it isn't (Org manual 9.6, "Matching tags and properties")
pub record ExamplesHold : Type 0 where
  pub spelled : spell or_and ≡ codes "a|b&c"
  pub of_a : (moment : Moment) → or_and_holds moment (codes "a" ∷ []) ≡ true
  pub of_b : (moment : Moment) → or_and_holds moment (codes "b" ∷ []) ≡ false
  pub of_both : (moment : Moment) → or_and_holds moment (codes "b" ∷ codes "c" ∷ []) ≡ true
  pub open_has_a_keyword : (moment : Moment) → holds [] (λ name. None) None false moment (Open [] []) ≡ false
  pub no_time_is_false : (op : Op) (minute : ℕ) → by_times op None (Some minute) ≡ false
  pub with_pattern : (moment : Moment) (pattern text : List ℕ) → compares moment Equal text (Pattern pattern) ≡ found pattern text
  pub without_pattern : (moment : Moment) (pattern text : List ℕ) → compares moment Differs text (Pattern pattern) ≡ not (found pattern text)
