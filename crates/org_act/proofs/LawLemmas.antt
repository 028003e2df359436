-- Laws of acts.
use Rattle.std.proofs.Common.{◌≡◌, ◌≤◌, ◌∙◌, ℕ, List, [], ◌++◌, length, refl, ap, arith, append-nil}
use Rattle.std.specs.Prelude.{Ok, Result, Err}
use Rattle.std.proofs.lemmas.Bool.Decides.{nat_tests}
use Rattle.org_act.specs.Completing.{amended_by, amended_in, completed_text, own_text}
use Rattle.org_act.specs.Laws.{ActsComplete, answered}
use Rattle.org_base.specs.declared.fault.Fault.{Fault}
use Rattle.org_complete.specs.Completion.{completed, completion_part, sized}
use Rattle.org_complete.specs.Parts.{Part}
use Rattle.org_text.specs.Replace.{max_bytes}

-- a text that isn't too long
small : (text : List ℕ) → length text ≤ max_bytes → sized text ≡ Ok text
small text fits = grind (arith, nat_tests)

-- with nothing after it the completed text is the text's own
own_all : (text : List ℕ) (new : Result (List ℕ) Fault) (part : Result Part Fault) → own_text text [] new part ≡ answered new
own_all text (Err fault) part = refl
own_all text (Ok new) part = refl

pub acts_complete : ActsComplete
unfolding completed_text
acts_complete c text word fits none chosen =
    ap (λ (b : List ℕ). amended_in c text (sized (text ++ b))) none
    ∙ ap (λ (t : List ℕ). amended_in c text (sized t)) (append-nil text)
    ∙ ap (amended_in c text) (small text fits)
    ∙ ap (amended_by c text text) chosen
    ∙ ap (λ (b : List ℕ). own_text text b (completed text c.line word c.moment) (completion_part text c.line word c.moment)) none
    ∙ own_all text (completed text c.line word c.moment) (completion_part text c.line word c.moment)
