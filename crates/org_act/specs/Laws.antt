-- Laws of acts.
use Rattle.std.specs.Prelude.{◌≡◌, ◌≤◌, ℕ, List, [], ◌∷◌, ◌++◌, length, Result, Ok, Err}
use Rattle.org_act.specs.Completing.{chosen_word, completed_text}
use Rattle.org_act.specs.declared.act.Refusal.{Refusal}
use Rattle.org_act.specs.declared.act.Refusal.TheVariants as refusal
use Rattle.org_act.specs.declared.completion.Completion.{Completion}
use Rattle.org_act.specs.Several.{amended_in_turn}
use Rattle.org_base.specs.declared.fault.Fault.{Fault}
use Rattle.org_complete.specs.Completion.{completed}
use Rattle.org_text.specs.Replace.{max_bytes}

-- what the engine answers, as an act answers it
abbrev pub answered : Result (List ℕ) Fault → Result (List ℕ) Refusal
answered (Ok text) = Ok text
answered (Err fault) = Err (refusal.Fault fault)

-- where nothing stands after the text, what an act makes of it is what the engine makes, by the word that is chosen
abbrev pub ActsComplete : Type 0
ActsComplete = (c : Completion) (text word : List ℕ) → length text ≤ max_bytes → c.behind.now ≡ [] →
    chosen_word text c.line c.keyword ≡ Ok word → completed_text c text ≡ answered (completed text c.line word c.moment)

-- where an act is refused for one of several headings, it is for all, and so
abbrev pub OneRefusalIsOfAll : Type 0
OneRefusalIsOfAll = (amended_on : ℕ → List ℕ → Result (List ℕ) Refusal) (before behind : List ℕ) (line : ℕ) (text made : List ℕ) (why : Refusal) →
    amended_in_turn amended_on before text ≡ Ok made → amended_on line made ≡ Err why → amended_in_turn amended_on (before ++ (line ∷ behind)) text ≡ Err why
