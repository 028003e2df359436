-- An act on several headings, one step further.
use Rattle.std.proofs.Common.{◌≡◌, ◌∙◌, ℕ, inl, inr, List, [], ◌∷◌, ◌++◌, refl, ap}
use Rattle.std.specs.Prelude.{Result, Ok, Err, IsOk}
use Rattle.std.specs.Str.{IsUtf8, is_utf8}
use Rattle.std.proofs.lemmas.Str.{IsUtf8-from_is_utf8, is_utf8-from_IsUtf8}
use Rattle.std.proofs.lemmas.Bool.{cases_Bool}
use Rattle.org_act.specs.Laws.{OneRefusalIsOfAll}
use Rattle.org_act.specs.Several.{amended_in_turn, if_text, on_text}
use Rattle.org_act.specs.declared.act.Refusal.{Refusal}
use Rattle.org_act.specs.declared.act.Refusal.TheVariants as refusal

pub text_stays : (made : List ℕ) → IsUtf8 made → if_text (Ok made) ≡ Ok made
text_stays made utf8 = rw (is_utf8-from_IsUtf8 made utf8) refl

pub no_text : (made : List ℕ) → (IsUtf8 made → ⊥) → if_text (Ok made) ≡ Err refusal.Misread
no_text made none = elim (cases_Bool (is_utf8 made)) [
  | inl e ↦ absurd (none (IsUtf8-from_is_utf8 made e))
  | inr e ↦ rw e refl
]

-- a result that is a refusal is no success
pub not_ok : {T E : Type 0} (result : Result T E) (e : E) → result ≡ Err e → IsOk result → ⊥
not_ok (Ok t) e is ok = absurd cc
not_ok (Err f) e is ok = absurd cc

-- on some headings and then on others is on all of them
in_turn : (amended_on : ℕ → List ℕ → Result (List ℕ) Refusal) (lines others text : List ℕ) →
    amended_in_turn amended_on (lines ++ others) text ≡ on_text (amended_in_turn amended_on others) (amended_in_turn amended_on lines text)
in_turn amended_on [] others text = refl
in_turn amended_on (line ∷ lines) others text = by (λ new. in_turn amended_on lines others new) (if_text (amended_on line text))
  where
    by : ((new : List ℕ) → amended_in_turn amended_on (lines ++ others) new ≡ on_text (amended_in_turn amended_on others) (amended_in_turn amended_on lines new)) → (made : Result (List ℕ) Refusal) →
        on_text (amended_in_turn amended_on (lines ++ others)) made ≡ on_text (amended_in_turn amended_on others) (on_text (amended_in_turn amended_on lines) made)
    by next (Ok new) = next new
    by next (Err why) = refl

pub one_refusal_is_of_all : OneRefusalIsOfAll
one_refusal_is_of_all amended_on before behind line text made why done refused =
    in_turn amended_on before (line ∷ behind) text
    ∙ (ap (on_text (amended_in_turn amended_on (line ∷ behind))) done
    ∙ ap (λ (r : Result (List ℕ) Refusal). on_text (amended_in_turn amended_on behind) (if_text r)) refused)
