-- One more word of a keyword line.
use Rattle.std.proofs.Common.{◌≡◌, inl, inr, ℕ, suc, ◌+◌, true, false, not, cond, ◌==◌, List, ◌∷◌, refl, ap, ◌∙◌, arith}
use Rattle.std.proofs.lemmas.Bool.{cases_Bool, ne_eqb}
use Rattle.org_settings.specs.Keywords.{is_bar, is_named, bar_place, named_until}

pub bar_here : (i : ℕ) (w : List ℕ) (ws : List (List ℕ)) → is_bar w ≡ true → i + bar_place (w ∷ ws) ≡ i
bar_here i w ws e = ap (λ c. i + cond (not c) (1 + bar_place ws) 0) e ∙ omega arith

pub bar_later : (i : ℕ) (w : List ℕ) (ws : List (List ℕ)) → is_bar w ≡ false → i + bar_place (w ∷ ws) ≡ i + 1 + bar_place ws
bar_later i w ws e = ap (λ c. i + cond (not c) (1 + bar_place ws) 0) e ∙ omega arith

-- the last so far, or one of the words from a place on
abbrev pub last_named : ℕ → ℕ → List (List ℕ) → ℕ
last_named until i ws = cond (named_until ws == 0) until (i + named_until ws)

pub last_more : (until i : ℕ) (w : List ℕ) (ws : List (List ℕ)) → last_named until i (w ∷ ws) ≡ last_named (cond (is_named w) (i + 1) until) (i + 1) ws
last_more until i w ws = elim (cases_Bool (named_until ws == 0)) [
  | inl none ↦ elim (cases_Bool (is_named w)) [
    | inl e ↦ rw (none, e) refl
    | inr e ↦ rw (none, e) refl
  ]
  | inr some ↦ rw (some, ne_eqb (suc (named_until ws)) 0 (λ z. omega arith)) (omega arith)
]
