-- Three words among references.
use Rattle.std.proofs.Common.{◌≡◌, ◌≢◌, ℕ, List, [], ◌∷◌, length, get_or, None, refl, arith}
use Rattle.std.specs.Borrow.{Bor}
use Rattle.std.proofs.lemmas.Bool.{ne_eqb}
use Rattle.std.proofs.lemmas.List.{length-map}
use Rattle.org_settings.proofs.RefLemmas.{texts}
use Rattle.org_settings.specs.SettingLines.{default_of, default_of_three}

pub three : (xs : List (Bor (List ℕ))) (d : Bor (List ℕ)) → length xs ≡ 3 → default_of (texts xs) ≡ default_of_three (get_or xs 0 d).now (get_or xs 1 d).now (get_or xs 2 d).now
three [] d h = absurd (omega arith)
three (a ∷ []) d h = absurd (omega arith)
three (a ∷ b ∷ []) d h = absurd (omega arith)
three (a ∷ b ∷ c ∷ []) d h = refl
three (a ∷ b ∷ c ∷ e ∷ xs) d h = absurd (omega arith)

pub not_three : (xs : List (Bor (List ℕ))) → length xs ≢ 3 → default_of (texts xs) ≡ None
not_three xs h = rw (ne_eqb (length (texts xs)) 3 (λ e. h (let count = length-map xs (λ (x : Bor (List ℕ)). x.now) in omega arith))) refl
