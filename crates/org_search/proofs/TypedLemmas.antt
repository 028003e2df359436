-- Words without a minus in front.
use Rattle.std.proofs.Common.{◌≡◌, ◌≢◌, ◌∙◌, ℕ, true, ◌==◌, List, [], ◌∷◌, ◌++◌, ap, refl}
use Rattle.std.specs.Char.{encode_utf8}
use Rattle.std.proofs.lemmas.Bool.{eqb-true, false_from_ne_true}
use Rattle.org_search.specs.Typed.{Asked, Sought, sought_of, typed_of}

abbrev wanted : Sought → Asked
wanted sought = record { is_wanted = true; sought = sought }

unsigned : (word : List ℕ) → ((rest : List ℕ) → word ≢ encode_utf8 45 ++ rest) → wanted (sought_of word) ≡ typed_of word
unfolding lib.Utf8.encode
unsigned [] none = refl
unsigned (b ∷ word) none =
    rw (false_from_ne_true (b == 45) (λ is. none word (ap (λ x. x ∷ word) (eqb-true b 45 is)))) refl

pub wanted_as_typed : (sought : Sought) (word : List ℕ) → sought ≡ sought_of word → ((rest : List ℕ) → word ≢ encode_utf8 45 ++ rest) → wanted sought ≡ typed_of word
wanted_as_typed sought word same none = ap wanted same ∙ unsigned word none
