-- What doesn't begin with `#` is no comment, no setting, and opens no block.
use Rattle.std.proofs.Common.{◌≡◌, ℕ, zero, suc, ◌<◌, Bool, false, ◌==◌, List, [], ◌∷◌, take, refl, sym, ◌∙◌, inl, inr, arith}
use Rattle.std.specs.List.{prefix_len}
use Rattle.std.specs.Prelude.{codes, bytes_eq, slice_index, take_while}
use Rattle.std.proofs.lemmas.Bool.{cases_Bool, eqb-false, ne_eqb}
use Rattle.org_base.specs.Words.{first_word, is_letter, trim_start}
use Rattle.org_class.specs.Blocks.{begins_with, block_name}
use Rattle.org_class.specs.LineClass.{has_hash, is_comment, is_setting, is_setting_word}
use Rattle.org_class.proofs.HashLemmas.{small_hash}

-- the text begins with #
abbrev begins : List ℕ → Bool
begins t = slice_index t 0 == 35

front_of : (n x : ℕ) (t : List ℕ) → 0 < n → begins (take n (x ∷ t)) ≡ begins (x ∷ t)
front_of zero x t some = absurd (omega (arith, some))
front_of (suc n) x t some = refl

-- so does its first word
word_begins : (t : List ℕ) → begins t ≡ false → begins (take_while is_letter t) ≡ false
word_begins [] e = refl
word_begins (x ∷ t) e = elim (cases_Bool (is_letter x)) [
  | inl letter ↦ front_of (prefix_len is_letter (x ∷ t)) x t (rw letter (omega arith)) ∙ e
  | inr gap ↦ rw gap refl
]

turned : (x : ℕ) → (x == 35) ≡ false → (35 == x) ≡ false
turned x e = ne_eqb 35 x (λ same. eqb-false x 35 e (sym same))

no_comment : (w : List ℕ) → begins w ≡ false → bytes_eq w (codes "#") ≡ false
no_comment [] e = refl
no_comment (x ∷ w) e = rw e refl

no_setting : (w : List ℕ) → begins w ≡ false → is_setting_word w ≡ false
no_setting [] e = refl
no_setting (x ∷ []) e = rw (turned x e) refl
no_setting (x ∷ y ∷ w) e = rw (turned x e) refl

no_block : (w : List ℕ) → begins w ≡ false → begins_with w (codes "#+BEGIN_") ≡ false
no_block [] e = refl
no_block (x ∷ w) e = rw (small_hash x e) refl

pub comment_has_hash : (l : List ℕ) → has_hash l ≡ false → is_comment l ≡ false
comment_has_hash l e = no_comment (first_word l) (word_begins (trim_start l) e)

pub setting_has_hash : (l : List ℕ) → has_hash l ≡ false → is_setting l ≡ false
setting_has_hash l e = no_setting (first_word l) (word_begins (trim_start l) e)

pub block_has_hash : (l : List ℕ) → has_hash l ≡ false → block_name l ≡ []
block_has_hash l e = rw (no_block (first_word l) (word_begins (trim_start l) e)) refl
