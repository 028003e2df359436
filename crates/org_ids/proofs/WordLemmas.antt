-- The words of a title, as they are written one after the other.
use Rattle.std.proofs.Common.{◌≡◌, ◌∙◌, ◌<◌, ◌≤◌, ◌-◌, ℕ, zero, suc, Bool, true, false, List, [], ◌∷◌, ◌++◌, refl, sym, ap, append_assoc, arith, inl, inr}
use Rattle.std.specs.Prelude.{◌==◌, ◌&&◌}
use Rattle.std.specs.List.{list_any}
use Rattle.std.proofs.lemmas.Bool.{cases_Bool}
use Rattle.org_ids.specs.Names.{bounded}
use Rattle.org_ids.specs.Words.{beside_cookies, cookie_length, gap, is_blank, words_text}
use Rattle.org_ids.proofs.WayLemmas.{take_behind}

-- a text behind which a cookie of that length begins, or none
abbrev behind_length : ℕ → ℕ → List ℕ → List ℕ
behind_length n byte bytes = elim n [ zero ↦ byte ∷ beside_cookies 0 bytes | suc left ↦ 32 ∷ beside_cookies left bytes ]

-- a title without brackets has no cookies
no_cookie : (byte : ℕ) (bytes : List ℕ) → (byte == 91) ≡ false → cookie_length (byte ∷ bytes) ≡ 0
no_cookie byte bytes h = rw h refl

pub no_cookies : (title : List ℕ) → list_any (λ byte. byte == 91) title ≡ false → beside_cookies 0 title ≡ title
no_cookies [] h = refl
no_cookies (byte ∷ bytes) h = elim (cases_Bool (byte == 91)) [
  | inl here ↦ absurd (contradicts (rw here at h))
  | inr other ↦
      ap (λ (n : ℕ). behind_length n byte bytes) (no_cookie byte bytes other)
      ∙ ap (λ (x : List ℕ). byte ∷ x) (no_cookies bytes (rw other at h))
]
  where
    contradicts : ◌≡◌ {A = Bool} true false → ⊥
    contradicts e = cc

-- what is left behind a byte within a cookie
pub within_cookie : (left byte : ℕ) (bytes : List ℕ) → 0 < left → beside_cookies left (byte ∷ bytes) ≡ beside_cookies (left - 1) bytes
within_cookie zero byte bytes h = absurd (omega (arith, h))
within_cookie (suc left) byte bytes h =
    let e : left ≡ suc left - 1 = omega arith in
    ap (λ (n : ℕ). beside_cookies n bytes) e

some_length : (n byte : ℕ) (bytes : List ℕ) → 0 < n → behind_length n byte bytes ≡ 32 ∷ beside_cookies (n - 1) bytes
some_length zero byte bytes h = absurd (omega (arith, h))
some_length (suc left) byte bytes h =
    let e : left ≡ suc left - 1 = omega arith in
    ap (λ (n : ℕ). 32 ∷ beside_cookies n bytes) e

no_length : (n byte : ℕ) (bytes : List ℕ) → n ≤ 0 → behind_length n byte bytes ≡ byte ∷ beside_cookies 0 bytes
no_length zero byte bytes h = refl
no_length (suc left) byte bytes h = absurd (omega (arith, h))

-- a space stands for a cookie
pub at_cookie : (n byte : ℕ) (bytes : List ℕ) → n ≡ cookie_length (byte ∷ bytes) → 0 < n → beside_cookies 0 (byte ∷ bytes) ≡ 32 ∷ beside_cookies (n - 1) bytes
at_cookie n byte bytes e h = ap (λ (k : ℕ). behind_length k byte bytes) (sym e) ∙ some_length n byte bytes h

pub at_byte : (n byte : ℕ) (bytes : List ℕ) → n ≡ cookie_length (byte ∷ bytes) → n ≤ 0 → beside_cookies 0 (byte ∷ bytes) ≡ byte ∷ beside_cookies 0 bytes
at_byte n byte bytes e h = ap (λ (k : ℕ). behind_length k byte bytes) (sym e) ∙ no_length n byte bytes h

-- a blank is left out
pub at_blank : (has apart : Bool) (byte : ℕ) (bytes : List ℕ) → is_blank byte ≡ true → words_text has apart (byte ∷ bytes) ≡ words_text has true bytes
at_blank has apart byte bytes h = rw h refl

-- a byte of a word is put as far as a name goes, and what is left behind it
pub at_word : (has apart : Bool) (byte : ℕ) (front bytes : List ℕ) → is_blank byte ≡ false →
    bounded (bounded (front ++ (gap (has && apart) ++ byte ∷ [])) ++ words_text true false bytes) ≡ bounded (front ++ words_text has apart (byte ∷ bytes))
at_word has apart byte front bytes h =
    take_behind 512 (front ++ (gap (has && apart) ++ byte ∷ [])) (words_text true false bytes)
    ∙ ap bounded (append_assoc front (gap (has && apart) ++ byte ∷ []) (words_text true false bytes))
    ∙ ap (λ (x : List ℕ). bounded (front ++ x)) (sym (word_is h))
  where
    word_is : is_blank byte ≡ false → words_text has apart (byte ∷ bytes) ≡ (gap (has && apart) ++ byte ∷ []) ++ words_text true false bytes
    word_is e = rw e refl
