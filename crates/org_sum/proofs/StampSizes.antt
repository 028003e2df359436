-- A stamp has at least twelve bytes.
use Rattle.std.proofs.Common.{◌≡◌, ℕ, zero, suc, ◌≤◌, Bool, true, false, if◌then◌else◌, List, [], ◌∷◌, length, drop, take, refl, ap, arith, length-drop, length-append, inl, inr}
use Rattle.std.specs.Prelude.{Option, Some, None}
use Rattle.std.specs.List.{position_or_len, prefix_len}
use Rattle.std.specs.Option.{option_and_then}
use Rattle.std.proofs.lemmas.List.{length-take-le}
use Rattle.org_base.specs.Words.{is_space}
use Rattle.org_cal.specs.Texts.{date_of}
use Rattle.org_stamp.proofs.ReadLemmas.{stamp_found}
use Rattle.org_stamp.proofs.WordLemmas.{no_word, word_next}
use Rattle.org_stamp.specs.Inner.{after_date, inner_of, stamp_of_words}
use Rattle.org_stamp.specs.Read.{stamp_of}
use Rattle.org_stamp.specs.Stamp.{IsSingle, IsStamp, close_of}
use Rattle.org_stamp.specs.Word.{words}
use Rattle.org_stamp.specs.declared.stamp.Stamp.{Stamp}

date_long : (w : List ℕ) (day : ℕ) → date_of w ≡ Some day → length w ≡ 10
date_long [] day is = absurd (cc)
date_long (a ∷ []) day is = absurd (cc)
date_long (a ∷ b ∷ []) day is = absurd (cc)
date_long (a ∷ b ∷ c ∷ []) day is = absurd (cc)
date_long (a ∷ b ∷ c ∷ d ∷ []) day is = absurd (cc)
date_long (a ∷ b ∷ c ∷ d ∷ e ∷ []) day is = absurd (cc)
date_long (a ∷ b ∷ c ∷ d ∷ e ∷ f ∷ []) day is = absurd (cc)
date_long (a ∷ b ∷ c ∷ d ∷ e ∷ f ∷ g ∷ []) day is = absurd (cc)
date_long (a ∷ b ∷ c ∷ d ∷ e ∷ f ∷ g ∷ h ∷ []) day is = absurd (cc)
date_long (a ∷ b ∷ c ∷ d ∷ e ∷ f ∷ g ∷ h ∷ i ∷ []) day is = absurd (cc)
date_long (a ∷ b ∷ c ∷ d ∷ e ∷ f ∷ g ∷ h ∷ i ∷ j ∷ []) day is = refl
date_long (a ∷ b ∷ c ∷ d ∷ e ∷ f ∷ g ∷ h ∷ i ∷ j ∷ k ∷ ks) day is = absurd (cc)

pub length-take-most : (n : ℕ) (xs : List ℕ) → length (take n xs) ≤ length xs
length-take-most zero xs = omega arith
length-take-most (suc n) [] = omega arith
length-take-most (suc n) (x ∷ xs) = omega (arith, length-take-most n xs)

abbrev first_len : List (List ℕ) → ℕ
first_len [] = 0
first_len (w ∷ ws) = length w

dated : (active : Bool) (w : List ℕ) (ws : List (List ℕ)) (r : Option ℕ) (s : Stamp) → date_of w ≡ r → option_and_then (λ day. after_date active day ws) r ≡ Some s → 10 ≤ length w
dated active w ws (Some day) s e h = omega (arith, date_long w day e)
dated active w ws None s e h = absurd (cc)

first_long : (active : Bool) (ws : List (List ℕ)) (s : Stamp) → stamp_of_words active ws ≡ Some s → 10 ≤ first_len ws
first_long active [] s h = absurd (cc)
first_long active (w ∷ ws) s h = dated active w ws (date_of w) s refl h

words_by : (bs : List ℕ) (k : ℕ) → length (drop (prefix_len is_space bs) bs) ≡ k → first_len (words bs) ≤ length bs
words_by bs zero e = let none : words bs ≡ [] = no_word bs (prefix_len is_space bs) refl e in omega (arith, ap first_len none)
words_by bs (suc k) e =
    let rest : List ℕ = drop (prefix_len is_space bs) bs in
    let n : ℕ = position_or_len is_space rest in
    let next : words bs ≡ take n rest ∷ words (drop n rest) = word_next bs (prefix_len is_space bs) n refl refl (omega (arith, e)) in
    let first : first_len (words bs) ≡ length (take n rest) = ap first_len next in
    omega (arith, first, length-take-most n rest, length-drop (prefix_len is_space bs) bs)

inner_by : (active space : Bool) (bs : List ℕ) (s : Stamp) → (if space then None else stamp_of_words active (words bs)) ≡ Some s → 10 ≤ length bs
inner_by active true bs s h = absurd (cc)
inner_by active false bs s h = omega (arith, first_long active (words bs) s h, words_by bs (length (drop (prefix_len is_space bs) bs)) refl)

inner_long : (active : Bool) (bs : List ℕ) (s : Stamp) → inner_of active bs ≡ Some s → 10 ≤ length bs
unfolding inner_of
inner_long active [] s h = absurd (cc)
inner_long active (b ∷ bs) s h = inner_by active (is_space b) (b ∷ bs) s h

single_long : (bytes : List ℕ) (s : Stamp) → IsSingle bytes s → 12 ≤ length bytes
single_long bytes s h = omega (arith, ap length h.bytes_is, length-append h.inner (close_of s.active ∷ []), inner_long s.active h.inner s h.stamp_is)

long : (bytes : List ℕ) (s : Stamp) → IsStamp bytes s → 12 ≤ length bytes
long bytes s (inl one) = single_long bytes s one
long bytes s (inr two) = omega (arith, ap length two.bytes_is, length-append two.front (45 ∷ 45 ∷ two.back), single_long two.front two.first two.first_is)

pub stamp_bytes : (bytes : List ℕ) (s : Stamp) (n : ℕ) → stamp_of bytes ≡ Some (s, n) → 12 ≤ length bytes
stamp_bytes bytes s n h =
    let found = stamp_found bytes s n h in
    omega (arith, found.0, long (take n bytes) s found.1, length-take-le n bytes found.0)
