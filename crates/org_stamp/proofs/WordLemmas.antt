-- Words, at the first white space.
use Rattle.std.proofs.Common.{◌≡◌, ℕ, zero, suc, ◌+◌, ◌*◌, ◌<◌, ◌≤◌, true, false, List, [], ◌∷◌, length, take, drop, get_or, refl, sym, subst, ◌∙◌, ap, arith, not, inl, inr, length-drop}
use Rattle.std.proofs.Math.Seq.{drop-cons}
use Rattle.std.specs.Prelude.{filter, All, Option, None, Bool, ◌&&◌, ◌==◌, nat_le, if◌then◌else◌}
use Rattle.std.specs.Option.{option_and_then, option_map}
use Rattle.std.specs.Char.{is_ascii_digit}
use Rattle.std.proofs.lemmas.Bool.Decides.{nat_tests}
use Rattle.std.specs.List.{slice_split, position_or_len, prefix_len, list_all}
use Rattle.std.proofs.lemmas.List.Splits.{slice_split_first, slice_split_none, slice_split-cons_yes}
use Rattle.std.proofs.lemmas.Bool.{cases_lt, cases_Bool}
use Rattle.std.proofs.lemmas.List.{take_all, length-take-le, nil_from_length}
use Rattle.std.proofs.lemmas.List.Sums.{passes_at_first, fails_before_first, prefix_len-le-length}
use Rattle.std.proofs.lemmas.List.Elements.{All-from_get_or}
use Rattle.org_base.specs.Words.{is_space}
use Rattle.org_cal.specs.Texts.{date_of, day_of, two_digits}
use Rattle.org_stamp.specs.declared.stamp.Stamp.{Stamp}
use Rattle.org_stamp.specs.Inner.{after_date, inner_of, stamp_of_words}
use Rattle.org_stamp.specs.Word.{is_word, words}

pub words-empty : words [] ≡ []
unfolding words
words-empty = refl

-- a text that begins with white space has the words of its rest
pub words-space : (b : ℕ) (bs : List ℕ) → is_space b ≡ true → words (b ∷ bs) ≡ words bs
unfolding words
words-space b bs e = ap (filter is_word) (slice_split-cons_yes is_space b bs e)

filter-word : (w : List ℕ) (ws : List (List ℕ)) → 0 < length w → filter is_word (w ∷ ws) ≡ w ∷ filter is_word ws
filter-word [] ws h = absurd (omega arith)
filter-word (b ∷ bs) ws h = refl

pub words_are : (bs : List ℕ) → words bs ≡ filter is_word (slice_split is_space bs)
unfolding words
words_are bs = refl

word_inside : (bs : List ℕ) (n : ℕ) → n ≡ position_or_len is_space bs → 0 < n → n < length bs → words bs ≡ take n bs ∷ words (drop n bs)
word_inside bs n is some lt =
    let parts : slice_split is_space bs ≡ take n bs ∷ slice_split is_space (drop (n + 1) bs) =
    rw is (slice_split_first is_space bs 0 (omega (arith, is))) in
    let space : is_space (get_or bs n 0) ≡ true = rw is (passes_at_first is_space bs 0 (omega (arith, is))) in
    let next : suc n ≡ n + 1 = omega arith in
    let rest : words (drop n bs) ≡ words (drop (n + 1) bs) =
    ap words (drop-cons bs n 0 lt) ∙ (words-space (get_or bs n 0) (drop (suc n) bs) space ∙ ap (λ k. words (drop k bs)) next) in
    let front : filter is_word (take n bs ∷ slice_split is_space (drop (n + 1) bs)) ≡ take n bs ∷ filter is_word (slice_split is_space (drop (n + 1) bs)) =
    filter-word (take n bs) (slice_split is_space (drop (n + 1) bs)) (omega (arith, length-take-le n bs (omega arith))) in
    words_are bs ∙ (ap (filter is_word) parts ∙ (front ∙ ap (λ ws. take n bs ∷ ws) (sym (words_are (drop (n + 1) bs)) ∙ sym rest)))

word_whole : (bs : List ℕ) (n : ℕ) → n ≡ position_or_len is_space bs → 0 < n → length bs ≤ n → words bs ≡ take n bs ∷ words (drop n bs)
word_whole bs n is some ge =
    let none : All (λ b. is_space b ≡ false) bs =
    All-from_get_or (λ b. is_space b ≡ false) bs 0 (λ k lt. fails_before_first is_space bs k 0 (omega (arith, is))) in
    let bound : n ≤ length bs = omega (arith, is, prefix_len-le-length (λ b. not (is_space b)) bs) in
    let rest : drop n bs ≡ [] = nil_from_length (drop n bs) (omega (arith, length-drop n bs)) in
    words_are bs
    ∙ (ap (filter is_word) (slice_split_none is_space bs none)
    ∙ (filter-word bs [] (omega arith)
    ∙ (ap (λ w. w ∷ []) (sym (take_all n bs ge)) ∙ ap (λ ws. take n bs ∷ ws) (sym (ap words rest ∙ words-empty)))))

-- another begins with a word, up to the first white space
pub words-word : (bs : List ℕ) (n : ℕ) → n ≡ position_or_len is_space bs → 0 < n → words bs ≡ take n bs ∷ words (drop n bs)
words-word bs n is some =
    elim (cases_lt n (length bs)) [ inl lt ↦ word_inside bs n is some lt | inr ge ↦ word_whole bs n is some ge ]

one_more : (b : ℕ) (bs : List ℕ) → is_space b ≡ true → prefix_len is_space (b ∷ bs) ≡ suc (prefix_len is_space bs)
one_more b bs gap = rw gap (omega arith)

-- the white space at the front is no word
words-gap : (bs : List ℕ) → words (drop (prefix_len is_space bs) bs) ≡ words bs
words-gap [] = refl
words-gap (b ∷ bs) =
    elim (cases_Bool (is_space b)) [
      | inl gap ↦ ap (λ k. words (drop k (b ∷ bs))) (one_more b bs gap) ∙ (words-gap bs ∙ sym (words-space b bs gap))
      | inr letter ↦ rw letter refl
    ]

-- and no white space follows it
past_gap : (bs : List ℕ) → 0 < length (drop (prefix_len is_space bs) bs) → 0 < position_or_len is_space (drop (prefix_len is_space bs) bs)
past_gap [] h = absurd (omega (arith, h))
past_gap (b ∷ bs) h =
    elim (cases_Bool (is_space b)) [
      | inl gap ↦
          let more = one_more b bs gap in
          subst (λ k. 0 < position_or_len is_space (drop k (b ∷ bs))) (sym more)
          (past_gap bs (subst (λ k. 0 < length (drop k (b ∷ bs))) more h))
      | inr letter ↦
          let none : prefix_len is_space (b ∷ bs) ≡ 0 = rw letter refl in
          let some : 0 < position_or_len is_space (b ∷ bs) = rw letter (omega arith) in
          subst (λ k. 0 < position_or_len is_space (drop k (b ∷ bs))) (sym none) some
    ]

pub no_word : (bs : List ℕ) (g : ℕ) → g ≡ prefix_len is_space bs → length (drop g bs) ≡ 0 → words bs ≡ []
no_word bs g is none =
    sym (words-gap bs) ∙ (ap (λ k. words (drop k bs)) (sym is) ∙ (ap words (nil_from_length (drop g bs) none) ∙ words-empty))

pub word_some : (bs : List ℕ) (g n : ℕ) → g ≡ prefix_len is_space bs → n ≡ position_or_len is_space (drop g bs) → 0 < length (drop g bs) → 0 < n
word_some bs g n is len some =
    let first : 0 < position_or_len is_space (drop g bs) =
    subst (λ k. 0 < length (drop k bs) → 0 < position_or_len is_space (drop k bs)) (sym is) (past_gap bs) some in
    omega (arith, first, len)

-- the first word after the white space, and the rest
pub word_next : (bs : List ℕ) (g n : ℕ) → g ≡ prefix_len is_space bs → n ≡ position_or_len is_space (drop g bs) → 0 < length (drop g bs) → words bs ≡ take n (drop g bs) ∷ words (drop n (drop g bs))
word_next bs g n is len some =
    sym (words-gap bs) ∙ (ap (λ k. words (drop k bs)) (sym is) ∙ words-word (drop g bs) n len (word_some bs g n is len some))

long_date : (w : List ℕ) → 11 ≤ length w → date_of w ≡ None
long_date (a ∷ b ∷ c ∷ d ∷ e ∷ f ∷ g ∷ h ∷ i ∷ j ∷ k ∷ rest) le = refl
long_date _ le = absurd (omega (arith, le))

both : (a b : Bool) → (a && b) ≡ true → (a ≡ true) × (b ≡ true)
both true b e = (refl, e)
both false b e = cc

turned : (a : Bool) → not a ≡ true → a ≡ false
turned true e = cc
turned false e = refl

clear_front : (k : ℕ) (bs : List ℕ) → k ≤ length bs → list_all (λ b. not (is_space b)) (take k bs) ≡ true → k ≤ position_or_len is_space bs
clear_front zero bs le all = omega arith
clear_front (suc k) [] le all = absurd (omega (arith, le))
clear_front (suc k) (b ∷ bs) le all =
    let parts = both (not (is_space b)) (list_all (λ b. not (is_space b)) (take k bs)) all in
    let here : is_space b ≡ false = turned (is_space b) parts.0 in
    let rest = clear_front k bs (omega (arith, le)) parts.1 in
    rw here (omega (arith, rest))

first_is : (w v : List ℕ) (ws vs : List (List ℕ)) → w ∷ ws ≡ v ∷ vs → w ≡ v
first_is w v ws vs e = cc

-- a text without white space in its first eleven bytes begins with no date
long_word : (bs : List ℕ) → 11 ≤ length bs → list_all (λ b. not (is_space b)) (take 11 bs) ≡ true → (w : List ℕ) (ws : List (List ℕ)) → words bs ≡ w ∷ ws → date_of w ≡ None
long_word bs long clear w ws e =
    let n = position_or_len is_space bs in
    let far : 11 ≤ n = clear_front 11 bs long clear in
    let bound : n ≤ length bs = prefix_len-le-length (λ b. not (is_space b)) bs in
    let same : take n bs ≡ w = first_is (take n bs) w (words (drop n bs)) ws (sym (words-word bs n refl (omega (arith, far))) ∙ e) in
    ap date_of (sym same) ∙ long_date (take n bs) (omega (arith, far, length-take-le n bs bound))

by_words : (a : Bool) (ws : List (List ℕ)) → ((w : List ℕ) (vs : List (List ℕ)) → ws ≡ w ∷ vs → date_of w ≡ None) → stamp_of_words a ws ≡ None
by_words a [] h = refl
by_words a (w ∷ ws) h = ap (λ (o : Option ℕ). option_and_then (λ day. after_date a day ws) o) (h w ws refl)

by_space : (t : Bool) (o : Option Stamp) → o ≡ None → (if t then None else o) ≡ None
by_space true o e = refl
by_space false o e = e

-- so that it is the inside of no stamp
pub long_inner : (a : Bool) (bs : List ℕ) → (nat_le 11 (length bs) && list_all (λ b. not (is_space b)) (take 11 bs)) ≡ true → None ≡ inner_of a bs
unfolding inner_of
long_inner a [] e = refl
long_inner a (b ∷ bs) e =
    let parts = both (nat_le 11 (length (b ∷ bs))) (list_all (λ b. not (is_space b)) (take 11 (b ∷ bs))) e in
    let long : 11 ≤ length (b ∷ bs) = let le = parts.0 in grind (arith, nat_tests) in
    sym (by_space (is_space b) (stamp_of_words a (words (b ∷ bs))) (by_words a (words (b ∷ bs)) (long_word (b ∷ bs) long parts.1)))

either_none : {A : Type 0} (t : Bool) (o : Option A) → o ≡ None → (if t then o else None) ≡ None
either_none true o e = e
either_none false o e = refl

no_tens : (a b : ℕ) → is_ascii_digit a ≡ false → two_digits a b ≡ None
no_tens a b h = rw h refl

-- a word that begins with no digit is no date
no_date : (b : ℕ) (bs : List ℕ) → is_ascii_digit b ≡ false → date_of (b ∷ bs) ≡ None
no_date b (c ∷ d ∷ e ∷ x ∷ f ∷ g ∷ y ∷ h ∷ i ∷ []) other =
    either_none (x == 45 && y == 45) _
    (ap (λ (high : Option ℕ). option_and_then (λ year. option_and_then (λ month. option_and_then (day_of year month) (two_digits h i)) (two_digits f g)) (option_and_then (λ n. option_map (λ low. n * 100 + low) (two_digits d e)) high)) (no_tens b c other))
no_date b _ other = refl

front_is : (b : ℕ) (bs w : List ℕ) (n : ℕ) → take n (b ∷ bs) ≡ w → 0 < n → is_ascii_digit b ≡ false → date_of w ≡ None
front_is b bs w zero e some other = absurd (omega (arith, some))
front_is b bs w (suc n) e some other = ap date_of (sym e) ∙ no_date b (take n bs) other

letter_word : (b : ℕ) (bs : List ℕ) → is_space b ≡ false → is_ascii_digit b ≡ false → (w : List ℕ) (ws : List (List ℕ)) → words (b ∷ bs) ≡ w ∷ ws → date_of w ≡ None
letter_word b bs letter other w ws e =
    let n = position_or_len is_space (b ∷ bs) in
    let some : 0 < n = rw letter (omega arith) in
    let same : take n (b ∷ bs) ≡ w = first_is (take n (b ∷ bs)) w (words (drop n (b ∷ bs))) ws (sym (words-word (b ∷ bs) n refl some) ∙ e) in
    front_is b bs w n same some other

-- so that it is the inside of no stamp
pub no_digit : (a : Bool) (b : ℕ) (bs : List ℕ) → is_ascii_digit b ≡ false → inner_of a (b ∷ bs) ≡ None
unfolding inner_of
no_digit a b bs other =
    elim (cases_Bool (is_space b)) [
      | inl gap ↦ rw gap refl
      | inr letter ↦ rw letter (by_words a (words (b ∷ bs)) (letter_word b bs letter other))
    ]
