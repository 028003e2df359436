-- The stamps of a line, step by step.
use Rattle.std.proofs.Common.{◌≡◌, ℕ, zero, suc, ◌+◌, ◌-◌, ◌<◌, ◌≤◌, inl, inr, List, [], ◌∷◌, length, take, drop, get_or, refl, sym, ◌∙◌, ap, arith, length-append}
use Rattle.std.proofs.Math.Seq.{drop-cons}
use Rattle.std.specs.Prelude.{Option, Some, None, Bool, true, false, ◌==◌, if◌then◌else◌, position}
use Rattle.std.specs.Char.{is_ascii_digit}
use Rattle.std.specs.Option.{option_map}
use Rattle.std.specs.List.{position_or_len}
use Rattle.std.proofs.lemmas.Bool.{cases_Bool, false_from_ne_true, le-ltb}
use Rattle.std.proofs.lemmas.List.Sums.{position_or_len_is}
use Rattle.memchr.specs.Find.{NoneBefore, Nowhere, Passes, is_byte2}
use Rattle.std.proofs.lemmas.List.{length-take-le, drop-drop, drop_all, get_or-drop}
use Rattle.org_stamp.specs.declared.stamp.Found.{Found}
use Rattle.org_stamp.specs.declared.stamp.Stamp.{Stamp}
use Rattle.org_stamp.specs.Line.{stamps_from}
use Rattle.org_stamp.proofs.LineWords.{one_more}
use Rattle.org_stamp.specs.Inner.{inner_of}
use Rattle.org_stamp.specs.Read.{closed, ranged, single_of, stamp_of}
use Rattle.org_stamp.specs.Stamp.{IsSingle, IsStamp, close_of, is_close}
use Rattle.org_stamp.proofs.ReadLemmas.{stamp_found}
use Rattle.org_stamp.proofs.WordLemmas.{no_digit}

single_long : (bytes : List ℕ) (s : Stamp) → IsSingle bytes s → 2 ≤ length bytes
single_long bytes s h = omega (arith, ap length h.bytes_is, length-append h.inner (close_of s.active ∷ []))

-- no stamp is empty
pub stamp_long : (bytes : List ℕ) (s : Stamp) → IsStamp bytes s → 2 ≤ length bytes
stamp_long bytes s (inl one) = single_long bytes s one
stamp_long bytes s (inr two) = omega (arith, ap length two.bytes_is, length-append two.front (45 ∷ 45 ∷ two.back), single_long two.front two.first two.first_is)

pub read_long : (bytes : List ℕ) (s : Stamp) (n : ℕ) → stamp_of bytes ≡ Some (s, n) → 2 ≤ n
read_long bytes s n h =
    let found = stamp_found bytes s n h in
    omega (arith, found.0, stamp_long (take n bytes) s found.1, length-take-le n bytes found.0)

skip : (bs : List ℕ) (at k : ℕ) → stamps_from bs at k ≡ stamps_from (drop k bs) (at + k) 0
unfolding stamps_from
skip bs at zero = ap (λ a. stamps_from bs a 0) (let e : at ≡ at + 0 = omega arith in e)
skip [] at (suc k) = refl
skip (b ∷ bs) at (suc k) = skip bs (at + 1) k ∙ ap (λ a. stamps_from (drop k bs) a 0) (let e : at + 1 + k ≡ at + suc k = omega arith in e)

step : (b : ℕ) (bs : List ℕ) (at : ℕ) → stamps_from (b ∷ bs) at 0 ≡ one_more at (stamps_from bs (at + 1)) (stamp_of (b ∷ bs))
unfolding stamps_from
step b bs at = refl

-- where no stamp begins, the stamps are those after the byte
pub none_here : (line : List ℕ) (at : ℕ) → at < length line → stamp_of (drop at line) ≡ None → stamps_from (drop at line) at 0 ≡ stamps_from (drop (at + 1) line) (at + 1) 0
none_here line at lt none =
    let cut = drop-cons line at 0 lt in
    let next : suc at ≡ at + 1 = omega arith in
    ap (λ bs. stamps_from bs at 0) cut
    ∙ (step (get_or line at 0) (drop (suc at) line) at
    ∙ (ap (one_more at (stamps_from (drop (suc at) line) (at + 1))) (sym (ap stamp_of cut) ∙ none)
    ∙ ap (λ k. stamps_from (drop k line) (at + 1) 0) next))

-- where one begins, it comes first, and then those after it
pub some_here : (line : List ℕ) (at : ℕ) (s : Stamp) (n : ℕ) → at < length line → stamp_of (drop at line) ≡ Some (s, n) → stamps_from (drop at line) at 0 ≡ record { at = at; len = n; stamp = s } ∷ stamps_from (drop (at + n) line) (at + n) 0
some_here line at s n lt some =
    let cut = drop-cons line at 0 lt in
    let long = read_long (drop at line) s n some in
    let there : drop (n - 1) (drop (suc at) line) ≡ drop (at + n) line =
    drop-drop (n - 1) (suc at) line ∙ ap (λ k. drop k line) (let e : suc at + (n - 1) ≡ at + n = omega (arith, long) in e) in
    let place : at + 1 + (n - 1) ≡ at + n = omega (arith, long) in
    let first : Found = record { at = at; len = n; stamp = s } in
    ap (λ bs. stamps_from bs at 0) cut
    ∙ (step (get_or line at 0) (drop (suc at) line) at
    ∙ (ap (one_more at (stamps_from (drop (suc at) line) (at + 1))) (sym (ap stamp_of cut) ∙ some)
    ∙ ap (λ fs. first ∷ fs)
    (skip (drop (suc at) line) (at + 1) (n - 1)
    ∙ (ap (λ bs. stamps_from bs (at + 1 + (n - 1)) 0) there ∙ ap (λ a. stamps_from (drop (at + n) line) a 0) place))))

none_of : (at : ℕ) → stamps_from [] at 0 ≡ []
unfolding stamps_from
none_of at = refl

-- past the end there is none
pub none_left : (line : List ℕ) (at : ℕ) → length line ≤ at → stamps_from (drop at line) at 0 ≡ []
none_left line at ge = ap (λ bs. stamps_from bs at 0) (drop_all at line ge) ∙ none_of at

-- the first place that passes, counted from a place before it
first_from : {A : Type 0} (p : A → Bool) (xs : List A) (k : ℕ) → k ≤ position_or_len p xs → position_or_len p xs ≡ k + position_or_len p (drop k xs)
first_from p xs zero le = let e : position_or_len p xs ≡ 0 + position_or_len p xs = omega arith in e
first_from p [] (suc k) le = absurd (omega (arith, le))
first_from p (x ∷ xs) (suc k) le =
    elim (cases_Bool (p x)) [
      | inl here ↦ absurd (let none : position_or_len p (x ∷ xs) ≡ 0 = rw here refl in omega (arith, le, none))
      | inr later ↦
          let one : position_or_len p (x ∷ xs) ≡ suc (position_or_len p xs) = rw later (omega arith) in
          let rest = first_from p xs k (omega (arith, le, one)) in
          omega (arith, one, rest)
    ]

-- a closing bracket that is the first from one place on is so from a later place before it
pub close_later : (line : List ℕ) (at k close : ℕ) → close ≡ at + position_or_len is_close (drop at line) → at + k ≤ close → close ≡ at + k + position_or_len is_close (drop (at + k) line)
close_later line at k close is le =
    let rest = first_from is_close (drop at line) k (omega (arith, is, le)) in
    let same : position_or_len is_close (drop k (drop at line)) ≡ position_or_len is_close (drop (at + k) line) = ap (position_or_len is_close) (drop-drop k at line) in
    omega (arith, is, rest, same)

no_inner : (a : Bool) (c : ℕ) (bs : List ℕ) (i : ℕ) → is_ascii_digit c ≡ false → inner_of a (take i (c ∷ bs)) ≡ None
unfolding inner_of
no_inner a c bs zero other = refl
no_inner a c bs (suc i) other = no_digit a c (take i bs) other

either_way : {A : Type 0} (t : Bool) (o q : Option A) → o ≡ None → q ≡ None → (if t then o else q) ≡ None
either_way true o q e f = e
either_way false o q e f = f

no_closed : (a : Bool) (c : ℕ) (bs : List ℕ) (o : Option ℕ) → is_ascii_digit c ≡ false → closed a (c ∷ bs) o ≡ None
no_closed a c bs None other = refl
no_closed a c bs (Some i) other =
    either_way (get_or (c ∷ bs) i 0 == close_of a) _ None (ap (λ (o : Option Stamp). option_map (λ s. (s, i + 2)) o) (no_inner a c bs i other)) refl

no_single : (b c : ℕ) (bs : List ℕ) → is_ascii_digit c ≡ false → single_of (b ∷ c ∷ bs) ≡ None
unfolding single_of
no_single b c bs other =
    either_way (b == 60) _ _ (no_closed true c bs (position is_close (c ∷ bs)) other)
    (either_way (b == 91) _ None (no_closed false c bs (position is_close (c ∷ bs)) other) refl)

no_single_by : (bs : List ℕ) → is_ascii_digit (get_or bs 1 0) ≡ false → single_of bs ≡ None
unfolding single_of
no_single_by [] other = refl
no_single_by (b ∷ []) other = either_way (b == 60) _ _ refl (either_way (b == 91) _ None refl refl)
no_single_by (b ∷ c ∷ bs) other = no_single b c bs other

-- where no digit follows no stamp begins
pub no_digit_follows : (line : List ℕ) (at : ℕ) → is_ascii_digit (get_or line (at + 1) 0) ≡ false → stamp_of (drop at line) ≡ None
no_digit_follows line at other =
    let one : is_ascii_digit (get_or (drop at line) 1 0) ≡ false = ap is_ascii_digit (get_or-drop at line 1 0) ∙ other in
    ap (λ (o : Option (Stamp × ℕ)). option_map (λ found. ranged found.0 found.1 (drop found.1 (drop at line))) o) (no_single_by (drop at line) one)

-- the first closing bracket, as a search finds it
pub first_is : (bytes : List ℕ) (i : ℕ) → NoneBefore (Passes (is_byte2 62 93) bytes) 0 (length bytes) i × Passes (is_byte2 62 93) bytes i → i ≡ position_or_len is_close bytes
first_is bytes i h = sym (position_or_len_is is_close bytes i 0 (omega (arith, h.0.high)) (λ k lt. false_from_ne_true _ (h.0.before k (omega arith) lt)) (λ lt. h.1))

pub none_is : (bytes : List ℕ) → Nowhere (Passes (is_byte2 62 93) bytes) 0 (length bytes) → length bytes ≡ position_or_len is_close bytes
none_is bytes h = sym (position_or_len_is is_close bytes (length bytes) 0 (omega arith) (λ k lt. false_from_ne_true _ (h k (omega arith) lt)) (λ lt. absurd (omega (arith, lt))))

pub close_within : (bytes : List ℕ) → position_or_len is_close bytes ≤ length bytes
close_within [] = omega arith
close_within (b ∷ bs) =
    elim (cases_Bool (is_close b)) [
      | inl here ↦ let none : position_or_len is_close (b ∷ bs) ≡ 0 = rw here refl in omega (arith, none)
      | inr later ↦
          let one : position_or_len is_close (b ∷ bs) ≡ suc (position_or_len is_close bs) = rw later (omega arith) in
          let rest = close_within bs in
          omega (arith, one, rest)
    ]

none_close : (bytes : List ℕ) → length bytes ≤ position_or_len is_close bytes → position is_close bytes ≡ None
none_close bytes le = rw (le-ltb _ _ le) refl

no_close_single : (b : ℕ) (bs : List ℕ) → position is_close bs ≡ None → single_of (b ∷ bs) ≡ None
unfolding single_of
no_close_single b bs none = rw none (either_way (b == 60) _ _ refl (either_way (b == 91) _ None refl refl))

-- where no closing bracket stands no stamp does
pub none_unclosed : (bytes : List ℕ) (at : ℕ) → length bytes ≤ position_or_len is_close bytes → stamps_from bytes at 0 ≡ []
none_unclosed [] at le = none_of at
none_unclosed (b ∷ bs) at le =
    elim (cases_Bool (is_close b)) [
      | inl here ↦ absurd (let none : position_or_len is_close (b ∷ bs) ≡ 0 = rw here refl in omega (arith, le, none))
      | inr later ↦
          let one : position_or_len is_close (b ∷ bs) ≡ suc (position_or_len is_close bs) = rw later (omega arith) in
          let rest : length bs ≤ position_or_len is_close bs = omega (arith, le, one) in
          step b bs at
          ∙ (ap (λ (o : Option (Stamp × ℕ)). one_more at (stamps_from bs (at + 1)) (option_map (λ found. ranged found.0 found.1 (drop found.1 (b ∷ bs))) o)) (no_close_single b bs (none_close bs rest))
          ∙ none_unclosed bs (at + 1) rest)
    ]
