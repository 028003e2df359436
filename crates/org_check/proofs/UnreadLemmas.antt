-- Places that look like a stamp and are none, step by step.
use Rattle.std.proofs.Common.{◌≡◌, ◌⊎◌, ℕ, zero, suc, ◌+◌, ◌<◌, ◌≤◌, inl, inr, List, [], ◌∷◌, ◌++◌, length, take, drop, get_or, refl, sym, ◌∙◌, ap, subst, arith}
use Rattle.std.proofs.Math.Seq.{drop-cons}
use Rattle.std.specs.Prelude.{◌↔◌, Option, Some, None, Bool, true, false, if◌then◌else◌, is_none, IsSomeAnd}
use Rattle.std.proofs.lemmas.Bool.{cases_Bool, and_parts, and_from, false_from_ne_true}
use Rattle.std.proofs.lemmas.List.Sums.{position_or_len_is}
use Rattle.memchr.specs.Find.{NoneBefore, Nowhere, Passes, is_byte2}
use Rattle.std.proofs.lemmas.List.{drop-drop, drop_all, take-append-drop}
use Rattle.org_stamp.specs.Read.{stamp_of}
use Rattle.org_stamp.specs.declared.stamp.Stamp.{Stamp}
use Rattle.org_stamp.proofs.ReadLemmas.{stamp_found, stamp_longest}
use Rattle.std.specs.List.{position_or_len}
use Rattle.org_check.specs.Looks.{is_open, looks_like_stamp}
use Rattle.org_check.specs.UnreadStamps.{is_unread, unread_from, unread_in, IsAmong, BeginsNoStamp, LooksLikeStampAndIsNone}

step : (b : ℕ) (bs : List ℕ) (at : ℕ) → unread_from (b ∷ bs) at ≡ (if is_unread (b ∷ bs) then at ∷ unread_from bs (at + 1) else unread_from bs (at + 1))
unfolding unread_from
step b bs at = refl

none_of : (at : ℕ) → unread_from [] at ≡ []
unfolding unread_from
none_of at = refl

-- past the end there is none
pub none_left : (line : List ℕ) (at : ℕ) → length line ≤ at → unread_from (drop at line) at ≡ []
none_left line at ge = ap (λ bs. unread_from bs at) (drop_all at line ge) ∙ none_of at

chosen_true : {A : Type 0} (t : Bool) (x y : A) → t ≡ true → (if t then x else y) ≡ x
chosen_true true x y e = refl
chosen_true false x y e = absurd (cc)

chosen_false : {A : Type 0} (t : Bool) (x y : A) → t ≡ false → (if t then x else y) ≡ y
chosen_false true x y e = absurd (cc)
chosen_false false x y e = refl

-- one that stands here comes first, and then those after it
pub one_here : (line : List ℕ) (at : ℕ) → at < length line → is_unread (drop at line) ≡ true → unread_from (drop at line) at ≡ at ∷ unread_from (drop (at + 1) line) (at + 1)
one_here line at lt is =
    let cut = drop-cons line at 0 lt in
    let next : suc at ≡ at + 1 = omega arith in
    ap (λ bs. unread_from bs at) cut
    ∙ (step (get_or line at 0) (drop (suc at) line) at
    ∙ (chosen_true _ _ _ (sym (ap is_unread cut) ∙ is)
    ∙ ap (λ k. at ∷ unread_from (drop k line) (at + 1)) next))

-- where none stands, they are those after the byte
pub none_here : (line : List ℕ) (at : ℕ) → at < length line → is_unread (drop at line) ≡ false → unread_from (drop at line) at ≡ unread_from (drop (at + 1) line) (at + 1)
none_here line at lt not_is =
    let cut = drop-cons line at 0 lt in
    let next : suc at ≡ at + 1 = omega arith in
    ap (λ bs. unread_from bs at) cut
    ∙ (step (get_or line at 0) (drop (suc at) line) at
    ∙ (chosen_false _ _ _ (sym (ap is_unread cut) ∙ not_is)
    ∙ ap (λ k. unread_from (drop k line) (at + 1)) next))

-- the first bracket that opens a stamp, as a search finds it
pub first_is : (bytes : List ℕ) (i : ℕ) → NoneBefore (Passes (is_byte2 60 91) bytes) 0 (length bytes) i × Passes (is_byte2 60 91) bytes i → i ≡ position_or_len is_open bytes
first_is bytes i h = sym (position_or_len_is is_open bytes i 0 (omega (arith, h.0.high)) (λ k lt. false_from_ne_true _ (h.0.before k (omega arith) lt)) (λ lt. h.1))

pub none_is : (bytes : List ℕ) → Nowhere (Passes (is_byte2 60 91) bytes) 0 (length bytes) → length bytes ≡ position_or_len is_open bytes
none_is bytes h = sym (position_or_len_is is_open bytes (length bytes) 0 (omega arith) (λ k lt. false_from_ne_true _ (h k (omega arith) lt)) (λ lt. absurd (omega (arith, lt))))

-- up to the first bracket nothing is unread
skip_to : (bs : List ℕ) (at n : ℕ) → n ≡ position_or_len is_open bs → unread_from bs at ≡ unread_from (drop n bs) (at + n)
skip_to [] at n is =
    subst (λ (k : ℕ). unread_from [] at ≡ unread_from (drop k []) (at + k)) (sym is) (ap (λ a. unread_from [] a) (let e : at ≡ at + 0 = omega arith in e))
skip_to (b ∷ bs) at n is =
    elim (cases_Bool (is_open b)) [
      | inl here ↦
          let none : position_or_len is_open (b ∷ bs) ≡ 0 = rw here refl in
          subst (λ (k : ℕ). unread_from (b ∷ bs) at ≡ unread_from (drop k (b ∷ bs)) (at + k)) (sym (is ∙ none)) (ap (λ a. unread_from (b ∷ bs) a) (let e : at ≡ at + 0 = omega arith in e))
      | inr other ↦
          let one : position_or_len is_open (b ∷ bs) ≡ suc (position_or_len is_open bs) = rw other (omega arith) in
          let closed : is_unread (b ∷ bs) ≡ false = rw other refl in
          let later = skip_to bs (at + 1) (position_or_len is_open bs) refl in
          subst (λ (k : ℕ). unread_from (b ∷ bs) at ≡ unread_from (drop k (b ∷ bs)) (at + k)) (sym (is ∙ one))
          (step b bs at ∙ chosen_false _ _ _ closed ∙ later
          ∙ ap (λ a. unread_from (drop (position_or_len is_open bs) bs) a) (let e : at + 1 + position_or_len is_open bs ≡ at + suc (position_or_len is_open bs) = omega arith in e))
    ]

-- the same from a place of a line on
pub skip_to_open : (line : List ℕ) (at place : ℕ) → place ≡ at + position_or_len is_open (drop at line) → unread_from (drop at line) at ≡ unread_from (drop place line) place
skip_to_open line at place is =
    let n = position_or_len is_open (drop at line) in
    skip_to (drop at line) at n refl
    ∙ ap (λ bs. unread_from bs (at + n)) (drop-drop n at line)
    ∙ ap (λ p. unread_from (drop p line) p) (sym is)

-- what doesn't look like a stamp isn't unread
pub no_look : (bytes : List ℕ) → looks_like_stamp bytes ≡ false → is_unread bytes ≡ false
no_look bytes isnt = rw isnt refl

-- a place so far from the first byte at which an unread text stands
abbrev FoundFrom : List ℕ → ℕ → ℕ → Type 0
FoundFrom bs at p = (k : ℕ) × (p ≡ at + k) × (is_unread (drop k bs) ≡ true)

found_later : (b : ℕ) (bs : List ℕ) (at p : ℕ) → FoundFrom bs (at + 1) p → FoundFrom (b ∷ bs) at p
found_later b bs at p found = (suc found.0, omega (arith, found.1), found.2)

found_first : (b : ℕ) (bs : List ℕ) (at p : ℕ) → is_unread (b ∷ bs) ≡ true → (p ≡ at) ⊎ IsAmong p (unread_from bs (at + 1)) → (IsAmong p (unread_from bs (at + 1)) → FoundFrom bs (at + 1) p) → FoundFrom (b ∷ bs) at p
found_first b bs at p here (inl is) later = (0, omega (arith, is), here)
found_first b bs at p here (inr has) later = found_later b bs at p (later has)

-- a place among them is one at which an unread text stands
among_is : (bs : List ℕ) (at p : ℕ) → IsAmong p (unread_from bs at) → FoundFrom bs at p
among_is [] at p has = absurd (subst (IsAmong p) (none_of at) has)
among_is (b ∷ bs) at p has =
    elim (cases_Bool (is_unread (b ∷ bs))) [
      | inl here ↦ found_first b bs at p here (subst (IsAmong p) (step b bs at ∙ chosen_true _ _ _ here) has) (among_is bs (at + 1) p)
      | inr there ↦ found_later b bs at p (among_is bs (at + 1) p (subst (IsAmong p) (step b bs at ∙ chosen_false _ _ _ there) has))
    ]

no_unread : is_unread [] ≡ true → ⊥
no_unread is = cc

among_next : (b : ℕ) (bs : List ℕ) (at p : ℕ) → IsAmong p (unread_from bs (at + 1)) → IsAmong p (unread_from (b ∷ bs) at)
among_next b bs at p has =
    elim (cases_Bool (is_unread (b ∷ bs))) [
      | inl here ↦ subst (IsAmong p) (sym (step b bs at ∙ chosen_true _ _ _ here)) (inr has)
      | inr there ↦ subst (IsAmong p) (sym (step b bs at ∙ chosen_false _ _ _ there)) has
    ]

-- and each such place is among them
is_among : (bs : List ℕ) (at k : ℕ) → is_unread (drop k bs) ≡ true → IsAmong (at + k) (unread_from bs at)
is_among [] at zero is = absurd (no_unread is)
is_among [] at (suc k) is = absurd (no_unread is)
is_among (b ∷ bs) at zero is = subst (IsAmong (at + 0)) (sym (step b bs at ∙ chosen_true _ _ _ is)) (inl (let e : at + 0 ≡ at = omega arith in e))
is_among (b ∷ bs) at (suc k) is =
    let e : at + 1 + k ≡ at + suc k = omega arith in
    among_next b bs at (at + suc k) (subst (λ p. IsAmong p (unread_from bs (at + 1))) e (is_among bs (at + 1) k is))

none_then : (o : Option (Stamp × ℕ)) → is_none o ≡ true → o ≡ None
none_then None is = refl
none_then (Some f) is = absurd (cc)

-- where none is read, none begins
unread_begins_none : (bytes : List ℕ) → stamp_of bytes ≡ None → BeginsNoStamp bytes
unread_begins_none bytes none front rest s split is =
    let long = stamp_longest front rest s is in
    let same : stamp_of (front ++ rest) ≡ None = sym (ap stamp_of split) ∙ none in
    subst (λ o. IsSomeAnd o (λ r. (length front ≤ r.1) × (length front ≡ r.1 → s ≡ r.0))) same long

-- where none begins, none is read
begins_none_unread : (bytes : List ℕ) (o : Option (Stamp × ℕ)) → stamp_of bytes ≡ o → BeginsNoStamp bytes → is_none o ≡ true
begins_none_unread bytes None is none = refl
begins_none_unread bytes (Some f) is none =
    let found = stamp_found bytes f.0 f.1 is in
    absurd (none (take f.1 bytes) (drop f.1 bytes) f.0 (sym (take-append-drop f.1 bytes)) found.1)

pub unread_are_found : (line : List ℕ) (p : ℕ) → IsAmong p (unread_in line) ↔ LooksLikeStampAndIsNone line p
unread_are_found line p = (
  (λ has. spelled line p (among_is line 0 p has)),
  (λ h. subst (λ q. IsAmong q (unread_in line)) (let e : 0 + p ≡ p = omega arith in e)
      (is_among line 0 p (and_from _ _ h.looks (begins_none_unread (drop p line) (stamp_of (drop p line)) refl h.none)))),
)
  where
    spelled : (line : List ℕ) (p : ℕ) → FoundFrom line 0 p → LooksLikeStampAndIsNone line p
    spelled line p found =
        let same : found.0 ≡ p = omega (arith, found.1) in
        let is : is_unread (drop p line) ≡ true = subst (λ k. is_unread (drop k line) ≡ true) same found.2 in
        let parts = and_parts _ _ is in
        record { looks = parts.0; none = unread_begins_none (drop p line) (none_then _ parts.1) }
