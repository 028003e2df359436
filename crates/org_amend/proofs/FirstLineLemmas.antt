-- The first line of a text, and the lines behind it.
use Rattle.std.proofs.Common.{◌≡◌, ◌∙◌, ℕ, suc, ◌+◌, ◌≤◌, Bool, true, false, inl, inr, List, [], ◌∷◌, length, take, drop, get_or, ◌==◌, refl, sym, ap, arith, cond}
use Rattle.std.specs.Prelude.{Option, Some, None, position, nat_lt}
use Rattle.std.specs.List.{onto_first, position_or_len}
use Rattle.std.proofs.lemmas.Bool.{cases_Bool, cases_lt, lt-ltb}
use Rattle.std.proofs.lemmas.List.{take_all}
use Rattle.org_lines.specs.Cuts.{lines}
use Rattle.org_amend.specs.FoundDrawers.{first_of}

onto_get : (b : ℕ) (ls : List (List ℕ)) → get_or (onto_first b ls) 0 [] ≡ b ∷ get_or ls 0 []
onto_get b [] = refl
onto_get b (l ∷ ls) = refl

first_feed : (b : ℕ) (bs : List ℕ) → (b == 10) ≡ true → lines (b ∷ bs) ≡ (b ∷ []) ∷ lines bs
first_feed b bs e = rw e refl

first_other : (b : ℕ) (bs : List ℕ) → (b == 10) ≡ false → lines (b ∷ bs) ≡ onto_first b (lines bs)
first_other b bs e = rw e refl

more_other : (b : ℕ) (bs : List ℕ) → (b == 10) ≡ false → first_of (b ∷ bs) ≡ b ∷ first_of bs
more_other b bs e = ap (λ ls. get_or ls 0 []) (first_other b bs e) ∙ onto_get b (lines bs)

-- a text is its first line and the lines behind that
pub cut_first : (b : ℕ) (bs : List ℕ) → lines (b ∷ bs) ≡ first_of (b ∷ bs) ∷ lines (drop (length (first_of (b ∷ bs))) (b ∷ bs))
cut_first b [] = elim (cases_Bool (b == 10)) [
  | inl feed ↦ first_feed b [] feed ∙ sym (ap (λ f. f ∷ lines (drop (length f) (b ∷ []))) (ap (λ ls. get_or ls 0 []) (first_feed b [] feed)))
  | inr other ↦ first_other b [] other ∙ sym (ap (λ f. f ∷ lines (drop (length f) (b ∷ []))) (more_other b [] other))
]
cut_first b (c ∷ cs) = elim (cases_Bool (b == 10)) [
  | inl feed ↦ first_feed b (c ∷ cs) feed ∙ sym (ap (λ f. f ∷ lines (drop (length f) (b ∷ c ∷ cs))) (ap (λ ls. get_or ls 0 []) (first_feed b (c ∷ cs) feed)))
  | inr other ↦
      (first_other b (c ∷ cs) other ∙ ap (onto_first b) (cut_first c cs)) ∙ sym (ap (λ f. f ∷ lines (drop (length f) (b ∷ c ∷ cs))) (more_other b (c ∷ cs) other))
]

-- it ends at the first line feed, or with the text

taken_more : (n b : ℕ) (bs : List ℕ) → take (1 + (1 + n)) (b ∷ bs) ≡ b ∷ take (1 + n) bs
taken_more n b bs = ap (λ m. take m (b ∷ bs)) (let e : 1 + (1 + n) ≡ suc (1 + n) = omega arith in e)

first_taken : (t : List ℕ) → first_of t ≡ take (1 + position_or_len (λ b. b == 10) t) t
first_taken [] = refl
first_taken (b ∷ bs) = elim (cases_Bool (b == 10)) [
  | inl feed ↦ ap (λ ls. get_or ls 0 []) (first_feed b bs feed) ∙ rw feed refl
  | inr other ↦ more_other b bs other ∙ (ap (λ f. b ∷ f) (first_taken bs) ∙ (sym (taken_more (position_or_len (λ c. c == 10) bs) b bs) ∙ rw other refl))
]

feed_at : (t : List ℕ) (place : ℕ) (n : ℕ) (is_less : Bool) → cond is_less (Some n) None ≡ Some place → n ≡ place
feed_at t place n true e = cc
feed_at t place n false e = absurd cc

no_feed : (t : List ℕ) (n : ℕ) → cond (nat_lt n (length t)) (Some n) None ≡ None → length t ≤ n
no_feed t n e = elim (cases_lt n (length t)) [
  | inl less ↦ absurd (let wrong : ◌≡◌ {A = Option ℕ} (Some n) None = rw (lt-ltb n (length t) less) at e in cc)
  | inr more ↦ more
]

pub first_to : (t : List ℕ) (place : ℕ) → position (λ b. b == 10) t ≡ Some place → take (place + 1) t ≡ first_of t
first_to t place e =
    let same = feed_at t place (position_or_len (λ b. b == 10) t) (nat_lt (position_or_len (λ b. b == 10) t) (length t)) e in
    sym (first_taken t ∙ ap (λ n. take n t) (omega (arith, same)))

pub first_whole : (t : List ℕ) → position (λ b. b == 10) t ≡ None → t ≡ first_of t
first_whole t e = sym (first_taken t ∙ take_all (1 + position_or_len (λ b. b == 10) t) t (omega (arith, no_feed t (position_or_len (λ b. b == 10) t) e)))
