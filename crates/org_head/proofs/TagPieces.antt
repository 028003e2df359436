-- The spans between colons are the tags of the word.
use Rattle.std.proofs.Common.{◌≡◌, ℕ, ◌+◌, ◌<◌, ◌==◌, Bool, true, false, true≢false, ◌&&◌, not, inl, inr, ◌⊎◌, suc, List, [], ◌∷◌, ◌++◌, length, refl, sym, ap, ◌∙◌, subst, arith, length-append, append_assoc, append-nil}
use Rattle.std.proofs.lemmas.Bool.{cases_Bool, and_from, and_parts, ne_eqb}
use Rattle.std.proofs.Math.Nat.{add-zero, zero-add}
use Rattle.std.proofs.lemmas.List.Folds.{list_all-append}
use Rattle.std.specs.List.{list_all}
use Rattle.org_base.specs.declared.span.Span.{Span}
use Rattle.org_head.specs.Parts.{is_colon}
use Rattle.org_head.specs.Tags.{span, spans_from}
use Rattle.org_head.specs.HeadParts.{ends_tag, NextTag, TagsAt}

abbrev is_other : ℕ → Bool
is_other b = not (is_colon b)

all_more : (p : ℕ → Bool) (xs : List ℕ) (x : ℕ) → list_all p xs ≡ true → p x ≡ true → list_all p (xs ++ x ∷ []) ≡ true
all_more p xs x h k = list_all-append p xs (x ∷ []) ∙ and_from (list_all p xs) (p x && true) h (and_from (p x) true k refl)

-- the tag that stands after colons
next_tag : (at : ℕ) (colons tag rest : List ℕ) → list_all is_colon colons ≡ true → list_all is_other tag ≡ true → 0 < length tag → ends_tag rest ≡ true → NextTag at (colons ++ (tag ++ rest)) (record { at = at + length colons; len = length tag }) rest
next_tag at colons tag rest h k some ends = record { colons = colons; tag = tag; spelled = refl; between = h; letters = k; some = some; whole = ends; place = refl }

none_or_some : (xs : List ℕ) → (xs ≡ []) ⊎ (((length xs == 0) ≡ false) × (0 < length xs))
none_or_some [] = inl refl
none_or_some (x ∷ xs) = inr (ne_eqb (suc (length xs)) 0 (λ e. omega (arith, e)), omega arith)

-- the spans of a text that stands after colons and a part of a tag
tags_hold : (at : ℕ) (colons part text : List ℕ) → list_all is_colon colons ≡ true → list_all is_other part ≡ true → TagsAt at (colons ++ (part ++ text)) (spans_from (at + length colons) (length part) text)
tags_hold at colons part [] h k = elim (none_or_some part) [
  | inl none ↦ subst (λ o. TagsAt at (colons ++ (o ++ [])) (span (at + length colons) (length o))) (sym none) (ap (list_all is_colon) (append-nil colons) ∙ h)
  | inr some ↦ rw some.0 ([], next_tag at colons part [] h k some.1 refl, refl)
]
tags_hold at colons part (b ∷ bs) h k = elim (cases_Bool (is_colon b)) [
  | inl e ↦ elim (none_or_some part) [
    | inl none ↦
        let place : at + length (colons ++ b ∷ []) ≡ at + length colons + 0 + 1 = let sum = length-append colons (b ∷ []) in omega (arith, sum) in
        rw (e, none) (subst (λ l. TagsAt at l (spans_from (at + length colons + 0 + 1) 0 bs)) (append_assoc colons (b ∷ []) bs)
        (subst (λ n. TagsAt at (colons ++ b ∷ [] ++ bs) (spans_from n 0 bs)) place
        (tags_hold at (colons ++ b ∷ []) [] bs (all_more is_colon colons b h e) refl)))
    | inr some ↦
        rw (e, some.0) (b ∷ bs, next_tag at colons part (b ∷ bs) h k some.1 e, tags_hold (at + length colons + length part) (b ∷ []) [] bs (and_from (is_colon b) true e refl) refl)
  ]
  | inr e ↦
      let count : length (part ++ b ∷ []) ≡ length part + 1 = length-append part (b ∷ []) in
      rw e (subst (λ l. TagsAt at (colons ++ l) (spans_from (at + length colons) (length part + 1) bs)) (append_assoc part (b ∷ []) bs)
      (subst (λ n. TagsAt at (colons ++ (part ++ b ∷ [] ++ bs)) (spans_from (at + length colons) n bs)) count
      (tags_hold at colons (part ++ b ∷ []) bs h (all_more is_other part b k (ap not e)))))
]

pub tags_hold_all : (at : ℕ) (word : List ℕ) → TagsAt at word (spans_from at 0 word)
tags_hold_all at word = subst (λ n. TagsAt at word (spans_from n 0 word)) (add-zero at) (tags_hold at [] [] word refl refl)

no_length : (at : ℕ) (bs : List ℕ) → list_all is_colon bs ≡ true → spans_from at 0 bs ≡ []
no_length at [] h = refl
no_length at (b ∷ bs) h = let both = and_parts (is_colon b) (list_all is_colon bs) h in rw both.0 (no_length (at + 0 + 1) bs both.1)

past_colons : (at : ℕ) (colons text : List ℕ) → list_all is_colon colons ≡ true → spans_from at 0 (colons ++ text) ≡ spans_from (at + length colons) 0 text
past_colons at [] text h = ap (λ n. spans_from n 0 text) (sym (add-zero at))
past_colons at (b ∷ bs) text h =
    let both = and_parts (is_colon b) (list_all is_colon bs) h in
    let place : at + 0 + 1 + length bs ≡ at + length (b ∷ bs) = omega arith in
    rw both.0 (past_colons (at + 0 + 1) bs text both.1 ∙ ap (λ n. spans_from n 0 text) place)

not_true : (b : Bool) → not b ≡ true → b ≡ false
not_true true h = absurd (true≢false (sym h))
not_true false h = refl

past_tag : (at len : ℕ) (tag rest : List ℕ) → list_all is_other tag ≡ true → spans_from at len (tag ++ rest) ≡ spans_from at (len + length tag) rest
past_tag at len [] rest h = ap (λ n. spans_from at n rest) (sym (add-zero len))
past_tag at len (b ∷ bs) rest h =
    let both = and_parts (is_other b) (list_all is_other bs) h in
    let count : len + 1 + length bs ≡ len + length (b ∷ bs) = omega arith in
    rw (not_true (is_colon b) both.0) (past_tag at (len + 1) bs rest both.1 ∙ ap (λ n. spans_from at n rest) count)

tag_ended : (at len : ℕ) (rest : List ℕ) → 0 < len → ends_tag rest ≡ true → spans_from at len rest ≡ record { at = at; len = len } ∷ spans_from (at + len) 0 rest
tag_ended at len [] some h = rw (ne_eqb len 0 (λ e. omega (arith, e, some))) refl
tag_ended at len (b ∷ bs) some h =
    rw (h, ne_eqb len 0 (λ e. omega (arith, e, some))) (ap (λ n. record { at = at; len = len } ∷ spans_from n 0 bs) (omega arith))

-- a text has no other tags than the spans between its colons
pub tags_determined : (at : ℕ) (text : List ℕ) (spans : List Span) → TagsAt at text spans → spans ≡ spans_from at 0 text
tags_determined at text [] h = sym (no_length at text h)
tags_determined at text (tag ∷ spans) h =
    let next = h.1 in
    let begin = at + length next.colons in
    let len = length next.tag in
    let more : spans ≡ spans_from (begin + len) 0 h.0 = tags_determined (tag.at + tag.len) h.0 spans h.2 ∙ ap (λ s. spans_from (s.at + s.len) 0 h.0) next.place in
    let read : spans_from at 0 text ≡ record { at = begin; len = len } ∷ spans_from (begin + len) 0 h.0 =
    ap (spans_from at 0) next.spelled ∙ past_colons at next.colons (next.tag ++ h.0) next.between
    ∙ past_tag begin 0 next.tag h.0 next.letters ∙ ap (λ n. spans_from begin n h.0) (zero-add len) ∙ tag_ended begin len h.0 next.some next.whole in
    ap (λ s. s ∷ spans) next.place ∙ ap (λ ss. record { at = begin; len = len } ∷ ss) more ∙ sym read
