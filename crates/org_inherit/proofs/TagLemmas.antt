-- Tags, each once.
use Rattle.std.proofs.Common.{◌≡◌, ◌∙◌, ℕ, Bool, true, false, cond, List, [], ◌∷◌, ◌++◌, length, refl, sym, ap, ap₂, inl, inr, append_assoc, append-nil, arith}
use Rattle.std.specs.Prelude.{Vec, bytes_eq, not, ◌||◌, ◌==◌}
use Rattle.std.specs.Global.{Global}
use Rattle.std.specs.List.{list_any}
use Rattle.std.specs.Ordering.{is_eq, nat_cmp, match_ordering}
use Rattle.std.specs.Cmp.Lexicographic.{slice_cmp}
use Rattle.std.specs.BTreeSet.{insert_key}
use Rattle.std.specs.declared.cmp.Ordering.{Ordering}
use Rattle.std.specs.declared.cmp.Ordering.TheVariants.{Less, Equal, Greater}
use Rattle.std.proofs.lemmas.Bool.{cases_Bool, ne_eqb}
use Rattle.std.proofs.lemmas.Map.Text.{is_eq-slice_cmp}
use Rattle.std.proofs.lemmas.Slice.Eq.{bytes_eq-Decides}
use Rattle.org_inherit.specs.Tags.{with_tag, closed_tags, tags_text, with_shown}
use Rattle.org_inherit.specs.Seen.{is_seen}

or-commutes : (a b c : Bool) → (a || (b || c)) ≡ (b || (a || c))
or-commutes true true c = refl
or-commutes true false c = refl
or-commutes false true c = refl
or-commutes false false c = refl

or-twice : (a c : Bool) → (a || (a || c)) ≡ (a || c)
or-twice true c = refl
or-twice false c = refl

same_bytes : (q a b : List ℕ) → bytes_eq a b ≡ true → bytes_eq q a ≡ bytes_eq q b
same_bytes q a b e = ap (bytes_eq q) ((bytes_eq-Decides a b).0 e)

abbrev key_cmp : Vec ℕ Global → Vec ℕ Global → Ordering
key_cmp a b = slice_cmp nat_cmp a.items b.items

-- what a set contains is seen
pub seen_by_key : (keys : List (Vec ℕ Global)) (k : Vec ℕ Global) → list_any (λ x. is_eq (key_cmp k x)) keys ≡ is_seen keys k.items
seen_by_key [] k = refl
seen_by_key (x ∷ xs) k = ap₂ (λ a b. a || b) (is_eq-slice_cmp k.items x.items) (seen_by_key xs k)

-- a key that was put in is seen, and the others as before
pub is_seen-insert : (keys : List (Vec ℕ Global)) (k : Vec ℕ Global) (q : List ℕ) → is_seen (insert_key key_cmp keys k) q ≡ (bytes_eq q k.items || is_seen keys q)
is_seen-insert [] k q = refl
is_seen-insert (x ∷ xs) k q =
    elim (key_cmp k x) as (λ o. key_cmp k x ≡ o → is_seen (match_ordering o (k ∷ x ∷ xs) (x ∷ xs) (x ∷ insert_key key_cmp xs k)) q ≡ (bytes_eq q k.items || is_seen (x ∷ xs) q)) [
      | Less ↦ λ e. refl
      | Equal ↦ λ e.
          let same : bytes_eq k.items x.items ≡ true = sym (is_eq-slice_cmp k.items x.items) ∙ ap is_eq e in
          sym (ap (λ b. b || (bytes_eq q x.items || is_seen xs q)) (same_bytes q k.items x.items same) ∙ or-twice (bytes_eq q x.items) (is_seen xs q))
      | Greater ↦ λ e. ap (λ b. bytes_eq q x.items || b) (is_seen-insert xs k q) ∙ or-commutes (bytes_eq q x.items) (bytes_eq q k.items) (is_seen xs q)
    ] refl

closed_tags-more : (tags : List (List ℕ)) (tag : List ℕ) → closed_tags (tags ++ tag ∷ []) ≡ closed_tags tags ++ (tag ++ (58 ∷ []))
closed_tags-more [] tag = append-nil _
closed_tags-more (t ∷ tags) tag = ap (λ x. (t ++ (58 ∷ [])) ++ x) (closed_tags-more tags tag) ∙ sym (append_assoc (t ++ (58 ∷ [])) (closed_tags tags) (tag ++ (58 ∷ [])))

-- a tag is written, and then those that are left
pub closed_tags-next : (text tag : List ℕ) (left : List (List ℕ)) → ((text ++ tag) ++ 58 ∷ []) ++ closed_tags left ≡ text ++ closed_tags (tag ∷ left)
closed_tags-next text tag left = ap (λ x. x ++ closed_tags left) (append_assoc text tag (58 ∷ [])) ∙ append_assoc text (tag ++ 58 ∷ []) (closed_tags left)

some_is_not_none : {X Y : Type 0} (x : X) (xs : List X) (a b : Y) → cond (length (x ∷ xs) == 0) a b ≡ b
some_is_not_none x xs a b = ap (λ t. cond t a b) (ne_eqb (length (x ∷ xs)) 0 (λ e. absurd (omega arith)))

-- one more tag is shown
pub tags_text-more : (tags : List (List ℕ)) (tag : List ℕ) → tags_text (tags ++ tag ∷ []) ≡ with_shown (tags_text tags) tag
tags_text-more [] tag = some_is_not_none tag [] [] (58 ∷ closed_tags (tag ∷ [])) ∙ ap (λ x. 58 ∷ x) (append-nil (tag ++ (58 ∷ [])))
tags_text-more (t ∷ tags) tag =
    let before : tags_text (t ∷ tags) ≡ 58 ∷ closed_tags (t ∷ tags) = some_is_not_none t tags [] (58 ∷ closed_tags (t ∷ tags)) in
    some_is_not_none t (tags ++ tag ∷ []) [] (58 ∷ closed_tags ((t ∷ tags) ++ tag ∷ []))
    ∙ ap (λ x. 58 ∷ x) (closed_tags-more (t ∷ tags) tag ∙ sym (append_assoc (closed_tags (t ∷ tags)) tag (58 ∷ [])))
    ∙ sym (ap (λ x. (x ++ tag) ++ (58 ∷ [])) (some_is_not_none 58 (closed_tags (t ∷ tags)) (58 ∷ []) (58 ∷ closed_tags (t ∷ tags))))
    ∙ sym (ap (λ x. with_shown x tag) before)

-- a test of tags with one more
pub list_any-more : (p : List ℕ → Bool) (tags : List (List ℕ)) (tag : List ℕ) → list_any p (tags ++ tag ∷ []) ≡ (p tag || list_any p tags)
list_any-more p [] tag = refl
list_any-more p (t ∷ tags) tag = ap (λ b. p t || b) (list_any-more p tags tag) ∙ or-commutes (p t) (p tag) (list_any p tags)

found_again : (tags : List (List ℕ)) (tag q : List ℕ) → list_any (bytes_eq tag) tags ≡ true → bytes_eq q tag ≡ true → list_any (bytes_eq q) tags ≡ true
found_again tags tag q there same = ap (λ t. list_any (bytes_eq t) tags) ((bytes_eq-Decides q tag).0 same) ∙ there

-- a tag that wasn't seen is added
pub tag_added : (old : List (List ℕ)) (tag : List ℕ) → list_any (bytes_eq tag) old ≡ false → with_tag old tag ≡ old ++ tag ∷ []
tag_added old tag fresh = ap (λ b. cond b old (old ++ tag ∷ [])) fresh

-- and no other is
pub tag_left : (old : List (List ℕ)) (tag : List ℕ) → list_any (bytes_eq tag) old ≡ true → with_tag old tag ≡ old
tag_left old tag again = ap (λ b. cond b old (old ++ tag ∷ [])) again

-- the tags that were seen are still those that are there
pub seen_more : (old : List (List ℕ)) (tag : List ℕ) (before after : List ℕ → Bool) → ((q : List ℕ) → before q ≡ list_any (bytes_eq q) old) → ((q : List ℕ) → after q ≡ (bytes_eq q tag || before q)) → (q : List ℕ) → after q ≡ list_any (bytes_eq q) (with_tag old tag)
seen_more old tag before after was more q =
    let now : after q ≡ (bytes_eq q tag || list_any (bytes_eq q) old) = more q ∙ ap (λ b. bytes_eq q tag || b) (was q) in
    elim (cases_Bool (list_any (bytes_eq tag) old)) [
      | inl again ↦
          elim (cases_Bool (bytes_eq q tag)) [
            | inl same ↦ now ∙ ap (λ b. b || list_any (bytes_eq q) old) same ∙ sym (found_again old tag q again same) ∙ ap (list_any (bytes_eq q)) (sym (tag_left old tag again))
            | inr other ↦ now ∙ ap (λ b. b || list_any (bytes_eq q) old) other ∙ ap (list_any (bytes_eq q)) (sym (tag_left old tag again))
          ]
      | inr fresh ↦ now ∙ sym (list_any-more (bytes_eq q) old tag) ∙ ap (list_any (bytes_eq q)) (sym (tag_added old tag fresh))
    ]

pub is_fresh : (b : Bool) → not b ≡ true → b ≡ false
is_fresh true e = cc
is_fresh false e = refl

pub is_again : (b : Bool) → not b ≡ false → b ≡ true
is_again true e = refl
is_again false e = cc
