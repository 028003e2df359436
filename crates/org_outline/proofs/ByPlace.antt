-- Tables by an entry's place.
use Rattle.std.proofs.Common.{◌≡◌, ℕ, ◌-◌, ◌<◌, ◌≤◌, true, eqb, List, [], ◌∷◌, ◌++◌, Option, None, Some, map, length, get_or, take, drop, refl, sym, ap, ◌∙◌, arith}
use Rattle.std.specs.List.{AllZip, range_with_len, splice}
use Rattle.std.specs.Prelude.{slice_set}
use Rattle.std.specs.Option.{SomeIff, option_eq}
use Rattle.std.proofs.lemmas.Bool.{eqb-true}
use Rattle.std.proofs.lemmas.List.{get_or-map, length-map, take-map, drop-map, append_assoc, map-set, set-get_or, set-set}
use Rattle.std.proofs.lemmas.List.FromFn.{length-map-range_with_len, get_or-map-range_with_len}
use Rattle.org_entry.specs.declared.entry.Entry.{Entry}
use Rattle.org_outline.specs.Tree.{end_of, level_at}
use Rattle.org_outline.specs.Levels.{level_of, levels}
use Rattle.org_outline.specs.Places.{behind}
use Rattle.org_outline.proofs.Ends.{end_is}

pub table_length : {X : Type 0} (f : ℕ → X) (xs : List X) (n : ℕ) → xs ≡ map f (range_with_len 0 n) → length xs ≡ n
table_length f xs n e = ap length e ∙ length-map-range_with_len f 0 n

pub table_at : {X : Type 0} (f : ℕ → X) (xs : List X) (n i : ℕ) (d : X) → xs ≡ map f (range_with_len 0 n) → i < n → get_or xs i d ≡ f i
table_at f xs n i d e h = ap (λ v. get_or v i d) e ∙ get_or-map-range_with_len f 0 n i i d h (omega arith)

pub map_twice : {X Y Z : Type 0} (f : X → Y) (g : Y → Z) (xs : List X) → map g (map f xs) ≡ map (λ x. g (f x)) xs
map_twice f g [] = refl
map_twice f g (x ∷ xs) = ap (λ v. g (f x) ∷ v) (map_twice f g xs)

pub levels_length : (es : List Entry) → length (levels es) ≡ length es
levels_length es = length-map es level_of

-- a place among the levels of what is seen of items is one of theirs
pub within_levels : {R : Type 0} (v : R → Entry) (rs : List R) (i : ℕ) → i < length (levels (map v rs)) → i < length rs
within_levels v rs i h = omega (arith, h, length-map (map v rs) level_of, length-map rs v)

pub level_there : {R : Type 0} (v : R → Entry) (rs : List R) (i : ℕ) (r : R) (level : Option ℕ) → i < length rs → r ≡ get_or rs i r → level ≡ level_of (v r) → level ≡ level_at (levels (map v rs)) i
level_there v rs i r level h there is =
    is ∙ ap (λ x. level_of (v x)) there ∙ sym (get_or-map (λ x. level_of (v x)) rs i r None h) ∙ ap (λ ls. level_at ls i) (sym (map_twice v level_of rs))

-- a list made in three steps
pub three_steps : {R X : Type 0} (v : R → X) (rs : List R) (first end : ℕ) (a b c new : List R) (old fresh : List X) →
    map v rs ≡ old →
    a ≡ [] →
    map v b ≡ map v a ++ map v (take first rs) →
    map v c ≡ map v b ++ fresh →
    map v new ≡ map v c ++ map v (drop end rs) →
    map v new ≡ splice old first end fresh
three_steps v rs first end a b c new old fresh o e f g h =
    let p : map v (take first rs) ≡ take first old = sym (take-map v first rs) ∙ ap (take first) o in
    let q : map v (drop end rs) ≡ drop end old = sym (drop-map v end rs) ∙ ap (drop end) o in
    let x : map v a ≡ [] = ap (map v) e in
    h ∙ (rw (g, f, x, p, q) (append_assoc (take first old) fresh (drop end old)))

-- levels that are found equal are the same
pub same_level : (a b : Option ℕ) → option_eq eqb a b ≡ true → a ≡ b
same_level None None e = refl
same_level None (Some b) e = absurd cc
same_level (Some a) None e = absurd cc
same_level (Some a) (Some b) e = ap (λ n. Some n) (eqb-true a b e)

-- an item in the place of one of its level leaves the levels
pub set_levels : {R : Type 0} (v : R → Entry) (rs : List R) (i : ℕ) (before r : R) → i < length rs → before ≡ get_or rs i before → level_of (v before) ≡ level_of (v r) → levels (map v (slice_set rs i r)) ≡ levels (map v rs)
set_levels v rs i before r h there same =
    ap levels (map-set v rs i r)
    ∙ (map-set level_of (map v rs) i (v r)
    ∙ (ap (slice_set (levels (map v rs)) i) (level_there v rs i before (level_of (v r)) h there (sym same))
    ∙ set-get_or (levels (map v rs)) i None))

-- an item put back where another one was put
pub put_back : {R : Type 0} (rs : List R) (i : ℕ) (before r d : R) → before ≡ get_or rs i d → slice_set (slice_set rs i r) i before ≡ rs
put_back rs i before r d there = set-set rs i r before ∙ (ap (slice_set rs i) there ∙ set-get_or rs i d)

-- clones of shared items show the same
pub clones_show : {R X : Type 0} (v : R → X) (rs cs : List R) → AllZip (λ r c. v c ≡ v r) rs cs → map v cs ≡ map v rs
clones_show v [] [] h = refl
clones_show v [] (c ∷ cs) h = absurd h
clones_show v (r ∷ rs) [] h = absurd h
clones_show v (r ∷ rs) (c ∷ cs) h = λ i. h.0 i ∷ clones_show v rs cs h.1 i

-- the end of an entry is after it and at most the number of entries
pub end_after : (es : List Entry) (i : ℕ) → i < length es → i < end_of (levels es) i
end_after es i h = omega (arith, (end_is (levels es) i (omega (arith, h, length-map es level_of))).from)

pub end_inside : (es : List Entry) (i : ℕ) → i < length es → end_of (levels es) i ≤ length es
end_inside es i h = omega (arith, (end_is (levels es) i (omega (arith, h, length-map es level_of))).within, length-map es level_of)

-- a parent, from the count of the entries up to it
pub counted_parent : (found : Option ℕ) (n : ℕ) (p : Option ℕ) → SomeIff found (1 ≤ n) (n - 1) → n ≡ behind p → found ≡ p
counted_parent None n None h e = refl
counted_parent None n (Some k) h e = absurd (h (omega (arith, e)))
counted_parent (Some j) n None h e = absurd (omega (arith, h.0, e))
counted_parent (Some j) n (Some k) h e = let same : j ≡ k = omega (arith, h.1, e) in ap Some same
