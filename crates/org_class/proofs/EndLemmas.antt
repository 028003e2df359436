-- A table of names, and the last end line of each.
use Rattle.std.proofs.Common.{◌≡◌, inl, inr, ℕ, suc, ◌+◌, Bool, true, false, cond, ◌==◌, ◌||◌, zero, List, [], ◌∷◌, map, drop, refl, sym, ap, ap₂, ◌∙◌, arith}
use Rattle.std.specs.Prelude.{bytes_eq, nat_lt, Vec, Option, Some}
use Rattle.std.specs.List.{list_any}
use Rattle.std.specs.Global.{Global}
use Rattle.std.specs.Option.{unwrap_or}
use Rattle.std.specs.Map.{lookup}
use Rattle.std.specs.Char.{to_ascii_lowercase}
use Rattle.std.specs.Ordering.{is_eq, nat_cmp, match_ordering}
use Rattle.std.specs.Cmp.Lexicographic.{slice_cmp}
use Rattle.std.specs.BTreeMap.{insert_entry}
use Rattle.std.specs.declared.cmp.Ordering.{Ordering}
use Rattle.std.specs.declared.cmp.Ordering.TheVariants.{Less, Equal, Greater}
use Rattle.std.proofs.lemmas.Bool.{cases_Bool, eqb-true, eqb-false, ne_eqb, lt-ltb, le-ltb, cases_lt}
use Rattle.std.proofs.lemmas.Cmp.{nat_list_eq_equiv}
use Rattle.std.proofs.lemmas.Map.Text.{is_eq-slice_cmp}
use Rattle.std.proofs.lemmas.Slice.Eq.{bytes_eq-Decides}
use Rattle.org_base.specs.Words.{same_word}
use Rattle.org_class.specs.Blocks.{ends_block}
use Rattle.org_class.specs.Ends.{Places, place_of, last_where, AreLastEnds, KnowsEnds}

abbrev Entries : Type 0
Entries = List (Vec ℕ Global × ℕ)

abbrev pub seen : Entries → Places
seen es = map (λ e. (e.0.items, e.1)) es

lower : List ℕ → List ℕ
lower name = map to_ascii_lowercase name

-- what the map finds by order is what its view has
pub place-seen : (q : List ℕ) (es : Entries) → lookup (λ k. is_eq (slice_cmp nat_cmp q k.items)) es ≡ lookup (bytes_eq q) (seen es)
place-seen q [] = refl
place-seen q (e ∷ es) = ap₂ (λ b rest. cond b (Some e.1) rest) (is_eq-slice_cmp q e.0.items) (place-seen q es)

abbrev key_cmp : Vec ℕ Global → Vec ℕ Global → Ordering
key_cmp a b = slice_cmp nat_cmp a.items b.items

cond_over : {X Y : Type 0} (f : X → Y) (b : Bool) (x y : X) → f (cond b x y) ≡ cond b (f x) (f y)
cond_over f true x y = refl
cond_over f false x y = refl

-- a name's value after an insertion
pub insert-seen : (q : List ℕ) (es : Entries) (k : Vec ℕ Global) (v : ℕ) →
    lookup (bytes_eq q) (seen (insert_entry key_cmp es k v)) ≡ cond (bytes_eq k.items q) (Some v) (lookup (bytes_eq q) (seen es))
insert-seen q es k v = inserted es ∙ ap (λ b. cond b (Some v) (lookup (bytes_eq q) (seen es))) (nat_list_eq_equiv.symm q k.items)
  where
    hides : (a b : Bool) → b ≡ a → (rest : Option ℕ) (old : ℕ) → cond a (Some v) rest ≡ cond b (Some v) (cond a (Some old) rest)
    hides true b e rest old = rw e refl
    hides false b e rest old = rw e refl

    apart : (l : List ℕ) → bytes_eq k.items l ≡ false → (old : ℕ) (rest : Option ℕ) →
        cond (bytes_eq q l) (Some old) (cond (bytes_eq q k.items) (Some v) rest) ≡ cond (bytes_eq q k.items) (Some v) (cond (bytes_eq q l) (Some old) rest)
    apart l differs old rest = elim (cases_Bool (bytes_eq q k.items)) [
      | inl here ↦
          let not_l : bytes_eq q l ≡ false = ap (λ x. bytes_eq x l) ((bytes_eq-Decides q k.items).0 here) ∙ differs in
          rw (here, not_l) refl
      | inr other ↦ rw other refl
    ]

    inserted : (es : Entries) → lookup (bytes_eq q) (seen (insert_entry key_cmp es k v)) ≡ cond (bytes_eq q k.items) (Some v) (lookup (bytes_eq q) (seen es))
    inserted [] = refl
    inserted (e ∷ es) =
        elim (key_cmp k e.0) as (λ o. key_cmp k e.0 ≡ o → lookup (bytes_eq q) (seen (match_ordering o ((k, v) ∷ e ∷ es) ((e.0, v) ∷ es) (e ∷ insert_entry key_cmp es k v))) ≡ cond (bytes_eq q k.items) (Some v) (lookup (bytes_eq q) (seen (e ∷ es)))) [
          | Less ↦ λ h. refl
          | Equal ↦ λ h.
              let same : k.items ≡ e.0.items = (bytes_eq-Decides k.items e.0.items).0 (sym (is_eq-slice_cmp k.items e.0.items) ∙ ap is_eq h) in
              hides (bytes_eq q e.0.items) (bytes_eq q k.items) (ap (bytes_eq q) same) (lookup (bytes_eq q) (seen es)) e.1
          | Greater ↦ λ h.
              let differs : bytes_eq k.items e.0.items ≡ false = sym (is_eq-slice_cmp k.items e.0.items) ∙ ap is_eq h in
              ap (cond (bytes_eq q e.0.items) (Some e.1)) (inserted es) ∙ apart e.0.items differs e.1 (lookup (bytes_eq q) (seen es))
        ] refl

pub place_of-insert : (q name : List ℕ) (es : Entries) (k : Vec ℕ Global) (v : ℕ) → k.items ≡ map to_ascii_lowercase name →
    place_of (seen (insert_entry key_cmp es k v)) q ≡ cond (same_word name q) v (place_of (seen es) q)
place_of-insert q name es k v e =
    ap (λ o. unwrap_or o 0) (insert-seen (map to_ascii_lowercase q) es k v)
    ∙ cond_over (λ o. unwrap_or o 0) (bytes_eq k.items (map to_ascii_lowercase q)) (Some v) (lookup (bytes_eq (map to_ascii_lowercase q)) (seen es))
    ∙ ap (λ n. cond (bytes_eq n (map to_ascii_lowercase q)) v (place_of (seen es) q)) e

-- the last so far, or the last of the elements after so many
abbrev pub last_behind : {X : Type 0} → ℕ → ℕ → (X → Bool) → List X → ℕ
last_behind last n test xs = cond (last_where test xs == 0) last (n + last_where test xs)

-- one more element is passed
pub last_more : {X : Type 0} (last n : ℕ) (test : X → Bool) (x : X) (xs : List X) → last_behind last n test (x ∷ xs) ≡ last_behind (cond (test x) (n + 1) last) (n + 1) test xs
last_more last n test x xs = elim (cases_Bool (last_where test xs == 0)) [
  | inl e ↦ elim (cases_Bool (test x)) [
    | inl y ↦ rw (e, y) refl
    | inr y ↦ rw (e, y) refl
  ]
  | inr e ↦
      let some : last_where test xs ≡ 0 → ⊥ = eqb-false (last_where test xs) 0 e in
      let more : (suc (last_where test xs) == 0) ≡ false = ne_eqb (suc (last_where test xs)) 0 (λ z. omega arith) in
      rw (e, more) (let t : n + suc (last_where test xs) ≡ n + 1 + last_where test xs = omega arith in t)
]

pub none_behind : {X : Type 0} (last n : ℕ) (test : X → Bool) → last_behind last n test [] ≡ last
none_behind last n test = refl

-- elements after so many pass the test where the last one that does is among them
pub any_is_last : {X : Type 0} (test : X → Bool) (xs : List X) → list_any test xs ≡ nat_lt 0 (last_where test xs)
any_is_last test [] = refl
any_is_last test (x ∷ xs) = elim (cases_Bool (last_where test xs == 0)) [
  | inl e ↦
      let none : last_where test xs ≡ 0 = eqb-true (last_where test xs) 0 e in
      let rest : list_any test xs ≡ false = any_is_last test xs ∙ ap (nat_lt 0) none in
      elim (cases_Bool (test x)) [ inl y ↦ rw (e, y) refl | inr y ↦ rw (e, y, rest) refl ]
  | inr e ↦
      let some : last_where test xs ≡ 0 → ⊥ = eqb-false (last_where test xs) 0 e in
      let rest : list_any test xs ≡ true = any_is_last test xs ∙ lt-ltb 0 (last_where test xs) (omega arith) in
      rw (e, rest, lt-ltb 0 (suc (last_where test xs)) (omega arith)) (or_true (test x))
]
  where
    or_true : (b : Bool) → (b || true) ≡ true
    or_true true = refl
    or_true false = refl

pub any_behind : {X : Type 0} (test : X → Bool) (n : ℕ) (xs : List X) → list_any test (drop n xs) ≡ nat_lt n (last_where test xs)
any_behind test zero xs = any_is_last test xs
any_behind {X = X} test (suc n) [] = sym (le-ltb (suc n) 0 (omega arith))
any_behind test (suc n) (x ∷ xs) = any_behind test n xs ∙ shift n (last_where test xs) (test x)
  where
    shift : (n m : ℕ) (b : Bool) → nat_lt n m ≡ nat_lt (suc n) (cond (m == 0) (cond b 1 0) (suc m))
    shift n zero true = le-ltb n 0 (omega arith) ∙ sym (le-ltb (suc n) 1 (omega arith))
    shift n zero false = le-ltb n 0 (omega arith) ∙ sym (le-ltb (suc n) 0 (omega arith))
    shift n (suc m) b = same ∙ ap (λ t. nat_lt (suc n) (cond t (cond b 1 0) (suc (suc m)))) (sym (ne_eqb (suc m) 0 (λ z. omega arith)))
      where
        same : nat_lt n (suc m) ≡ nat_lt (suc n) (suc (suc m))
        same = elim (cases_lt n (suc m)) [ inl h ↦ lt-ltb n (suc m) h ∙ sym (lt-ltb (suc n) (suc (suc m)) (omega arith)) | inr h ↦ le-ltb n (suc m) h ∙ sym (le-ltb (suc n) (suc (suc m)) (omega arith)) ]

-- where the last ends of all lines are known, those after so many lines are
pub ends_known : (places : Places) (n : ℕ) (ls rest : List (List ℕ)) → rest ≡ drop n ls → AreLastEnds places ls → KnowsEnds places n rest
ends_known places n ls rest behind known name =
    ap (nat_lt n) (known name) ∙ sym (any_behind (ends_block name) n ls) ∙ ap (list_any (ends_block name)) (sym behind)
