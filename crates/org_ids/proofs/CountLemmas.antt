-- A table of names with a number for each.
use Rattle.std.proofs.Common.{◌≡◌, ◌<◌, inl, inr, ℕ, zero, suc, Bool, true, false, cond, List, [], ◌∷◌, ◌++◌, map, refl, sym, ap, ap₂, ◌∙◌, arith}
use Rattle.std.specs.Prelude.{bytes_eq, min, nat_lt, Vec, Option, None, Some}
use Rattle.std.specs.Global.{Global}
use Rattle.std.specs.Map.{lookup}
use Rattle.std.specs.Ordering.{is_eq, nat_cmp, match_ordering}
use Rattle.std.specs.Cmp.Lexicographic.{slice_cmp}
use Rattle.std.specs.BTreeMap.{insert_entry}
use Rattle.std.specs.declared.cmp.Ordering.{Ordering}
use Rattle.std.specs.declared.cmp.Ordering.TheVariants.{Less, Equal, Greater}
use Rattle.std.proofs.lemmas.Bool.{cases_Bool, lt-ltb}
use Rattle.std.proofs.lemmas.Map.Text.{is_eq-slice_cmp}
use Rattle.std.proofs.lemmas.Slice.Eq.{bytes_eq-Decides}
use Rattle.org_ids.specs.Counts.{CameThese, Counts, IsAskedToo, IsCountedToo, IsPut, NoneCame, asked_too, is_twice, number_of, one_more, times_in}

abbrev Entries : Type 0
Entries = List (Vec ℕ Global × ℕ)

abbrev pub seen : Entries → Counts
seen es = map (λ e. (e.0.items, e.1)) es

-- what the map finds by order is what its view has
pub count-seen : (q : List ℕ) (es : Entries) → lookup (λ k. is_eq (slice_cmp nat_cmp q k.items)) es ≡ lookup (bytes_eq q) (seen es)
count-seen q [] = refl
count-seen q (e ∷ es) = ap₂ (λ b rest. cond b (Some e.1) rest) (is_eq-slice_cmp q e.0.items) (count-seen q es)

abbrev key_cmp : Vec ℕ Global → Vec ℕ Global → Ordering
key_cmp a b = slice_cmp nat_cmp a.items b.items

-- a name's number after an insertion
pub insert-seen : (q : List ℕ) (es : Entries) (k : Vec ℕ Global) (v : ℕ) →
    lookup (bytes_eq q) (seen (insert_entry key_cmp es k v)) ≡ cond (bytes_eq q k.items) (Some v) (lookup (bytes_eq q) (seen es))
insert-seen q es k v = inserted es
  where
    hides : (a b : Bool) → b ≡ a → (rest : Option ℕ) (old : ℕ) → cond a (Some v) rest ≡ cond b (Some v) (cond a (Some old) rest)
    hides true b e rest old = rw e refl
    hides false b e rest old = rw e refl

    apart : (l : List ℕ) → bytes_eq k.items l ≡ false → (old : ℕ) (rest : Option ℕ) →
        cond (bytes_eq q l) (Some old) (cond (bytes_eq q k.items) (Some v) rest) ≡ cond (bytes_eq q k.items) (Some v) (cond (bytes_eq q l) (Some old) rest)
    apart l differs old rest = elim (cases_Bool (bytes_eq q k.items)) [
      | inl here ↦
          let not_l : bytes_eq q l ≡ false = ap (λ x. bytes_eq x l) ((bytes_eq-Decides q k.items).0 here) ∙ differs in
          rw (here, not_l) refl
      | inr other ↦ rw other refl
    ]

    inserted : (es : Entries) → lookup (bytes_eq q) (seen (insert_entry key_cmp es k v)) ≡ cond (bytes_eq q k.items) (Some v) (lookup (bytes_eq q) (seen es))
    inserted [] = refl
    inserted (e ∷ es) =
        elim (key_cmp k e.0) as (λ o. key_cmp k e.0 ≡ o → lookup (bytes_eq q) (seen (match_ordering o ((k, v) ∷ e ∷ es) ((e.0, v) ∷ es) (e ∷ insert_entry key_cmp es k v))) ≡ cond (bytes_eq q k.items) (Some v) (lookup (bytes_eq q) (seen (e ∷ es)))) [
          | Less ↦ λ h. refl
          | Equal ↦ λ h.
              let same : k.items ≡ e.0.items = (bytes_eq-Decides k.items e.0.items).0 (sym (is_eq-slice_cmp k.items e.0.items) ∙ ap is_eq h) in
              hides (bytes_eq q e.0.items) (bytes_eq q k.items) (ap (bytes_eq q) same) (lookup (bytes_eq q) (seen es)) e.1
          | Greater ↦ λ h.
              let differs : bytes_eq k.items e.0.items ≡ false = sym (is_eq-slice_cmp k.items e.0.items) ∙ ap is_eq h in
              ap (cond (bytes_eq q e.0.items) (Some e.1)) (inserted es) ∙ apart e.0.items differs e.1 (lookup (bytes_eq q) (seen es))
        ] refl

pub number_of-insert : (q key : List ℕ) (es : Entries) (k : Vec ℕ Global) (v : ℕ) → k.items ≡ key →
    number_of (seen (insert_entry key_cmp es k v)) q ≡ cond (bytes_eq q key) (Some v) (number_of (seen es) q)
number_of-insert q key es k v e = insert-seen q es k v ∙ ap (λ n. cond (bytes_eq q n) (Some v) (number_of (seen es) q)) e

-- nothing changes where a name's number stays
pub same_number : (f : Option ℕ → Option ℕ) (counts : Counts) (name other : List ℕ) → f (number_of counts name) ≡ number_of counts name →
    number_of counts other ≡ cond (bytes_eq other name) (f (number_of counts name)) (number_of counts other)
same_number f counts name other e = elim (cases_Bool (bytes_eq other name)) [
  | inl here ↦ rw here (ap (number_of counts) ((bytes_eq-Decides other name).0 here) ∙ sym e)
  | inr apart ↦ rw apart refl
]

-- and where it is put
pub put_number : (f : Option ℕ → Option ℕ) (old new : Counts) (name : List ℕ) (number : ℕ) → IsPut old new name number → f (number_of old name) ≡ Some number →
    (other : List ℕ) → number_of new other ≡ cond (bytes_eq other name) (f (number_of old name)) (number_of old other)
put_number f old new name number put e other = put other ∙ ap (λ o. cond (bytes_eq other name) o (number_of old other)) (sym e)

-- one that is there once more comes once more
times_step : (t u : Bool) (rest : ℕ) → cond t (suc (cond u (suc rest) rest)) (cond u (suc rest) rest) ≡ cond u (suc (cond t (suc rest) rest)) (cond t (suc rest) rest)
times_step true true rest = refl
times_step true false rest = refl
times_step false true rest = refl
times_step false false rest = refl

times_behind : (q name : List ℕ) (names : List (List ℕ)) → times_in q (names ++ name ∷ []) ≡ cond (bytes_eq q name) (suc (times_in q names)) (times_in q names)
times_behind q name [] = refl
times_behind q name (other ∷ names) =
    ap (λ (n : ℕ). cond (bytes_eq q other) (suc n) n) (times_behind q name names) ∙ times_step (bytes_eq q other) (bytes_eq q name) (times_in q names)

one_more_is : (n : ℕ) → one_more (Some (min 2 n)) ≡ Some (min 2 (suc n))
one_more_is zero = refl
one_more_is (suc zero) = refl
one_more_is (suc (suc n)) =
    let here : min 2 (suc (suc n)) ≡ 2 = omega arith in
    let next : min 2 (suc (suc (suc n))) ≡ 2 = omega arith in
    ap (λ (k : ℕ). one_more (Some k)) here ∙ ap Some (sym next)

-- whether a name came more often than once
pub is_twice_is : (n : ℕ) → is_twice (Some (min 2 n)) ≡ nat_lt 1 n
is_twice_is zero = refl
is_twice_is (suc zero) = refl
is_twice_is (suc (suc n)) =
    let here : min 2 (suc (suc n)) ≡ 2 = omega arith in
    let more : 1 < suc (suc n) = omega arith in
    ap (λ (k : ℕ). is_twice (Some k)) here ∙ sym (lt-ltb 1 (suc (suc n)) more)

-- one more name came
pub came_more : (old mid new : Counts) (before : List (List ℕ)) (name : List ℕ) → CameThese old mid before → IsCountedToo mid new name → CameThese old new (before ++ name ∷ [])
came_more old mid new before name came counted q asked = elim (cases_Bool (bytes_eq q name)) [
  | inl here ↦
      let same : q ≡ name = (bytes_eq-Decides q name).0 here in
      counted q
      ∙ ap (λ (b : Bool). cond b (one_more (number_of mid name)) (number_of mid q)) here
      ∙ ap one_more (ap (number_of mid) (sym same) ∙ came q asked)
      ∙ one_more_is (times_in q before)
      ∙ ap (λ (n : ℕ). Some (min 2 n)) (sym (times_behind q name before ∙ ap (λ (b : Bool). cond b (suc (times_in q before)) (times_in q before)) here))
  | inr apart ↦
      counted q
      ∙ ap (λ (b : Bool). cond b (one_more (number_of mid name)) (number_of mid q)) apart
      ∙ came q asked
      ∙ ap (λ (n : ℕ). Some (min 2 n)) (sym (times_behind q name before ∙ ap (λ (b : Bool). cond b (suc (times_in q before)) (times_in q before)) apart))
]

-- at first each has come as often as it is among none
pub came_none : (counts : Counts) → CameThese counts counts []
came_none counts q asked = asked

asked_twice : (o : Option ℕ) → asked_too (asked_too o) ≡ asked_too o
asked_twice None = refl
asked_twice (Some n) = refl

-- a name that is asked about hasn't come, and nor have the others
pub none_asked : (old new : Counts) (name : List ℕ) → NoneCame old → IsAskedToo old new name → NoneCame new
none_asked old new name none asked q = elim (cases_Bool (bytes_eq q name)) [
  | inl here ↦ ap asked_too (asked q ∙ ap (λ (b : Bool). cond b (asked_too (number_of old name)) (number_of old q)) here) ∙ asked_twice (number_of old name) ∙ none name
  | inr apart ↦ ap asked_too (asked q ∙ ap (λ (b : Bool). cond b (asked_too (number_of old name)) (number_of old q)) apart) ∙ none q
]

pub asked_now : (old new : Counts) (name : List ℕ) → NoneCame old → IsAskedToo old new name → number_of new name ≡ Some 0
asked_now old new name none asked =
    asked name ∙ ap (λ (b : Bool). cond b (asked_too (number_of old name)) (number_of old name)) ((bytes_eq-Decides name name).1 refl) ∙ none name

-- and what was asked about before still is
pub asked_still : (old new : Counts) (name q : List ℕ) → NoneCame old → IsAskedToo old new name → number_of old q ≡ Some 0 → number_of new q ≡ Some 0
asked_still old new name q none asked before = elim (cases_Bool (bytes_eq q name)) [
  | inl here ↦ asked q ∙ ap (λ (b : Bool). cond b (asked_too (number_of old name)) (number_of old q)) here ∙ none name
  | inr apart ↦ asked q ∙ ap (λ (b : Bool). cond b (asked_too (number_of old name)) (number_of old q)) apart ∙ before
]
