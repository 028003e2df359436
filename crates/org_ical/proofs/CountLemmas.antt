-- A table of keys with a number for each.
use Rattle.std.proofs.Common.{◌≡◌, inl, inr, ℕ, Bool, true, false, cond, List, [], ◌∷◌, map, refl, sym, ap, ap₂, ◌∙◌}
use Rattle.std.specs.Prelude.{bytes_eq, Vec, Option, Some}
use Rattle.std.specs.Global.{Global}
use Rattle.std.specs.Option.{unwrap_or}
use Rattle.std.specs.Map.{lookup}
use Rattle.std.specs.Ordering.{is_eq, nat_cmp, match_ordering}
use Rattle.std.specs.Cmp.Lexicographic.{slice_cmp}
use Rattle.std.specs.BTreeMap.{insert_entry}
use Rattle.std.specs.declared.cmp.Ordering.{Ordering}
use Rattle.std.specs.declared.cmp.Ordering.TheVariants.{Less, Equal, Greater}
use Rattle.std.proofs.lemmas.Bool.{cases_Bool}
use Rattle.std.proofs.lemmas.Map.Text.{is_eq-slice_cmp}
use Rattle.std.proofs.lemmas.Slice.Eq.{bytes_eq-Decides}
use Rattle.org_ical.specs.Counts.{Counts, count_of}

abbrev Entries : Type 0
Entries = List (Vec ℕ Global × ℕ)

abbrev pub seen : Entries → Counts
seen es = map (λ e. (e.0.items, e.1)) es

-- what the map finds by order is what its view has
pub count-seen : (q : List ℕ) (es : Entries) → lookup (λ k. is_eq (slice_cmp nat_cmp q k.items)) es ≡ lookup (bytes_eq q) (seen es)
count-seen q [] = refl
count-seen q (e ∷ es) = ap₂ (λ b rest. cond b (Some e.1) rest) (is_eq-slice_cmp q e.0.items) (count-seen q es)

abbrev key_cmp : Vec ℕ Global → Vec ℕ Global → Ordering
key_cmp a b = slice_cmp nat_cmp a.items b.items

-- a key's number after an insertion
insert-seen : (q : List ℕ) (es : Entries) (k : Vec ℕ Global) (v : ℕ) →
    lookup (bytes_eq q) (seen (insert_entry key_cmp es k v)) ≡ cond (bytes_eq q k.items) (Some v) (lookup (bytes_eq q) (seen es))
insert-seen q es k v = inserted es
  where
    hides : (a b : Bool) → b ≡ a → (rest : Option ℕ) (old : ℕ) → cond a (Some v) rest ≡ cond b (Some v) (cond a (Some old) rest)
    hides true b e rest old = rw e refl
    hides false b e rest old = rw e refl

    apart : (l : List ℕ) → bytes_eq k.items l ≡ false → (old : ℕ) (rest : Option ℕ) →
        cond (bytes_eq q l) (Some old) (cond (bytes_eq q k.items) (Some v) rest) ≡ cond (bytes_eq q k.items) (Some v) (cond (bytes_eq q l) (Some old) rest)
    apart l differs old rest = elim (cases_Bool (bytes_eq q k.items)) [
      | inl here ↦
          let not_l : bytes_eq q l ≡ false = ap (λ x. bytes_eq x l) ((bytes_eq-Decides q k.items).0 here) ∙ differs in
          rw (here, not_l) refl
      | inr other ↦ rw other refl
    ]

    inserted : (es : Entries) → lookup (bytes_eq q) (seen (insert_entry key_cmp es k v)) ≡ cond (bytes_eq q k.items) (Some v) (lookup (bytes_eq q) (seen es))
    inserted [] = refl
    inserted (e ∷ es) =
        elim (key_cmp k e.0) as (λ o. key_cmp k e.0 ≡ o → lookup (bytes_eq q) (seen (match_ordering o ((k, v) ∷ e ∷ es) ((e.0, v) ∷ es) (e ∷ insert_entry key_cmp es k v))) ≡ cond (bytes_eq q k.items) (Some v) (lookup (bytes_eq q) (seen (e ∷ es)))) [
          | Less ↦ λ h. refl
          | Equal ↦ λ h.
              let same : k.items ≡ e.0.items = (bytes_eq-Decides k.items e.0.items).0 (sym (is_eq-slice_cmp k.items e.0.items) ∙ ap is_eq h) in
              hides (bytes_eq q e.0.items) (bytes_eq q k.items) (ap (bytes_eq q) same) (lookup (bytes_eq q) (seen es)) e.1
          | Greater ↦ λ h.
              let differs : bytes_eq k.items e.0.items ≡ false = sym (is_eq-slice_cmp k.items e.0.items) ∙ ap is_eq h in
              ap (cond (bytes_eq q e.0.items) (Some e.1)) (inserted es) ∙ apart e.0.items differs e.1 (lookup (bytes_eq q) (seen es))
        ] refl

cond_over : {X Y : Type 0} (f : X → Y) (b : Bool) (x y : X) → f (cond b x y) ≡ cond b (f x) (f y)
cond_over f true x y = refl
cond_over f false x y = refl

pub count_of-insert : (q key : List ℕ) (es : Entries) (k : Vec ℕ Global) (v : ℕ) → k.items ≡ key →
    count_of (seen (insert_entry key_cmp es k v)) q ≡ cond (bytes_eq q key) v (count_of (seen es) q)
count_of-insert q key es k v e =
    ap (λ o. unwrap_or o 0) (insert-seen q es k v)
    ∙ cond_over (λ o. unwrap_or o 0) (bytes_eq q k.items) (Some v) (lookup (bytes_eq q) (seen es))
    ∙ ap (λ n. cond (bytes_eq q n) v (count_of (seen es) q)) e
