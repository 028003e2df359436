-- Headings in order, and the stamps of each.
use Rattle.std.proofs.Common.{◌≡◌, ◌∙◌, ◌⊎◌, ℕ, zero, suc, ◌+◌, ◌<◌, ◌≤◌, Bool, true, false, List, [], ◌∷◌, ◌++◌, inl, inr, length, drop, get_or, cond, sym, ap, ap₂, refl, subst, arith, append-nil, append_assoc, true≢false}
use Rattle.std.specs.Prelude.{Contains, Option, None, Some, filter, slice_get}
use Rattle.std.specs.List.{flat_map, range_with_len}
use Rattle.std.specs.List.Sorted.{IsStrictlySortedBy}
use Rattle.std.specs.Ordering.{nat_cmp}
use Rattle.std.proofs.lemmas.Bool.{cases_lt}
use Rattle.std.proofs.lemmas.List.{drop_more, drop_all}
use Rattle.std.proofs.lemmas.Option.{get_or_from_slice_get}
use Rattle.std.proofs.lemmas.List.Concat.{flat_map-cons}
use Rattle.org_entry.specs.declared.entry.Entry.{Entry}
use Rattle.org_index.proofs.CandidateLemmas.{Rise, rises}
use Rattle.org_index.proofs.FilterLemmas.{contains_cases}
use Rattle.org_inherit.specs.Scope.{Scope}
use Rattle.org_agenda.specs.Sources.{file_sources, sources_of}
use Rattle.org_agenda.proofs.SourcesWords.{sources_at, sources_from}
use Rattle.org_agenda.specs.declared.source.HeadingStamp.{HeadingStamp}
use Rattle.org_agenda.proofs.ListLemmas.{filter_append}
use Rattle.org_near.specs.Near.{asked_in, asked_of, is_asked, sources_if}
use Rattle.org_stamp_index.specs.declared.near_query.NearQuery.{NearQuery}

abbrev pub Among : ℕ → List ℕ → Type 0
Among j [] = ⊥
Among j (h ∷ hs) = (j ≡ h) ⊎ Among j hs

above : (from : ℕ) (hs : List ℕ) (j : ℕ) → Rise from hs → Among j hs → from ≤ j
above from [] j up at = absurd at
above from (h ∷ hs) j up at = elim at [
  | inl e ↦ omega (arith, e, up.0)
  | inr more ↦ let later : h + 1 ≤ j = above (h + 1) hs j up.1 more in omega (arith, later, up.0)
]

wider : (a b : ℕ) (hs : List ℕ) → a ≤ b → Rise b hs → Rise a hs
wider a b [] le up = tt
wider a b (h ∷ hs) le up = (omega (arith, le, up.0), up.1)

module _ {X : Type 0} (g : ℕ → List X) where
  -- past the end there is nothing
  nothing_past : (hs : List ℕ) (i : ℕ) → Rise i hs → ((j : ℕ) → i ≤ j → g j ≡ []) → flat_map g hs ≡ []
  nothing_past [] i up past = refl
  nothing_past (h ∷ hs) i up past = flat_map-cons g h hs ∙ ap₂ (λ a b. a ++ b) (past h up.0) (nothing_past hs (h + 1) up.1 (λ j le. past j (omega (arith, le, up.0))))

  -- those that are left out have nothing
  pub merged : (hs : List ℕ) (i n : ℕ) → Rise i hs → ((j : ℕ) → i + n ≤ j → g j ≡ []) → ((j : ℕ) → i ≤ j → j < i + n → (Among j hs → ⊥) → g j ≡ []) →
      flat_map g hs ≡ flat_map g (range_with_len i n)
  merged hs i zero up past none = nothing_past hs i up (λ j le. past j (omega (arith, le)))
  merged [] i (suc n) up past none =
      merged [] (i + 1) n tt (λ j le. past j (omega (arith, le))) (λ j low high out. none j (omega (arith, low)) (omega (arith, high)) out)
      ∙ sym (flat_map-cons g i (range_with_len (i + 1) n) ∙ ap (λ a. a ++ flat_map g (range_with_len (i + 1) n)) (none i (omega arith) (omega arith) (λ x. x)))
  merged (h ∷ hs) i (suc n) up past none = elim (cases_lt i h) [
    | inl before ↦
        let left_out : Among i (h ∷ hs) → ⊥ = λ at. let late : h ≤ i = above h (h ∷ hs) i (omega arith, up.1) at in absurd (omega (arith, late, before)) in
        merged (h ∷ hs) (i + 1) n (omega (arith, before), up.1) (λ j le. past j (omega (arith, le))) (λ j low high out. none j (omega (arith, low)) (omega (arith, high)) out)
        ∙ sym (flat_map-cons g i (range_with_len (i + 1) n) ∙ ap (λ a. a ++ flat_map g (range_with_len (i + 1) n)) (none i (omega arith) (omega arith) left_out))
    | inr not_before ↦
        let same : h ≡ i = omega (arith, up.0, not_before) in
        flat_map-cons g h hs
        ∙ ap₂ (λ a b. a ++ b) (ap g same)
        (merged hs (i + 1) n (subst (λ (k : ℕ). Rise (k + 1) hs) same up.1) (λ j le. past j (omega (arith, le)))
        (λ j low high out. none j (omega (arith, low)) (omega (arith, high)) (λ at. elim at [ inl e ↦ absurd (omega (arith, e, same, low)) | inr more ↦ out more ])))
        ∙ sym (flat_map-cons g i (range_with_len (i + 1) n))
  ]

module _ (a : NearQuery) (scope : Scope) (file : ℕ) where
  -- the stamps of entries, one by one
  entries_near : (es : List Entry) (i : ℕ) → ((k : ℕ) → slice_get scope.entries (i + k) ≡ slice_get es k) →
      flat_map (asked_in a scope file) (range_with_len i (length es)) ≡ asked_of a (sources_from scope file i es)
  entries_near [] i same = refl
  entries_near (e ∷ es) i same =
      let here : slice_get scope.entries i ≡ Some e = ap (λ k. slice_get scope.entries k) (let z : i ≡ i + 0 = omega arith in z) ∙ same 0 in
      flat_map-cons (asked_in a scope file) i (range_with_len (i + 1) (length es))
      ∙ ap₂ (λ a b. a ++ b) (ap (λ (o : Option Entry). asked_of a (sources_if scope file i o)) here)
      (entries_near es (i + 1) (λ k. ap (λ j. slice_get scope.entries j) (let z : i + 1 + k ≡ i + suc k = omega arith in z) ∙ same (suc k)))
      ∙ sym (filter_append (is_asked a) (sources_at scope file i e) (sources_from scope file (i + 1) es))

  past_end : (es : List Entry) (j : ℕ) → length es ≤ j → slice_get es j ≡ None
  past_end [] j le = refl
  past_end (e ∷ es) zero le = absurd (omega (arith, le))
  past_end (e ∷ es) (suc j) le = past_end es j (omega (arith, le))

  pub none_past : (j : ℕ) → length scope.entries ≤ j → asked_in a scope file j ≡ []
  none_past j le = ap (λ (o : Option Entry). asked_of a (sources_if scope file j o)) (past_end scope.entries j le)

  -- the headings that are asked give all that are near
  pub file_near : (hs : List ℕ) → Rise 0 hs → ((j : ℕ) → (Among j hs → ⊥) → asked_in a scope file j ≡ []) →
      flat_map (asked_in a scope file) hs ≡ asked_of a (file_sources scope file)
  file_near hs up none =
      merged (asked_in a scope file) hs 0 (length scope.entries) up (λ j le. none_past j (omega (arith, le))) (λ j low high out. none j out)
      ∙ entries_near scope.entries 0 (λ k. ap (λ j. slice_get scope.entries j) (let z : 0 + k ≡ k = omega arith in z))

-- a place that is there is among them
pub among_places : (j : ℕ) (ks : List ℕ) → Contains ks j → Among j ks
among_places j [] h = absurd (omega (arith, h.1))
among_places j (k ∷ ks) h = elim (contains_cases k j ks h.0 h.1 h.2) [
  | inl here ↦ inl (sym here)
  | inr more ↦ inr (among_places j ks more)
]

-- places in their order, each once, rise
pub rise : (ks : List ℕ) → IsStrictlySortedBy nat_cmp ks → Rise 0 ks
rise ks up = rises ks up

-- one heading more
pub heading_more : (f : ℕ → List HeadingStamp) (old new all : List HeadingStamp) (k : ℕ) (rest ks : List ℕ) → new ≡ old ++ f k → rest ≡ k ∷ ks → old ++ flat_map f rest ≡ all → new ++ flat_map f ks ≡ all
heading_more f old new all k rest ks new_is rest_is so_far =
    ap (λ xs. xs ++ flat_map f ks) new_is ∙ append_assoc old (f k) (flat_map f ks) ∙ ap (λ xs. old ++ xs) (sym (flat_map-cons f k ks)) ∙ ap (λ xs. old ++ flat_map f xs) (sym rest_is) ∙ so_far

-- one file more
pub near_file_more : (a : NearQuery) (scopes : List Scope) (i : ℕ) (scope : Scope) (old new all : List HeadingStamp) → i < length scopes → slice_get scopes i ≡ Some scope → new ≡ old ++ asked_of a (file_sources scope i) →
    old ++ asked_of a (sources_of i (drop i scopes)) ≡ all → new ++ asked_of a (sources_of (i + 1) (drop (i + 1) scopes)) ≡ all
near_file_more a scopes i scope old new all lt there is so_far =
    let rest : List Scope = drop (i + 1) scopes in
    let first : drop i scopes ≡ scope ∷ rest = drop_more scopes i scope lt ∙ ap (λ x. x ∷ rest) (get_or_from_slice_get scopes i scope scope there) in
    ap (λ x. x ++ asked_of a (sources_of (i + 1) rest)) is
    ∙ append_assoc old (asked_of a (file_sources scope i)) (asked_of a (sources_of (i + 1) rest))
    ∙ ap (λ x. old ++ x) (sym (filter_append (is_asked a) (file_sources scope i) (sources_of (i + 1) rest)))
    ∙ ap (λ ss. old ++ asked_of a (sources_of i ss)) (sym first)
    ∙ so_far

pub near_files_whole : (a : NearQuery) (scopes : List Scope) (i : ℕ) (xs all : List HeadingStamp) → length scopes ≤ i → xs ++ asked_of a (sources_of i (drop i scopes)) ≡ all → xs ≡ all
near_files_whole a scopes i xs all le h = sym (append-nil xs) ∙ ap (λ ss. xs ++ asked_of a (sources_of i ss)) (sym (drop_all i scopes le)) ∙ h

-- what passes a test goes after, one by one
pub passed_more : (p : HeadingStamp → Bool) (xs : List HeadingStamp) (i : ℕ) (x : HeadingStamp) (old new all : List HeadingStamp) → i < length xs → x ≡ get_or xs i x → p x ≡ true → new ≡ old ++ x ∷ [] →
    old ++ filter p (drop i xs) ≡ all → new ++ filter p (drop (i + 1) xs) ≡ all
passed_more p xs i x old new all lt at passes is so_far =
    let rest : List HeadingStamp = drop (i + 1) xs in
    let first : drop i xs ≡ x ∷ rest = drop_more xs i x lt ∙ ap (λ y. y ∷ rest) (sym at) in
    let step : filter p (x ∷ rest) ≡ x ∷ filter p rest = ap (λ b. cond b (x ∷ filter p rest) (filter p rest)) passes in
    ap (λ ys. ys ++ filter p rest) is ∙ append_assoc old (x ∷ []) (filter p rest) ∙ ap (λ ys. old ++ ys) (sym step) ∙ ap (λ ys. old ++ filter p ys) (sym first) ∙ so_far

pub passed_over : (p : HeadingStamp → Bool) (xs : List HeadingStamp) (i : ℕ) (x : HeadingStamp) (old all : List HeadingStamp) → i < length xs → x ≡ get_or xs i x → p x ≡ false →
    old ++ filter p (drop i xs) ≡ all → old ++ filter p (drop (i + 1) xs) ≡ all
passed_over p xs i x old all lt at fails so_far =
    let rest : List HeadingStamp = drop (i + 1) xs in
    let first : drop i xs ≡ x ∷ rest = drop_more xs i x lt ∙ ap (λ y. y ∷ rest) (sym at) in
    let step : filter p (x ∷ rest) ≡ filter p rest = ap (λ b. cond b (x ∷ filter p rest) (filter p rest)) fails in
    ap (λ ys. old ++ ys) (sym step) ∙ ap (λ ys. old ++ filter p ys) (sym first) ∙ so_far

pub passed_whole : (p : HeadingStamp → Bool) (xs : List HeadingStamp) (i : ℕ) (old all : List HeadingStamp) → length xs ≤ i → old ++ filter p (drop i xs) ≡ all → old ≡ all
passed_whole p xs i old all le h = sym (append-nil old) ∙ ap (λ ys. old ++ filter p ys) (sym (drop_all i xs le)) ∙ h
