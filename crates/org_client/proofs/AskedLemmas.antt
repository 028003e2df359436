-- Headings that are asked about, by their files, and the sums of all of them.
use Rattle.std.proofs.Common.{◌≡◌, ◌∙◌, inl, inr, ℕ, zero, suc, ◌+◌, ◌-◌, ◌^◌, ◌<◌, ◌≤◌, Bool, true, false, cond, List, [], ◌∷◌, ◌++◌, length, get_or, take, refl, sym, ap, subst, zero-add, arith}
use Rattle.std.specs.Prelude.{◌==◌, ◌&&◌, ◌||◌, min, nat_lt, replicate, slice_get, sum_by, Option, None, Some}
use Rattle.std.proofs.lemmas.Bool.{cases_Bool, cases_lt, eqb-true, eqb-false, le-ltb, lt-ltb, ltb-true, true≢false}
use Rattle.std.proofs.lemmas.List.{get_or-replicate, get_or-set_other, get_or-set_same, length-replicate, length-set, take_more}
use Rattle.std.proofs.lemmas.List.Folds.{list_any_more}
use Rattle.std.proofs.lemmas.List.Sums.{sum_by-append}
use Rattle.std.proofs.lemmas.Option.{get_or_from_slice_get}
use Rattle.org_client.specs.HeadingNames.{id_headings}
use Rattle.org_client.specs.Files.{NamedText}
use Rattle.org_client.specs.RowIds.{AreAsked, HaveSums, IdsView, PutsSums, has_key, heading_count, heading_sum, is_asked, is_in, is_same, key_of, sum_in, sum_there, with_heading, with_section}
use Rattle.org_client.specs.declared.row_ids.HeadingAt.{HeadingAt}
use Rattle.org_client.proofs.KeyLemmas.{both_true, left_true, right_true}
use Rattle.org_inherit.specs.Scope.{Scope}

abbrev at_place : ℕ → ℕ → HeadingAt
at_place file section = record { file = file; heading = section }

none_left : (b : Bool) → (b && false) ≡ false
none_left true = refl
none_left false = refl

-- at first none is asked about
pub asked_none : (files : ℕ) (lists : List (List ℕ)) → lists ≡ replicate files [] → AreAsked files [] lists
asked_none files lists e = (
  ap (length {A = List ℕ}) e ∙ length-replicate files [],
  λ file section h.
      ap (λ (ls : List (List ℕ)). is_in (get_or ls file []) section) e
      ∙ ap (λ (xs : List ℕ). is_in xs section) (get_or-replicate files file [] [] h)
      ∙ sym (none_left (has_key (at_place file section))),
)

any_behind : (xs : List ℕ) (x section : ℕ) → is_in (xs ++ x ∷ []) section ≡ (is_in xs section || (x == section))
any_behind [] x section = last (x == section)
  where
    last : (b : Bool) → (b || false) ≡ (false || b)
    last true = refl
    last false = refl
any_behind (y ∷ xs) x section = grouped (y == section) (is_in (xs ++ x ∷ []) section) (is_in xs section) (x == section) (any_behind xs x section)
  where
    grouped : (a whole rest b : Bool) → whole ≡ (rest || b) → (a || whole) ≡ ((a || rest) || b)
    grouped true whole rest b e = refl
    grouped false whole rest b e = e

-- a heading that isn't put is none of these
apart : (key asked same : Bool) → (same ≡ true → key ≡ false) → (key && asked) ≡ (key && (asked || same))
apart true true same e = refl
apart true false true e = absurd (true≢false (e refl))
apart true false false e = refl
apart false asked same e = refl

-- and one that is put is
within : (key asked same here : Bool) → same ≡ here → (here ≡ true → key ≡ true) → ((key && asked) || here) ≡ (key && (asked || same))
within true true same here e is = refl
within true false same here e is = sym e
within false asked same true e is = sym (is refl)
within false asked same false e is = refl

same_is : (at : HeadingAt) (file section : ℕ) → is_same at (at_place file section) ≡ true → at ≡ at_place file section
same_is at file section e =
    let files : at.file ≡ file = eqb-true at.file file (left_true (at.file == file) (at.heading == section) e) in
    let sections : at.heading ≡ section = eqb-true at.heading section (right_true (at.file == file) (at.heading == section) e) in
    λ i. record { file = files i; heading = sections i }

other_file : (at : HeadingAt) (file section : ℕ) → (at.file == file) ≡ false → is_same at (at_place file section) ≡ false
other_file at file section e = ap (λ (b : Bool). b && (at.heading == section)) e

abbrev Asks : ℕ → List (List ℕ) → (HeadingAt → Bool) → Type 0
Asks files lists asked = (length lists ≡ files) × ((file section : ℕ) → file < files →
    is_in (get_or lists file []) section ≡ (has_key (at_place file section) && asked (at_place file section)))

module _ (files : ℕ) (lists : List (List ℕ)) (asked : HeadingAt → Bool) (at : HeadingAt) (before : Asks files lists asked) where
  put_here : at.file < length lists → has_key at ≡ true → (file section : ℕ) → file < files → (at.file == file) ≡ true →
      is_in (get_or (with_section lists at.file at.heading) file []) section ≡ (has_key (at_place file section) && (asked (at_place file section) || is_same at (at_place file section)))
  put_here low keyed file section h here =
      let same : at.file ≡ file = eqb-true at.file file here in
      let key : (at.heading == section) ≡ true → has_key (at_place file section) ≡ true = λ e.
      subst (λ (x : HeadingAt). has_key x ≡ true) (same_is at file section (both_true (at.file == file) (at.heading == section) here e)) keyed in
      ap (λ (n : ℕ). is_in (get_or (with_section lists at.file at.heading) n []) section) (sym same)
      ∙ ap (λ (xs : List ℕ). is_in xs section) (get_or-set_same lists at.file (get_or lists at.file [] ++ at.heading ∷ []) [] low)
      ∙ any_behind (get_or lists at.file []) at.heading section
      ∙ ap (λ (n : ℕ). is_in (get_or lists n []) section || (at.heading == section)) same
      ∙ ap (λ (b : Bool). b || (at.heading == section)) (before.1 file section h)
      ∙ within (has_key (at_place file section)) (asked (at_place file section)) (is_same at (at_place file section)) (at.heading == section)
      (ap (λ (b : Bool). b && (at.heading == section)) here) key

  put_there : (file section : ℕ) → file < files → (at.file == file) ≡ false →
      is_in (get_or (with_section lists at.file at.heading) file []) section ≡ (has_key (at_place file section) && (asked (at_place file section) || is_same at (at_place file section)))
  put_there file section h other =
      ap (λ (xs : List ℕ). is_in xs section) (get_or-set_other lists at.file file (get_or lists at.file [] ++ at.heading ∷ []) [] (λ e. eqb-false at.file file other (sym e)))
      ∙ before.1 file section h
      ∙ apart (has_key (at_place file section)) (asked (at_place file section)) (is_same at (at_place file section))
      (λ e. absurd (true≢false (sym e ∙ other_file at file section other)))

  put_one : at.file < length lists → has_key at ≡ true → Asks files (with_section lists at.file at.heading) (λ (x : HeadingAt). asked x || is_same at x)
  put_one low keyed = (
    length-set lists at.file (get_or lists at.file [] ++ at.heading ∷ []) ∙ before.0,
    λ file section h. elim (cases_Bool (at.file == file)) [
      | inl here ↦ put_here low keyed file section h here
      | inr other ↦ put_there file section h other
    ],
  )

  left_one : (nat_lt at.file (length lists) && has_key at) ≡ false → Asks files lists (λ (x : HeadingAt). asked x || is_same at x)
  left_one left = (
    before.0,
    λ file section h.
        before.1 file section h
        ∙ apart (has_key (at_place file section)) (asked (at_place file section)) (is_same at (at_place file section))
        (λ e.
        let is : at ≡ at_place file section = same_is at file section e in
        let files_is : at.file ≡ file = ap (λ (x : HeadingAt). x.file) is in
        let low : at.file < length lists = omega (arith, files_is, h, before.0) in
        ap has_key (sym is) ∙ right_false (nat_lt at.file (length lists)) (has_key at) (lt-ltb at.file (length lists) low) left),
  )
    where
      right_false : (p q : Bool) → p ≡ true → (p && q) ≡ false → q ≡ false
      right_false p q held e = ap (λ (b : Bool). b && q) (sym held) ∙ e

  one_step : Asks files (with_heading lists at) (λ (x : HeadingAt). asked x || is_same at x)
  one_step = elim (cases_Bool (nat_lt at.file (length lists) && has_key at)) [
    | inl put ↦
        subst (λ (ls : List (List ℕ)). Asks files ls (λ (x : HeadingAt). asked x || is_same at x))
        (ap (λ (b : Bool). cond b (with_section lists at.file at.heading) lists) (sym put))
        (put_one (ltb-true at.file (length lists) (left_true (nat_lt at.file (length lists)) (has_key at) put)) (right_true (nat_lt at.file (length lists)) (has_key at) put))
    | inr left ↦
        subst (λ (ls : List (List ℕ)). Asks files ls (λ (x : HeadingAt). asked x || is_same at x))
        (ap (λ (b : Bool). cond b (with_section lists at.file at.heading) lists) (sym left))
        (left_one left)
  ]

-- one heading more
pub asked_step : (files : ℕ) (headings : List HeadingAt) (lists : List (List ℕ)) (k : ℕ) (d : HeadingAt) → k < length headings → AreAsked files (take k headings) lists →
    AreAsked files (take (k + 1) headings) (with_heading lists (get_or headings k d))
asked_step files headings lists k d there before =
    let step = one_step files lists (is_asked (take k headings)) (get_or headings k d) before in (
      step.0,
      λ file section h.
          step.1 file section h
          ∙ ap (λ (b : Bool). has_key (at_place file section) && b) (sym (list_any_more (λ (other : HeadingAt). is_same other (at_place file section)) headings k d there)),
    )

-- ---- the sums of all files

-- the files so far got their sums
abbrev pub HaveFirst : List NamedText → List Scope → List HeadingAt → ℕ → IdsView → Type 0
HaveFirst files scopes headings k ids = (at : HeadingAt) → has_key at ≡ true →
    sum_in ids (key_of at) ≡ cond (nat_lt at.file k && is_asked headings at) (sum_there (slice_get files at.file) (slice_get scopes at.file) at.heading) None

pub first_none : (files : List NamedText) (scopes : List Scope) (headings : List HeadingAt) (ids : IdsView) → ids.sums ≡ [] → HaveFirst files scopes headings 0 ids
first_none files scopes headings ids e at own =
    let low : nat_lt at.file 0 ≡ false = le-ltb at.file 0 (omega arith) in
    ap (λ (sums : List (ℕ × ℕ)). sum_in (record { sums = sums; length = ids.length }) (key_of at)) e
    ∙ ap (λ (b : Bool). cond (b && is_asked headings at) (sum_there (slice_get files at.file) (slice_get scopes at.file) at.heading) None) (sym low)

module _ (files : List NamedText) (scopes : List Scope) (headings : List HeadingAt) (k : ℕ) (old new : IdsView) (file : NamedText) (scope : Scope) (sections : List ℕ) where
  same_below : (n : ℕ) → (n == k) ≡ false → nat_lt n k ≡ nat_lt n (k + 1)
  same_below n other = elim (cases_lt n k) [
    | inl low ↦ lt-ltb n k low ∙ sym (lt-ltb n (k + 1) (omega (arith, low)))
    | inr past ↦
        let behind : k + 1 ≤ n = omega (arith, past, eqb-false n k other) in
        le-ltb n k past ∙ sym (le-ltb n (k + 1) behind)
  ]

  of_file : slice_get files k ≡ Some file → slice_get scopes k ≡ Some scope →
      ((section : ℕ) → is_in sections section ≡ (has_key (at_place k section) && is_asked headings (at_place k section))) →
      HaveFirst files scopes headings k old → PutsSums old new file scope.entries k sections → (at : HeadingAt) → has_key at ≡ true → (at.file == k) ≡ true →
      sum_in new (key_of at) ≡ cond (nat_lt at.file (k + 1) && is_asked headings at) (sum_there (slice_get files at.file) (slice_get scopes at.file) at.heading) None
  of_file named scoped asked before put at own here =
      let same : at.file ≡ k = eqb-true at.file k here in
      let is : at_place k at.heading ≡ at = ap (λ (f : ℕ). at_place f at.heading) (sym same) in
      let asked_is : is_in sections at.heading ≡ is_asked headings at =
      asked at.heading ∙ ap (λ (x : HeadingAt). has_key x && is_asked headings x) is ∙ ap (λ (b : Bool). b && is_asked headings at) own in
      let none : nat_lt at.file k ≡ false = le-ltb at.file k (omega (arith, same)) in
      let low : nat_lt at.file (k + 1) ≡ true = lt-ltb at.file (k + 1) (omega (arith, same)) in
      let old_is : sum_in old (key_of at) ≡ None =
      before at own ∙ ap (λ (b : Bool). cond (b && is_asked headings at) (sum_there (slice_get files at.file) (slice_get scopes at.file) at.heading) None) none in
      let file_is : slice_get files at.file ≡ Some file = ap (slice_get files) same ∙ named in
      let scope_is : slice_get scopes at.file ≡ Some scope = ap (slice_get scopes) same ∙ scoped in
      put at own
      ∙ ap (λ (b : Bool). cond (b && is_in sections at.heading) (Some (heading_sum file scope.entries at.heading)) (sum_in old (key_of at))) here
      ∙ (λ i. cond (asked_is i) (Some (heading_sum file scope.entries at.heading)) (old_is i))
      ∙ sym (λ i. cond (low i && is_asked headings at) (sum_there (file_is i) (scope_is i) at.heading) None)

  of_other : HaveFirst files scopes headings k old → PutsSums old new file scope.entries k sections → (at : HeadingAt) → has_key at ≡ true → (at.file == k) ≡ false →
      sum_in new (key_of at) ≡ cond (nat_lt at.file (k + 1) && is_asked headings at) (sum_there (slice_get files at.file) (slice_get scopes at.file) at.heading) None
  of_other before put at own other =
      put at own
      ∙ ap (λ (b : Bool). cond (b && is_in sections at.heading) (Some (heading_sum file scope.entries at.heading)) (sum_in old (key_of at))) other
      ∙ before at own
      ∙ ap (λ (b : Bool). cond (b && is_asked headings at) (sum_there (slice_get files at.file) (slice_get scopes at.file) at.heading) None) (same_below at.file other)

  pub first_more : slice_get files k ≡ Some file → slice_get scopes k ≡ Some scope →
      ((section : ℕ) → is_in sections section ≡ (has_key (at_place k section) && is_asked headings (at_place k section))) →
      HaveFirst files scopes headings k old → PutsSums old new file scope.entries k sections → HaveFirst files scopes headings (k + 1) new
  first_more named scoped asked before put at own = elim (cases_Bool (at.file == k)) [
    | inl here ↦ of_file named scoped asked before put at own here
    | inr other ↦ of_other before put at own other
  ]

-- then all files have
past_none : {X : Type 0} (xs : List X) (i : ℕ) → length xs ≤ i → slice_get xs i ≡ None
past_none [] zero h = refl
past_none [] (suc i) h = refl
past_none (x ∷ xs) zero h = absurd (omega (arith, h))
past_none (x ∷ xs) (suc i) h = past_none xs i (omega (arith, h))

no_scope : (file : Option NamedText) (section : ℕ) → sum_there file None section ≡ None
no_scope None section = refl
no_scope (Some file) section = refl

no_sum : (b : Bool) (o : Option ℕ) → o ≡ None → cond b o None ≡ None
no_sum true o e = e
no_sum false o e = refl

pub all_sums : (files : List NamedText) (scopes : List Scope) (headings : List HeadingAt) (k : ℕ) (ids : IdsView) → k ≡ min (length files) (length scopes) →
    HaveFirst files scopes headings k ids → HaveSums files scopes headings ids
all_sums files scopes headings k ids count first at own = elim (cases_lt at.file k) [
  | inl low ↦
      first at own ∙ ap (λ (b : Bool). cond (b && is_asked headings at) (sum_there (slice_get files at.file) (slice_get scopes at.file) at.heading) None) (lt-ltb at.file k low)
  | inr past ↦
      let none : sum_there (slice_get files at.file) (slice_get scopes at.file) at.heading ≡ None = elim (cases_lt at.file (length files)) [
        | inl low ↦
            let gone : length scopes ≤ at.file = omega (arith, count, past, low) in
            ap (λ (o : Option Scope). sum_there (slice_get files at.file) o at.heading) (past_none scopes at.file gone) ∙ no_scope (slice_get files at.file) at.heading
        | inr gone ↦ ap (λ (o : Option NamedText). sum_there o (slice_get scopes at.file) at.heading) (past_none files at.file gone)
      ] in
      first at own
      ∙ ap (λ (b : Bool). cond (b && is_asked headings at) (sum_there (slice_get files at.file) (slice_get scopes at.file) at.heading) None) (le-ltb at.file k past)
      ∙ sym (no_sum (is_asked headings at) (sum_there (slice_get files at.file) (slice_get scopes at.file) at.heading) none)
]

-- ---- how many headings there are

counted_more : (scopes : List Scope) (k : ℕ) (scope : Scope) → k < length scopes → slice_get scopes k ≡ Some scope →
    heading_count (take (k + 1) scopes) ≡ heading_count (take k scopes) + length (id_headings scope.entries)
counted_more scopes k scope low there =
    let count : Scope → ℕ = λ (s : Scope). length (id_headings s.entries) in
    let one : sum_by count (scope ∷ []) ≡ length (id_headings scope.entries) = zero-add (length (id_headings scope.entries)) in
    ap heading_count (take_more scopes k scope low ∙ ap (λ (s : Scope). take k scopes ++ s ∷ []) (get_or_from_slice_get scopes k scope scope there))
    ∙ sum_by-append count (take k scopes) (scope ∷ [])
    ∙ ap (λ (n : ℕ). heading_count (take k scopes) + n) one

pub count_more : (scopes : List Scope) (k : ℕ) (scope : Scope) (old own new : ℕ) → k < length scopes → slice_get scopes k ≡ Some scope →
    old ≡ min (heading_count (take k scopes)) (2 ^ 64 - 1) → own ≡ length (id_headings scope.entries) → new ≡ min (old + own) (2 ^ 64 - 1) →
    new ≡ min (heading_count (take (k + 1) scopes)) (2 ^ 64 - 1)
count_more scopes k scope old own new low there before is e = omega (arith, counted_more scopes k scope low there, before, is, e)
