-- No more stamps give a row than are near.
use Rattle.std.proofs.Common.{◌≡◌, ◌∙◌, ℕ, zero, suc, ◌+◌, ◌-◌, ◌<◌, ◌≤◌, Bool, true, false, ◌||◌, List, [], ◌∷◌, ◌++◌, length, inl, inr, sym, ap, refl, true≢false, arith}
use Rattle.std.specs.Prelude.{Option, None, Some, filter, if◌then◌else◌, slice_index_or}
use Rattle.std.specs.List.{All, list_any, range_with_len}
use Rattle.std.proofs.lemmas.Bool.{cases_Bool}
use Rattle.std.proofs.lemmas.List.{length-append}
use Rattle.org_base.specs.declared.profile.Profile.{Profile}
use Rattle.org_entry.specs.declared.entry.Entry.{Entry}
use Rattle.org_head.specs.declared.head.Head.{Head}
use Rattle.org_inherit.specs.Hidden.{is_hidden}
use Rattle.org_inherit.specs.Scope.{Scope}
use Rattle.org_agenda.specs.Bound.{RowsAreOfNear, gives_row, is_some_row, kept_at, kept_from, kept_of}
use Rattle.org_agenda.specs.Days.{source_rows}
use Rattle.org_agenda.specs.Near.{IsSound, is_near}
use Rattle.org_agenda.specs.Sources.{entry_sources, owner_of, sources_of}
use Rattle.org_agenda.proofs.SourcesWords.{head_sources, sources_at, sources_from}
use Rattle.org_agenda.specs.declared.source.HeadingStamp.{HeadingStamp}
use Rattle.org_agenda.proofs.ListLemmas.{filter_append}
use Rattle.org_agenda.proofs.NearRowLemmas.{rows_are_near}

-- what passes one test passes the other
fewer : (p q : HeadingStamp → Bool) (xs : List HeadingStamp) → All (λ s. p s ≡ true → q s ≡ true) xs → length (filter p xs) ≤ length (filter q xs)
fewer p q [] all = omega arith
fewer p q (x ∷ xs) all =
    let more : length (filter p xs) ≤ length (filter q xs) = fewer p q xs (λ k d lt. all (suc k) d (omega (arith, lt))) in
    elim (cases_Bool (p x)) [
      | inl passes ↦ let also : q x ≡ true = all 0 x (omega arith) passes in rw (passes, also) (omega (arith, more))
      | inr fails ↦ elim (cases_Bool (q x)) [
        | inl also ↦ rw (fails, also) (omega (arith, more))
        | inr neither ↦ rw (fails, neither) more
      ]
    ]

none_any : (f : ℕ → Bool) (first n : ℕ) → ((day : ℕ) → first ≤ day → day < first + n → f day ≡ false) → list_any f (range_with_len first n) ≡ false
none_any f first zero none = refl
none_any f first (suc n) none =
    ap (λ b. b || list_any f (range_with_len (first + 1) n)) (none first (omega arith) (omega arith))
    ∙ none_any f (first + 1) n (λ day low high. none day (omega (arith, low)) (omega (arith, high)))

gives_near : (p : Profile) (first count today : ℕ) (s : HeadingStamp) → IsSound s → gives_row p first count today s ≡ true → is_near p first (first + count - 1) today s ≡ true
gives_near p first count today s sound gives = elim (cases_Bool (is_near p first (first + count - 1) today s)) [
  | inl near ↦ near
  | inr far ↦
      let none : gives_row p first count today s ≡ false =
      none_any (λ day. is_some_row (source_rows p today day s)) first count (λ day low high. ap is_some_row (rows_are_near p s first (first + count - 1) today day sound low (omega (arith, low, high)) far)) in
      absurd (true≢false (sym gives ∙ none))
]

module _ (q : HeadingStamp → Bool) where
  joined_count : (xs ys : List HeadingStamp) → length (filter q (xs ++ ys)) ≡ length (filter q xs) + length (filter q ys)
  joined_count xs ys = ap length (filter_append q xs ys) ∙ length-append (filter q xs) (filter q ys)

  at_most : (scope : Scope) (file i : ℕ) (e : Entry) (head : Option Head) → length (filter q (head_sources scope file i e head)) ≤ length (filter q (kept_at scope file i e head))
  at_most scope file i e None = omega arith
  at_most scope file i e (Some head) =
      elim (is_hidden scope.entries i) as (λ b. length (filter q (if b then [] else entry_sources (owner_of scope file i e head) e)) ≤ length (filter q (entry_sources (owner_of scope file i e head) e)))
      [ true ↦ omega arith | false ↦ omega arith ]

  from_most : (scope : Scope) (file i : ℕ) (es : List Entry) → length (filter q (sources_from scope file i es)) ≤ length (filter q (kept_from scope file i es))
  from_most scope file i [] = omega arith
  from_most scope file i (e ∷ es) =
      omega (arith, joined_count (sources_at scope file i e) (sources_from scope file (i + 1) es), joined_count (kept_at scope file i e e.head) (kept_from scope file (i + 1) es), at_most scope file i e e.head, from_most scope file (i + 1) es)

  of_most : (file : ℕ) (scopes : List Scope) → length (filter q (sources_of file scopes)) ≤ length (filter q (kept_of file scopes))
  of_most file [] = omega arith
  of_most file (scope ∷ scopes) =
      omega (arith, joined_count (sources_from scope file 0 scope.entries) (sources_of (file + 1) scopes), joined_count (kept_from scope file 0 scope.entries) (kept_of (file + 1) scopes), from_most scope file 0 scope.entries, of_most (file + 1) scopes)

pub rows_are_of_near : RowsAreOfNear
rows_are_of_near p first count today scopes sound =
    let all = sources_of 0 scopes in
    let near : HeadingStamp → Bool = is_near p first (first + count - 1) today in
    let one : length (filter (gives_row p first count today) all) ≤ length (filter near all) = fewer (gives_row p first count today) near all (λ k d lt. gives_near p first count today (slice_index_or all k d) (sound k d lt)) in
    let two : length (filter near all) ≤ length (filter near (kept_of 0 scopes)) = of_most near 0 scopes in
    omega (arith, one, two)
