-- Stamps and rows come by file, heading and place.
use Rattle.std.proofs.Common.{◌≡◌, ◌∙◌, ◌≤◌, ◌+◌, ◌&&◌, ℕ, true, false, List, [], ◌∷◌, ◌++◌, map, refl, sym, subst, arith, inl, inr}
use Rattle.std.specs.Prelude.{Option, None, Some, if◌then◌else◌, not}
use Rattle.std.specs.List.{AllByRecursion}
use Rattle.org_entry.specs.Active.{stamps_under}
use Rattle.org_entry.specs.Entry.{entry_of}
use Rattle.org_entry.specs.Laws.{Rise}
use Rattle.org_entry.specs.declared.active.EntryStamp.{EntryStamp}
use Rattle.org_entry.specs.declared.entry.Entry.{Entry}
use Rattle.org_entry.proofs.RiseLemmas.{stamps_rise}
use Rattle.org_head.specs.declared.head.Head.{Head}
use Rattle.org_inherit.specs.Hidden.{is_hidden}
use Rattle.org_inherit.specs.Scope.{Scope}
use Rattle.org_settings.specs.Settings.{FileSettings}
use Rattle.org_agenda.specs.Came.{Ascend, AreReadOf, IsEarlier, IsNoLater, ListsAscend, SourcesAscend}
use Rattle.org_agenda.specs.Lists.{Listing, Ranked, file_rows, is_listed}
use Rattle.org_agenda.proofs.ListsWords.{head_rows, ranked_row, rows_from}
use Rattle.org_agenda.specs.Sources.{entry_sources, owner_of, sources_of, under}
use Rattle.org_agenda.proofs.SourcesWords.{head_sources, sources_at, sources_from}
use Rattle.org_agenda.specs.declared.source.HeadingRef.{HeadingRef}
use Rattle.org_agenda.specs.declared.source.HeadingStamp.{HeadingStamp}

-- lists in a row

module _ {X : Type 0} where
  weaker : (P Q : X → Type 0) → ((x : X) → P x → Q x) → (xs : List X) → AllByRecursion P xs → AllByRecursion Q xs
  weaker P Q f [] all = tt
  weaker P Q f (x ∷ xs) all = (f x all.0, weaker P Q f xs all.1)

  all_joined : (P : X → Type 0) (xs ys : List X) → AllByRecursion P xs → AllByRecursion P ys → AllByRecursion P (xs ++ ys)
  all_joined P [] ys a b = b
  all_joined P (x ∷ xs) ys a b = (a.0, all_joined P xs ys a.1 b)

  -- where all of the first stand so to all of the second
  joined : (R : X → X → Type 0) (P Q : X → Type 0) → ((x y : X) → P x → Q y → R x y) → (xs ys : List X) →
      Ascend R xs → AllByRecursion P xs → Ascend R ys → AllByRecursion Q ys → Ascend R (xs ++ ys)
  joined R P Q f [] ys up p more q = more
  joined R P Q f (x ∷ xs) ys up p more q =
      (all_joined (R x) xs ys up.0 (weaker Q (R x) (λ y is. f x y p.0 is) ys q), joined R P Q f xs ys up.1 p.1 more q)

-- the stamps of a heading

abbrev IsOf : ℕ → ℕ → HeadingStamp → Type 0
IsOf file i s = (s.owner.file ≡ file) × (s.owner.heading ≡ i)

abbrev IsFrom : ℕ → ℕ → HeadingStamp → Type 0
IsFrom file i s = (s.owner.file ≡ file) × (i ≤ s.owner.heading)

abbrev IsInFile : ℕ → HeadingStamp → Type 0
IsInFile file s = s.owner.file ≡ file

abbrev IsFromFile : ℕ → HeadingStamp → Type 0
IsFromFile file s = file ≤ s.owner.file

behind : (owner : HeadingRef) (s : EntryStamp) (low : ℕ) (ss : List EntryStamp) → s.at ≤ low → Rise low ss → AllByRecursion (IsNoLater (under owner s)) (map (under owner) ss)
behind owner s low [] le h = tt
behind owner s low (t ∷ ss) le h = (inr (refl, inr (refl, omega (arith, le, h.0))), behind owner s t.at ss (omega (arith, le, h.0)) h.1)

own_ascend : (owner : HeadingRef) (low : ℕ) (ss : List EntryStamp) → Rise low ss → Ascend IsNoLater (map (under owner) ss)
own_ascend owner low [] h = tt
own_ascend owner low (s ∷ ss) h = (behind owner s s.at ss (omega arith) h.1, own_ascend owner s.at ss h.1)

own_of : (owner : HeadingRef) (ss : List EntryStamp) → AllByRecursion (IsOf owner.file owner.heading) (map (under owner) ss)
own_of owner [] = tt
own_of owner (s ∷ ss) = ((refl, refl), own_of owner ss)

-- of one section, and of a heading of it
module _ (scope : Scope) (file : ℕ) (settings : FileSettings) where
  head_ascend : (i : ℕ) (section : List ℕ) (o : Option Head) → Ascend IsNoLater (head_sources scope file i (entry_of settings section) o)
  head_ascend i section None = tt
  head_ascend i section (Some head) =
      let owner : HeadingRef = owner_of scope file i (entry_of settings section) head in
      elim (is_hidden scope.entries i) as (λ b. Ascend IsNoLater (if b then [] else entry_sources owner (entry_of settings section)))
      [ true ↦ tt | false ↦ own_ascend owner 0 (stamps_under owner.is_open (entry_of settings section)) (stamps_rise settings section owner.is_open) ]

  head_of : (i : ℕ) (e : Entry) (o : Option Head) → AllByRecursion (IsOf file i) (head_sources scope file i e o)
  head_of i e None = tt
  head_of i e (Some head) =
      let owner : HeadingRef = owner_of scope file i e head in
      elim (is_hidden scope.entries i) as (λ b. AllByRecursion (IsOf file i) (if b then [] else entry_sources owner e))
      [ true ↦ tt | false ↦ own_of owner (stamps_under owner.is_open e) ]

  from_from : (i : ℕ) (es : List Entry) → AllByRecursion (IsFrom file i) (sources_from scope file i es)
  from_from i [] = tt
  from_from i (e ∷ es) =
      all_joined (IsFrom file i) (sources_at scope file i e) (sources_from scope file (i + 1) es)
      (weaker (IsOf file i) (IsFrom file i) (λ s is. (is.0, omega (arith, is.1))) (sources_at scope file i e) (head_of i e e.head))
      (weaker (IsFrom file (i + 1)) (IsFrom file i) (λ s is. (is.0, omega (arith, is.1))) (sources_from scope file (i + 1) es) (from_from (i + 1) es))

  from_ascend : (i : ℕ) (sections : List (List ℕ)) → Ascend IsNoLater (sources_from scope file i (map (entry_of settings) sections))
  from_ascend i [] = tt
  from_ascend i (s ∷ ss) =
      let e : Entry = entry_of settings s in
      let es : List Entry = map (entry_of settings) ss in
      joined IsNoLater (IsOf file i) (IsFrom file (i + 1)) (λ x y a b. inr (a.0 ∙ sym b.0, inl (omega (arith, a.1, b.1))))
      (sources_at scope file i e) (sources_from scope file (i + 1) es) (head_ascend i s e.head) (head_of i e e.head) (from_ascend (i + 1) ss) (from_from (i + 1) es)

file_ascend : (scope : Scope) (file : ℕ) (settings : FileSettings) (sections : List (List ℕ)) → scope.entries ≡ map (entry_of settings) sections → Ascend IsNoLater (sources_from scope file 0 scope.entries)
file_ascend scope file settings sections read = subst (λ (es : List Entry). Ascend IsNoLater (sources_from scope file 0 es)) (sym read) (from_ascend scope file settings 0 sections)

in_file : (scope : Scope) (file : ℕ) (settings : FileSettings) → AllByRecursion (IsInFile file) (sources_from scope file 0 scope.entries)
in_file scope file settings = weaker (IsFrom file 0) (IsInFile file) (λ s is. is.0) (sources_from scope file 0 scope.entries) (from_from scope file settings 0 scope.entries)

files_from : (k : ℕ) (ss : List Scope) → AreReadOf ss → AllByRecursion (IsFromFile k) (sources_of k ss)
files_from k [] read = tt
files_from k (s ∷ ss) read =
    all_joined (IsFromFile k) (sources_from s k 0 s.entries) (sources_of (k + 1) ss)
    (weaker (IsInFile k) (IsFromFile k) (λ t is. omega (arith, is)) (sources_from s k 0 s.entries) (in_file s k read.0.0))
    (weaker (IsFromFile (k + 1)) (IsFromFile k) (λ t is. omega (arith, is)) (sources_of (k + 1) ss) (files_from (k + 1) ss read.1))

files_ascend : (k : ℕ) (ss : List Scope) → AreReadOf ss → Ascend IsNoLater (sources_of k ss)
files_ascend k [] read = tt
files_ascend k (s ∷ ss) read =
    joined IsNoLater (IsInFile k) (IsFromFile (k + 1)) (λ x y a b. inl (omega (arith, a, b)))
    (sources_from s k 0 s.entries) (sources_of (k + 1) ss) (file_ascend s k read.0.0 read.0.1 read.0.2) (in_file s k read.0.0) (files_ascend (k + 1) ss read.1) (files_from (k + 1) ss read.1)

pub sources_ascend : SourcesAscend
sources_ascend scopes read = files_ascend 0 scopes read

-- the rows of lists

abbrev IsRowOf : ℕ → ℕ → Ranked → Type 0
IsRowOf file i r = (r.row.file ≡ file) × (r.row.heading ≡ i)

abbrev IsRowFrom : ℕ → ℕ → Ranked → Type 0
IsRowFrom file i r = (r.row.file ≡ file) × (i ≤ r.row.heading)

abbrev IsRowIn : ℕ → Ranked → Type 0
IsRowIn file r = r.row.file ≡ file

abbrev IsRowFromFile : ℕ → Ranked → Type 0
IsRowFromFile file r = file ≤ r.row.file

module _ (listing : Listing) where
  module _ (scope : Scope) (file : ℕ) where
    one_ascend : (i : ℕ) (e : Entry) (o : Option Head) → Ascend IsEarlier (head_rows listing scope file i e o)
    one_ascend i e None = tt
    one_ascend i e (Some head) =
        elim (not (is_hidden scope.entries i) && is_listed listing scope i e head) as (λ b. Ascend IsEarlier (if b then ranked_row scope file i e head ∷ [] else []))
        [ true ↦ (tt, tt) | false ↦ tt ]

    one_of : (i : ℕ) (e : Entry) (o : Option Head) → AllByRecursion (IsRowOf file i) (head_rows listing scope file i e o)
    one_of i e None = tt
    one_of i e (Some head) =
        elim (not (is_hidden scope.entries i) && is_listed listing scope i e head) as (λ b. AllByRecursion (IsRowOf file i) (if b then ranked_row scope file i e head ∷ [] else []))
        [ true ↦ ((refl, refl), tt) | false ↦ tt ]

    rows_in : (i : ℕ) (es : List Entry) → AllByRecursion (IsRowFrom file i) (rows_from listing scope file i es)
    rows_in i [] = tt
    rows_in i (e ∷ es) =
        all_joined (IsRowFrom file i) (head_rows listing scope file i e e.head) (rows_from listing scope file (i + 1) es)
        (weaker (IsRowOf file i) (IsRowFrom file i) (λ r is. (is.0, omega (arith, is.1))) (head_rows listing scope file i e e.head) (one_of i e e.head))
        (weaker (IsRowFrom file (i + 1)) (IsRowFrom file i) (λ r is. (is.0, omega (arith, is.1))) (rows_from listing scope file (i + 1) es) (rows_in (i + 1) es))

    rows_ascend : (i : ℕ) (es : List Entry) → Ascend IsEarlier (rows_from listing scope file i es)
    rows_ascend i [] = tt
    rows_ascend i (e ∷ es) =
        joined IsEarlier (IsRowOf file i) (IsRowFrom file (i + 1)) (λ x y a b. inr (a.0 ∙ sym b.0, omega (arith, a.1, b.1)))
        (head_rows listing scope file i e e.head) (rows_from listing scope file (i + 1) es) (one_ascend i e e.head) (one_of i e e.head) (rows_ascend (i + 1) es) (rows_in (i + 1) es)

    rows_of_file : AllByRecursion (IsRowIn file) (rows_from listing scope file 0 scope.entries)
    rows_of_file = weaker (IsRowFrom file 0) (IsRowIn file) (λ r is. is.0) (rows_from listing scope file 0 scope.entries) (rows_in 0 scope.entries)

  all_from : (k : ℕ) (ss : List Scope) → AllByRecursion (IsRowFromFile k) (file_rows listing k ss)
  all_from k [] = tt
  all_from k (s ∷ ss) =
      all_joined (IsRowFromFile k) (rows_from listing s k 0 s.entries) (file_rows listing (k + 1) ss)
      (weaker (IsRowIn k) (IsRowFromFile k) (λ r is. omega (arith, is)) (rows_from listing s k 0 s.entries) (rows_of_file s k))
      (weaker (IsRowFromFile (k + 1)) (IsRowFromFile k) (λ r is. omega (arith, is)) (file_rows listing (k + 1) ss) (all_from (k + 1) ss))

  all_ascend : (k : ℕ) (ss : List Scope) → Ascend IsEarlier (file_rows listing k ss)
  all_ascend k [] = tt
  all_ascend k (s ∷ ss) =
      joined IsEarlier (IsRowIn k) (IsRowFromFile (k + 1)) (λ x y a b. inl (omega (arith, a, b)))
      (rows_from listing s k 0 s.entries) (file_rows listing (k + 1) ss) (rows_ascend s k 0 s.entries) (rows_of_file s k) (all_ascend (k + 1) ss) (all_from (k + 1) ss)

pub lists_ascend : ListsAscend
lists_ascend listing scopes = all_ascend listing 0 scopes
