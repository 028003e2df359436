-- No list and no agenda shows a hidden heading.
use Rattle.std.proofs.Common.{◌≡◌, ◌∙◌, ◌+◌, ℕ, zero, suc, false, List, [], ◌∷◌, refl, sym, ap, arith, inl, inr}
use Rattle.std.specs.Prelude.{map, Option, None, Some, slice_get}
use Rattle.std.specs.List.{All}
use Rattle.std.proofs.lemmas.Bool.{cases_Bool}
use Rattle.std.proofs.lemmas.List.Elements.{All-append, All-cons, All-map, All-nil, All-weaker}
use Rattle.org_entry.specs.Active.{stamps_under}
use Rattle.org_entry.specs.declared.active.EntryStamp.{EntryStamp}
use Rattle.org_entry.specs.declared.entry.Entry.{Entry}
use Rattle.org_head.specs.declared.head.Head.{Head}
use Rattle.org_inherit.specs.Hidden.{is_hidden}
use Rattle.org_inherit.specs.Scope.{Scope}
use Rattle.org_agenda.specs.Kept.{HiddenGiveNoStamps, HiddenStandNowhere, IsInSight}
use Rattle.org_agenda.specs.Lists.{Listing, Ranked, file_rows, is_listed, list_rows}
use Rattle.org_agenda.proofs.ListsWords.{head_rows, ranked_row, rows_from}
use Rattle.org_agenda.specs.Order.{by_key}
use Rattle.org_agenda.specs.Sources.{entry_sources, file_sources, owner_of, sources_of, under}
use Rattle.org_agenda.proofs.SourcesWords.{head_sources, sources_from}
use Rattle.org_agenda.specs.declared.lists.TheConstants.{PRIORITIES}
use Rattle.org_agenda.specs.declared.row.Row.{Row}
use Rattle.org_agenda.specs.declared.source.HeadingRef.{HeadingRef}
use Rattle.org_agenda.specs.declared.source.HeadingStamp.{HeadingStamp}
use Rattle.org_agenda.proofs.DayLemmas.{all_by}

-- a heading of the file at a place, which isn't hidden there
abbrev IsOf : Scope → ℕ → ℕ → ℕ → Type 0
IsOf scope file at heading = (at ≡ file) × (is_hidden scope.entries heading ≡ false)

-- so far the places of files are those of all
abbrev AreFrom : List Scope → ℕ → List Scope → Type 0
AreFrom all file scopes = (k : ℕ) → slice_get all (file + k) ≡ slice_get scopes k

from_next : (all : List Scope) (file : ℕ) (scope : Scope) (scopes : List Scope) → AreFrom all file (scope ∷ scopes) → AreFrom all (file + 1) scopes
from_next all file scope scopes are k = ap (slice_get all) (omega arith) ∙ are (suc k)

in_sight : (all : List Scope) (file at heading : ℕ) (scope : Scope) (scopes : List Scope) → AreFrom all file (scope ∷ scopes) → IsOf scope file at heading → IsInSight all at heading
in_sight all file at heading scope scopes are is found there =
    let here : slice_get all file ≡ Some scope = ap (slice_get all) (omega arith) ∙ are zero in
    let same : Some found ≡ Some scope = sym there ∙ ap (slice_get all) is.0 ∙ here in
    let one : found ≡ scope = cc in
    ap (λ (s : Scope). is_hidden s.entries heading) one ∙ is.1

-- rows of lists
module _ (listing : Listing) (scope : Scope) (file : ℕ) where
  abbrev OfFile : Ranked → Type 0
  OfFile r = IsOf scope file r.row.file r.row.heading

  head_shown : (i : ℕ) (e : Entry) (head : Option Head) → All OfFile (head_rows listing scope file i e head)
  head_shown i e None = All-nil OfFile
  head_shown i e (Some head) = elim (cases_Bool (is_hidden scope.entries i)) [
    | inl yes' ↦ rw yes' (All-nil OfFile)
    | inr no' ↦ elim (cases_Bool (is_listed listing scope i e head)) [
      | inl listed ↦ rw (no', listed) (All-cons OfFile (ranked_row scope file i e head) [] (refl, no') (All-nil OfFile))
      | inr not' ↦ rw (no', not') (All-nil OfFile)
    ]
  ]

  rows_shown : (i : ℕ) (es : List Entry) → All OfFile (rows_from listing scope file i es)
  rows_shown i [] = All-nil OfFile
  rows_shown i (e ∷ es) = All-append OfFile (head_rows listing scope file i e e.head) (rows_from listing scope file (i + 1) es) (head_shown i e e.head) (rows_shown (i + 1) es)

abbrev RowInSight : List Scope → Ranked → Type 0
RowInSight all r = IsInSight all r.row.file r.row.heading

files_shown : (listing : Listing) (all : List Scope) (file : ℕ) (scopes : List Scope) → AreFrom all file scopes → All (RowInSight all) (file_rows listing file scopes)
files_shown listing all file [] are = All-nil (RowInSight all)
files_shown listing all file (scope ∷ scopes) are =
    All-append (RowInSight all) (rows_from listing scope file 0 scope.entries) (file_rows listing (file + 1) scopes)
    (All-weaker (OfFile listing scope file) (RowInSight all) (λ r is. in_sight all file r.row.file r.row.heading scope scopes are is) (rows_from listing scope file 0 scope.entries) (rows_shown listing scope file 0 scope.entries))
    (files_shown listing all (file + 1) scopes (from_next all file scope scopes are))

pub stand_nowhere : HiddenStandNowhere
unfolding list_rows
stand_nowhere listing scopes =
    let came : List Ranked = file_rows listing 0 scopes in
    All-map (λ (row : Row). IsInSight scopes row.file row.heading) (λ (r : Ranked). r.row) (by_key (λ (r : Ranked). r.priority) PRIORITIES came)
    (all_by (RowInSight scopes) (λ (r : Ranked). r.priority) PRIORITIES came (files_shown listing scopes 0 scopes (λ k. ap (slice_get scopes) (omega arith))))

-- stamps of agendas
abbrev IsOwn : HeadingRef → HeadingStamp → Type 0
IsOwn owner s = s.owner ≡ owner

all_own : (owner : HeadingRef) (ss : List EntryStamp) → All (IsOwn owner) (map (under owner) ss)
all_own owner [] = All-nil (IsOwn owner)
all_own owner (s ∷ ss) = All-cons (IsOwn owner) (under owner s) (map (under owner) ss) refl (all_own owner ss)

module _ (scope : Scope) (file : ℕ) where
  abbrev StampOf : HeadingStamp → Type 0
  StampOf s = IsOf scope file s.owner.file s.owner.heading

  own_stamp : (i : ℕ) (e : Entry) (head : Head) (s : HeadingStamp) → is_hidden scope.entries i ≡ false → IsOwn (owner_of scope file i e head) s → StampOf s
  own_stamp i e head s shown is = (ap (λ (o : HeadingRef). o.file) is, ap (λ (o : HeadingRef). is_hidden scope.entries o.heading) is ∙ shown)

  stamps_of_head : (i : ℕ) (e : Entry) (head : Option Head) → All StampOf (head_sources scope file i e head)
  stamps_of_head i e None = All-nil StampOf
  stamps_of_head i e (Some head) = elim (cases_Bool (is_hidden scope.entries i)) [
    | inl yes' ↦ rw yes' (All-nil StampOf)
    | inr no' ↦
        let owner : HeadingRef = owner_of scope file i e head in
        rw no' (All-weaker (IsOwn owner) StampOf (λ s is. own_stamp i e head s no' is) (entry_sources owner e) (all_own owner (stamps_under owner.is_open e)))
  ]

  stamps_from : (i : ℕ) (es : List Entry) → All StampOf (sources_from scope file i es)
  stamps_from i [] = All-nil StampOf
  stamps_from i (e ∷ es) = All-append StampOf (head_sources scope file i e e.head) (sources_from scope file (i + 1) es) (stamps_of_head i e e.head) (stamps_from (i + 1) es)

abbrev StampInSight : List Scope → HeadingStamp → Type 0
StampInSight all s = IsInSight all s.owner.file s.owner.heading

stamps_of_files : (all : List Scope) (file : ℕ) (scopes : List Scope) → AreFrom all file scopes → All (StampInSight all) (sources_of file scopes)
stamps_of_files all file [] are = All-nil (StampInSight all)
stamps_of_files all file (scope ∷ scopes) are =
    All-append (StampInSight all) (file_sources scope file) (sources_of (file + 1) scopes)
    (All-weaker (StampOf scope file) (StampInSight all) (λ s is. in_sight all file s.owner.file s.owner.heading scope scopes are is) (file_sources scope file) (stamps_from scope file 0 scope.entries))
    (stamps_of_files all (file + 1) scopes (from_next all file scope scopes are))

pub give_no_stamps : HiddenGiveNoStamps
give_no_stamps scopes = stamps_of_files scopes 0 scopes (λ k. ap (slice_get scopes) (omega arith))
