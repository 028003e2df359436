-- What a short id stands for was meant.
use Rattle.std.proofs.Common.{◌≡◌, ◌∙◌, ℕ, zero, suc, ◌-◌, Bool, true, false, cond, List, [], ◌∷◌, length, map, get_or, refl, sym, ap, arith}
use Rattle.std.specs.Prelude.{nat_le, slice_get, Option, None}
use Rattle.std.proofs.lemmas.Bool.{true≢false}
use Rattle.std.proofs.lemmas.List.{get_or_past}
use Rattle.org_client.specs.Files.{own_section}
use Rattle.org_client.specs.HeadingNames.{FileNames, id_headings, last_part, name_at, names_in}
use Rattle.org_client.specs.IdLaws.{IdsStandForWhatWasListed, SumsAreOfPlaced, heading_place, placed_at}
use Rattle.org_client.specs.RowIds.{is_asked, stands_for_some, sum_there}
use Rattle.org_client.specs.RowIds.{heading_sum as sum_of_heading}
use Rattle.org_ids.specs.Laws.{heading_sum, nobody}
use Rattle.org_ids.specs.Letters.{id_of, stands_for, sum_of}
use Rattle.org_ids.specs.Names.{NamedBy, kept_name, named_in, summed_name}
use Rattle.org_ids.proofs.LawLemmas.{summed_are_meant}

-- the name at a place is that of what is there
kept_at : (ns : List NamedBy) (place : ℕ) → get_or (map kept_name ns) place [] ≡ kept_name (get_or ns place nobody)
kept_at [] zero = refl
kept_at [] (suc place) = refl
kept_at (n ∷ ns) zero = refl
kept_at (n ∷ ns) (suc place) = kept_at ns place

name_is : (names : FileNames) (section : ℕ) → name_at names section ≡ get_or names.names (heading_place names section) []
name_is names section = by_test (nat_le names.front section)
  where
    by_test : (b : Bool) → cond b (get_or names.names (section - names.front) []) [] ≡ get_or names.names (cond b (section - names.front) (length names.names)) []
    by_test true = refl
    by_test false = sym (get_or_past names.names (length names.names) [] (omega arith))

pub sums_are_of_placed : SumsAreOfPlaced
sums_are_of_placed file entries section =
    let names : FileNames = names_in file.path entries in
    let ns : List NamedBy = named_in (last_part file.path) (id_headings entries) in
    ap (λ (name : List ℕ). sum_of (summed_name names.names name (own_section file section))) (name_is names section ∙ kept_at ns (heading_place names section))

stands_asked : (word : List ℕ) (b : Bool) (o : Option ℕ) → stands_for_some word (cond b o None) ≡ true → stands_for_some word o ≡ true
stands_asked word true o e = e
stands_asked word false o e = absurd (true≢false (sym e))

pub ids_stand_for_what_was_listed : IdsStandForWhatWasListed
ids_stand_for_what_was_listed listed files scopes headings ids n at file scope sums keyed there scoped stranger stands =
    let word : List ℕ = id_of n (heading_sum listed) in
    let found : stands_for_some word (sum_there (slice_get files at.file) (slice_get scopes at.file) at.heading) ≡ true =
    stands_asked word (is_asked headings at) (sum_there (slice_get files at.file) (slice_get scopes at.file) at.heading) (ap (stands_for_some word) (sym (sums at keyed)) ∙ stands) in
    let sum : stands_for word (sum_of_heading file scope.entries at.heading) ≡ true =
    sym (λ i. stands_for_some word (sum_there (there i) (scoped i) at.heading)) ∙ found in
    let same : stands_for word (heading_sum (placed_at file scope.entries at.heading)) ≡ true = ap (stands_for word) (sym (sums_are_of_placed file scope.entries at.heading)) ∙ sum in
    summed_are_meant listed (placed_at file scope.entries at.heading) (stranger same)
