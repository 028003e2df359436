-- Files and what their headings inherit, one by one.
use Rattle.std.proofs.Common.{◌≡◌, ◌∙◌, ℕ, zero, suc, ◌+◌, ◌<◌, ◌≤◌, List, [], ◌∷◌, ◌++◌, length, take, sym, ap, ap₂, refl, arith}
use Rattle.std.specs.Prelude.{Option, Some, None, get_or, slice_get}
use Rattle.std.specs.List.{AllZip, sum_by}
use Rattle.std.proofs.lemmas.List.{length-append, take_all, take_more}
use Rattle.std.proofs.lemmas.List.Sums.{sum_by-cons, sum_by_push}
use Rattle.org_base.specs.Counts.{Counts}
use Rattle.org_entry.specs.declared.entry.Entry.{Entry}
use Rattle.org_index.specs.Ticks.{examined}
use Rattle.org_inherit.specs.Scope.{Scope}
use Rattle.org_settings.specs.Settings.{FileSettings}
use Rattle.org_entry.specs.Active.{active_stamps}
use Rattle.org_agenda.specs.declared.as_of.AsOf.{AsOf}
use Rattle.org_agenda.specs.Bound.{kept_from, kept_of}
use Rattle.org_agenda.specs.Near.{is_near, near_sources}
use Rattle.org_agenda.proofs.ListLemmas.{filter_append}
use Rattle.org_near.proofs.OwnerLemmas.{kept_counted, none_there}
use Rattle.org_stamp_index.specs.NearQuery.{asked_of as stamps_asked}
use Rattle.org_stamp_index.specs.Held.{OutlineView}
use Rattle.org_stamp_index.specs.Near.{CountsNear, HasPlace, HoldNear, near_of_entry}
use Rattle.org_near.specs.Near.{HoldAskedIn, asked_in, asked_of, sources_if}
use Rattle.org_near.specs.Stamps.{IsOf, near_in_all, near_in_file}
use Rattle.org_stamp_index.specs.declared.near_query.NearQuery.{NearQuery}
use Rattle.org_stamp_index.proofs.PlaceLemmas.{examined_sum}

pub zip_long : (ds : List OutlineView) (ss : List Scope) → AllZip IsOf ds ss → length ds ≡ length ss
zip_long [] [] z = refl
zip_long [] (s ∷ ss) z = absurd z
zip_long (d ∷ ds) [] z = absurd z
zip_long (d ∷ ds) (s ∷ ss) z = let more = zip_long ds ss z.1 in omega (arith, more)

pub zip_at : (ds : List OutlineView) (ss : List Scope) (i : ℕ) (d : OutlineView) (s : Scope) → AllZip IsOf ds ss → i < length ds → d ≡ get_or ds i d → slice_get ss i ≡ Some s → IsOf d s
zip_at [] [] i d s z lt at there = absurd (omega (arith, lt))
zip_at [] (t ∷ ss) i d s z lt at there = absurd z
zip_at (e ∷ ds) [] i d s z lt at there = absurd z
zip_at (e ∷ ds) (t ∷ ss) zero d s z lt at there =
    let same : t ≡ s = cc in
    (ap (λ (x : Scope). x.entries) (sym same) ∙ z.0.0 ∙ ap (λ (x : OutlineView). x.entries) (sym at), ap (λ (x : Scope). x.settings) (sym same) ∙ z.0.1 ∙ ap (λ (x : OutlineView). x.settings) (sym at))
zip_at (e ∷ ds) (t ∷ ss) (suc i) d s z lt at there = zip_at ds ss i d s z.1 (omega (arith, lt)) at there

hold_by : (a : NearQuery) (places : List ℕ) (file : ℕ) (d : OutlineView) (scope : Scope) → IsOf d scope → HoldNear a d.settings d.entries places → (i : ℕ) → (HasPlace places i → ⊥) → (o : Option Entry) → slice_get scope.entries i ≡ o → asked_in a scope file i ≡ []
hold_by a places file d scope same hold i out None is = ap (λ (x : Option Entry). asked_of a (sources_if scope file i x)) is
hold_by a places file d scope same hold i out (Some e) is =
    let there : slice_get d.entries i ≡ Some e = ap (λ es. slice_get es i) (sym same.0) ∙ is in
    let none : stamps_asked a (active_stamps scope.settings e) ≡ [] = ap (λ (s : FileSettings). stamps_asked a (active_stamps s e)) same.1 ∙ hold i e there out in
    ap (λ (x : Option Entry). asked_of a (sources_if scope file i x)) is ∙ none_there a scope file i e none

-- what holds of a file holds of what its headings inherit
pub hold_there : (a : NearQuery) (places : List ℕ) (file : ℕ) (d : OutlineView) (scope : Scope) → IsOf d scope → HoldNear a d.settings d.entries places → HoldAskedIn a places file scope
hold_there a places file d scope same hold i out = hold_by a places file d scope same hold i out (slice_get scope.entries i) refl

-- the near stamps of one file more are counted
pub count_more : (seen : AsOf) (from to : ℕ) (files : List OutlineView) (i : ℕ) (d : OutlineView) (old mid new : Counts) → i < length files → d ≡ get_or files i d →
    mid ≡ examined (near_in_all seen from to (take i files)) old → CountsNear (record { profile = seen.profile; today = seen.today; from = from; to = to }) d.settings d.entries mid new → new ≡ examined (near_in_all seen from to (take (i + 1) files)) old
count_more seen from to files i d old mid new lt at so_far more =
    let next : take (i + 1) files ≡ take i files ++ d ∷ [] = take_more files i d lt ∙ ap (λ y. take i files ++ y ∷ []) (sym at) in
    let sum : near_in_all seen from to (take (i + 1) files) ≡ near_in_all seen from to (take i files) + near_in_file seen from to d = ap (near_in_all seen from to) next ∙ sum_by_push (near_in_file seen from to) (take i files) d in
    more ∙ ap (examined (near_in_file seen from to d)) so_far ∙ examined_sum (near_in_all seen from to (take i files)) (near_in_file seen from to d) old ∙ ap (λ n. examined n old) (sym sum)

pub count_whole : (seen : AsOf) (from to : ℕ) (files : List OutlineView) (i : ℕ) (old new : Counts) → length files ≤ i → new ≡ examined (near_in_all seen from to (take i files)) old → new ≡ examined (near_in_all seen from to files) old
count_whole seen from to files i old new le h = h ∙ ap (λ fs. examined (near_in_all seen from to fs) old) (take_all i files le)

-- as many stamps of what files say are near as of what their headings inherit
pub counted : (seen : AsOf) (from to : ℕ) (ds : List OutlineView) (ss : List Scope) (k : ℕ) → AllZip IsOf ds ss → near_in_all seen from to ds ≡ length (near_sources seen.profile from to seen.today (kept_of k ss))
counted seen from to [] [] k z = refl
counted seen from to [] (s ∷ ss) k z = absurd z
counted seen from to (d ∷ ds) [] k z = absurd z
counted seen from to (d ∷ ds) (s ∷ ss) k z =
    let a : NearQuery = record { profile = seen.profile; today = seen.today; from = from; to = to } in
    let own : near_in_file seen from to d ≡ length (near_sources seen.profile from to seen.today (kept_from s k 0 s.entries)) =
    (λ i. sum_by (near_of_entry a (sym z.0.1 i)) (sym z.0.0 i)) ∙ sym (kept_counted a s k 0 s.entries) in
    sum_by-cons (near_in_file seen from to) d ds
    ∙ ap₂ (λ x y. x + y) own (counted seen from to ds ss (k + 1) z.1)
    ∙ sym (length-append (near_sources seen.profile from to seen.today (kept_from s k 0 s.entries)) (near_sources seen.profile from to seen.today (kept_of (k + 1) ss)))
    ∙ sym (ap length (filter_append (is_near seen.profile from to seen.today) (kept_from s k 0 s.entries) (kept_of (k + 1) ss)))
