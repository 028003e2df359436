-- An outline that stands beside sections while they change.
use Rattle.std.proofs.Common.{◌≡◌, ◌∙◌, inl, inr, ℕ, zero, suc, ◌+◌, ◌-◌, ◌<◌, ◌≤◌, cond, List, [], ◌∷◌, ◌++◌, map, length, take, drop, get_or, refl, sym, ap, subst, arith}
use Rattle.std.specs.Prelude.{Option, None, Some, min, slice_set}
use Rattle.std.specs.List.{AllZip, between, count_by, splice}
use Rattle.std.proofs.lemmas.List.{append-nil, drop-drop, length-take-le, take-append-le}
use Rattle.std.proofs.lemmas.List.Sums.{sum_by-take-drop}
use Rattle.org_entry.specs.declared.entry.Entry.{Entry}
use Rattle.org_store.specs.Sections.{IsLeft, SaysSo, SectionView, entries_in, fresh_section, is_pending, said, with_said}
use Rattle.org_store.specs.CachedOutline.{Fits, Follows, IsWithStaleRange, IsCachedPlace, Shows, Stands, StandsAround, widened}
use Rattle.org_store.specs.declared.cached_outline.StaleRange.{StaleRange}
use Rattle.org_store.specs.declared.cached_outline.CachedOutline.{CachedOutline}
use Rattle.org_stamp_index.proofs.ReplaceLemmas.{apart, between_more}
use Rattle.org_store.proofs.KeptLemmas.{zip_drop, zip_take}
use Rattle.org_store.proofs.ShownLemmas.{as_many, left_spliced, put_said, shown_all, shown_left, splice_length, splice_one}

-- parts of a list with others in the place of some of its items
drop_own : {X : Type 0} (xs ys : List X) (n : ℕ) → drop (length xs + n) (xs ++ ys) ≡ drop n ys
drop_own [] ys n = ap (λ m. drop m ys) (let e : 0 + n ≡ n = omega arith in e)
drop_own (x ∷ xs) ys n = ap (λ m. drop m (x ∷ (xs ++ ys))) (let e : suc (length xs) + n ≡ suc (length xs + n) = omega arith in e) ∙ drop_own xs ys n

take_take : {X : Type 0} (n m : ℕ) (xs : List X) → n ≤ m → take n (take m xs) ≡ take n xs
take_take zero m xs le = refl
take_take (suc n) zero xs le = absurd (omega (arith, le))
take_take (suc n) (suc m) [] le = refl
take_take (suc n) (suc m) (x ∷ xs) le = ap (λ ys. x ∷ ys) (take_take n m xs (omega (arith, le)))

take_spliced : {X : Type 0} (xs us : List X) (f e n : ℕ) → n ≤ f → f ≤ length xs → take n (splice xs f e us) ≡ take n xs
take_spliced xs us f e n le within =
    let long = length-take-le f xs within in
    take-append-le n (take f xs) (us ++ drop e xs) (omega (arith, le, long)) ∙ take_take n f xs le

drop_spliced : {X : Type 0} (xs us : List X) (f e valid_back : ℕ) → f ≤ e → e + valid_back ≤ length xs → drop (length (splice xs f e us) - valid_back) (splice xs f e us) ≡ drop (length xs - valid_back) xs
drop_spliced xs us f e valid_back order fits =
    let first : length (take f xs) ≡ f = length-take-le f xs (omega (arith, order, fits)) in
    let long = splice_length xs us f e (omega (arith, order, fits)) in
    let k : ℕ = length xs - valid_back - e in
    let at : length (splice xs f e us) - valid_back ≡ length (take f xs) + (length us + k) = omega (arith, first, long, fits) in
    let behind : e + k ≡ length xs - valid_back = omega (arith, fits) in
    ap (λ n. drop n (splice xs f e us)) at
    ∙ drop_own (take f xs) (us ++ drop e xs) (length us + k)
    ∙ drop_own us (drop e xs) k
    ∙ drop-drop k e xs
    ∙ ap (λ n. drop n xs) behind

-- less is known where the stale range is wider
around_all : (valid_front valid_back : ℕ) (list : List SectionView) (entries : List Entry) → valid_front + valid_back ≤ length list → AllZip SaysSo list entries → StandsAround valid_front valid_back list entries
around_all valid_front valid_back list entries fits h =
    let many = as_many list entries h in
    record {
      sections_fit = fits;
      entries_fit = omega (arith, fits, many);
      first = zip_take SaysSo valid_front list entries h;
      last = subst (λ n. AllZip SaysSo (drop (length list - valid_back) list) (drop (n - valid_back) entries)) (sym many) (zip_drop SaysSo (length list - valid_back) list entries h);
    }

around_less : (valid_front valid_back l t : ℕ) (list : List SectionView) (entries : List Entry) → l ≤ valid_front → t ≤ valid_back → StandsAround valid_front valid_back list entries → StandsAround l t list entries
around_less valid_front valid_back l t list entries less_l less_t h =
    let fit_list = h.sections_fit in
    let fit_entries = h.entries_fit in
    let k : ℕ = valid_back - t in
    let at_list : length list - valid_back + k ≡ length list - t = omega (arith, less_t, fit_list) in
    let at_entries : length entries - valid_back + k ≡ length entries - t = omega (arith, less_t, fit_entries) in
    let firsts = zip_take SaysSo l (take valid_front list) (take valid_front entries) h.first in
    let lasts = zip_drop SaysSo k (drop (length list - valid_back) list) (drop (length entries - valid_back) entries) h.last in
    record {
      sections_fit = omega (arith, less_l, less_t, fit_list);
      entries_fit = omega (arith, less_l, less_t, fit_entries);
      first = subst (λ ks. AllZip SaysSo ks (take l entries)) (take_take l valid_front list less_l) (subst (λ es. AllZip SaysSo (take l (take valid_front list)) es) (take_take l valid_front entries less_l) firsts);
      last = subst (λ ks. AllZip SaysSo ks (drop (length entries - t) entries)) (drop-drop k (length list - valid_back) list ∙ ap (λ n. drop n list) at_list)
          (subst (λ es. AllZip SaysSo (drop k (drop (length list - valid_back) list)) es) (drop-drop k (length entries - valid_back) entries ∙ ap (λ n. drop n entries) at_entries) lasts);
    }

-- what is put into the stale range doesn't matter
around_spliced : (valid_front valid_back : ℕ) (list news : List SectionView) (entries : List Entry) (f e : ℕ) → valid_front ≤ f → f ≤ e → e + valid_back ≤ length list → StandsAround valid_front valid_back list entries → StandsAround valid_front valid_back (splice list f e news) entries
around_spliced valid_front valid_back list news entries f e before order behind h =
    let long = splice_length list news f e (omega (arith, order, behind)) in
    record {
      sections_fit = omega (arith, long, before, behind);
      entries_fit = h.entries_fit;
      first = subst (λ ks. AllZip SaysSo ks (take valid_front entries)) (sym (take_spliced list news f e valid_front before (omega (arith, order, behind)))) h.first;
      last = subst (λ ks. AllZip SaysSo ks (drop (length entries - valid_back) entries)) (sym (drop_spliced list news f e valid_back order behind)) h.last;
    }

min_first : (a b : ℕ) → min a b ≤ a
min_first a b = grind arith

min_second : (a b : ℕ) → min a b ≤ b
min_second a b = grind arith

-- the stale range reaches to where sections were replaced
pub stands_opened : (stale : Option StaleRange) (list news : List SectionView) (entries : List Entry) (f e : ℕ) → f ≤ e → e ≤ length list → Stands stale list entries → Stands (Some (widened f (length list - e) stale)) (splice list f e news) entries
stands_opened None list news entries f e order within h =
    let valid_back : ℕ = length list - e in
    around_spliced f valid_back list news entries f e (omega arith) order (omega (arith, within)) (around_all f valid_back list entries (omega (arith, order, within)) h)
stands_opened (Some stale) list news entries f e order within h =
    let valid_back : ℕ = length list - e in
    let valid_front' : ℕ = min stale.valid_front f in
    let valid_back' : ℕ = min stale.valid_back valid_back in
    let below = min_second stale.valid_back valid_back in
    around_spliced valid_front' valid_back' list news entries f e (min_second stale.valid_front f) order (omega (arith, within, below))
    (around_less stale.valid_front stale.valid_back valid_front' valid_back' list entries (min_first stale.valid_front f) (min_first stale.valid_back valid_back) h)

-- sections that are still to be read say nothing
stands_left : (stale : Option StaleRange) (was now : List SectionView) (entries : List Entry) → length now ≡ length was → Stands stale was entries → AllZip IsLeft was now → Stands stale now entries
stands_left None was now entries many h left = shown_left was now entries h left
stands_left (Some stale) was now entries many h left =
    record {
      sections_fit = omega (arith, many, h.sections_fit);
      entries_fit = h.entries_fit;
      first = shown_left (take stale.valid_front was) (take stale.valid_front now) (take stale.valid_front entries) h.first (zip_take IsLeft stale.valid_front was now left);
      last = subst (λ n. AllZip SaysSo (drop (n - stale.valid_back) now) (drop (length entries - stale.valid_back) entries)) (sym many)
          (shown_left (drop (length was - stale.valid_back) was) (drop (length was - stale.valid_back) now) (drop (length entries - stale.valid_back) entries) h.last (zip_drop IsLeft (length was - stale.valid_back) was now left));
    }

-- the same of an outline that may be missing
pub shows_followed : (cached : Option CachedOutline) (was now : List SectionView) (f e : ℕ) → Shows cached was → Follows was f e now → length now ≡ length was → Shows cached now
shows_followed None was now f e h follows many = tt
shows_followed (Some s) was now f e h follows many =
    let spliced = map fresh_section follows.texts in
    stands_left s.stale was now s.outline many h
    (subst (AllZip IsLeft was) (sym follows.is) (left_spliced was f e follows.texts follows.order follows.within (ap length (sym follows.is) ∙ many)))

stands_followed : (stale : Option StaleRange) (was now : List SectionView) (entries : List Entry) (f e valid_back : ℕ) → valid_back ≡ length was - e → Stands stale was entries → Follows was f e now → Stands (Some (widened f valid_back stale)) now entries
stands_followed stale was now entries f e valid_back is h follows =
    subst (λ ks. Stands (Some (widened f valid_back stale)) ks entries) (sym follows.is)
    (subst (λ n. Stands (Some (widened f n stale)) (splice was f e (map fresh_section follows.texts)) entries) (sym is)
    (stands_opened stale was (map fresh_section follows.texts) entries f e follows.order follows.within h))

pub shows_opened : (old new : Option CachedOutline) (was now : List SectionView) (f e valid_back : ℕ) → valid_back ≡ length was - e → IsWithStaleRange f valid_back old new → Shows old was → Follows was f e now → Shows new now
shows_opened None new was now f e valid_back is with_stale_range h follows = subst (λ s. Shows s now) (sym with_stale_range) tt
shows_opened (Some s) new was now f e valid_back is with_stale_range h follows = subst (λ t. Shows t now) (sym with_stale_range) (stands_followed s.stale was now s.outline f e valid_back is h follows)

-- a stale range fits where the outline stands beside sections
pub stands_fit : (stale : Option StaleRange) (list : List SectionView) (entries : List Entry) → Stands stale list entries → Fits stale (length list) (length entries)
stands_fit None list entries h = as_many list entries h
stands_fit (Some stale) list entries h = (h.sections_fit, h.entries_fit)

-- a section is put into the stale range
pub stands_within : (stale : Option StaleRange) (place : ℕ) (k : SectionView) (list : List SectionView) (entries : List Entry) (o : Option ℕ) → ((i : ℕ) → o ≡ Some i → ⊥) → IsCachedPlace stale place (length list) (length entries) o → Stands stale list entries →
    Stands stale (splice list place (place + 1) (k ∷ [])) entries
stands_within None place k list entries o none at h = absurd (none place at)
stands_within (Some stale) place k list entries None none at h = around_spliced stale.valid_front stale.valid_back list (k ∷ []) entries place (place + 1) at.0 (omega arith) (omega (arith, at.1)) h
stands_within (Some stale) place k list entries (Some i) none at h = absurd (none i refl)

-- parts of a list with another item at a place
take_set : {X : Type 0} (n i : ℕ) (x : X) (xs : List X) → take n (slice_set xs i x) ≡ slice_set (take n xs) i x
take_set zero i x xs = refl
take_set (suc n) i x [] = refl
take_set (suc n) zero x (y ∷ ys) = refl
take_set (suc n) (suc i) x (y ∷ ys) = ap (λ zs. y ∷ zs) (take_set n i x ys)

drop_set_before : {X : Type 0} (n i : ℕ) (x : X) (xs : List X) → i < n → drop n (slice_set xs i x) ≡ drop n xs
drop_set_before zero i x xs lt = absurd (omega (arith, lt))
drop_set_before (suc n) i x [] lt = refl
drop_set_before (suc n) zero x (y ∷ ys) lt = refl
drop_set_before (suc n) (suc i) x (y ∷ ys) lt = drop_set_before n i x ys (omega (arith, lt))

drop_set : {X : Type 0} (n i : ℕ) (x : X) (xs : List X) → drop n (slice_set xs (n + i) x) ≡ slice_set (drop n xs) i x
drop_set zero i x xs = ap (λ m. slice_set xs m x) (let e : 0 + i ≡ i = omega arith in e)
drop_set (suc n) i x [] = refl
drop_set (suc n) i x (y ∷ ys) = ap (λ m. drop (suc n) (slice_set (y ∷ ys) m x)) (let e : suc n + i ≡ suc (n + i) = omega arith in e) ∙ drop_set n i x ys

take_set_behind : {X : Type 0} (n i : ℕ) (x : X) (xs : List X) → n ≤ i → take n (slice_set xs i x) ≡ take n xs
take_set_behind zero i x xs le = refl
take_set_behind (suc n) i x [] le = refl
take_set_behind (suc n) zero x (y ∷ ys) le = absurd (omega (arith, le))
take_set_behind (suc n) (suc i) x (y ∷ ys) le = ap (λ zs. y ∷ zs) (take_set_behind n i x ys (omega (arith, le)))

pub length_set : {X : Type 0} (i : ℕ) (x : X) (xs : List X) → length (slice_set xs i x) ≡ length xs
length_set i x [] = refl
length_set zero x (y ∷ ys) = refl
length_set (suc i) x (y ∷ ys) = ap suc (length_set i x ys)

-- the same of entries with what a section says
take_said : (o : Option Entry) (n i : ℕ) (es : List Entry) → take n (with_said o i es) ≡ with_said o i (take n es)
take_said None n i es = refl
take_said (Some e) n i es = take_set n i e es

drop_said_before : (o : Option Entry) (n i : ℕ) (es : List Entry) → i < n → drop n (with_said o i es) ≡ drop n es
drop_said_before None n i es lt = refl
drop_said_before (Some e) n i es lt = drop_set_before n i e es lt

drop_said : (o : Option Entry) (n i : ℕ) (es : List Entry) → drop n (with_said o (n + i) es) ≡ with_said o i (drop n es)
drop_said None n i es = refl
drop_said (Some e) n i es = drop_set n i e es

take_said_behind : (o : Option Entry) (n i : ℕ) (es : List Entry) → n ≤ i → take n (with_said o i es) ≡ take n es
take_said_behind None n i es le = refl
take_said_behind (Some e) n i es le = take_set_behind n i e es le

length_said : (o : Option Entry) (i : ℕ) (es : List Entry) → length (with_said o i es) ≡ length es
length_said None i es = refl
length_said (Some e) i es = length_set i e es

-- a section is put before the stale range
put_before : (valid_front valid_back place : ℕ) (k : SectionView) (list : List SectionView) (entries : List Entry) → place < valid_front → StandsAround valid_front valid_back list entries → StandsAround valid_front valid_back (slice_set list place k) (with_said k.entry place entries)
put_before valid_front valid_back place k list entries before h =
    let fit_list = h.sections_fit in
    let fit_entries = h.entries_fit in
    let many = length_set place k list in
    let count = length_said k.entry place entries in
    record {
      sections_fit = omega (arith, many, fit_list);
      entries_fit = omega (arith, count, fit_entries);
      first = subst (λ ks. AllZip SaysSo ks (take valid_front (with_said k.entry place entries))) (sym (take_set valid_front place k list))
          (subst (λ es. AllZip SaysSo (slice_set (take valid_front list) place k) es) (sym (take_said k.entry valid_front place entries)) (put_said (take valid_front list) (take valid_front entries) place k k.entry refl h.first));
      last = subst (λ ks. AllZip SaysSo ks (drop (length (with_said k.entry place entries) - valid_back) (with_said k.entry place entries)))
          (sym (ap (λ n. drop (n - valid_back) (slice_set list place k)) many ∙ drop_set_before (length list - valid_back) place k list (omega (arith, before, fit_list))))
          (subst (λ es. AllZip SaysSo (drop (length list - valid_back) list) es) (sym (ap (λ n. drop (n - valid_back) (with_said k.entry place entries)) count ∙ drop_said_before k.entry (length entries - valid_back) place entries (omega (arith, before, fit_entries)))) h.last);
    }

-- or after it
put_behind : (valid_front valid_back place at : ℕ) (k : SectionView) (list : List SectionView) (entries : List Entry) → valid_front ≤ place → length list ≤ place + valid_back → at + length list ≡ length entries + place → place < length list → StandsAround valid_front valid_back list entries →
    StandsAround valid_front valid_back (slice_set list place k) (with_said k.entry at entries)
put_behind valid_front valid_back place at k list entries led behind is within h =
    let fit_list = h.sections_fit in
    let fit_entries = h.entries_fit in
    let many = length_set place k list in
    let count = length_said k.entry at entries in
    let ahead : ℕ = place - (length list - valid_back) in
    let there : length list - valid_back + ahead ≡ place = omega (arith, behind, fit_list, within) in
    let there' : length entries - valid_back + ahead ≡ at = omega (arith, behind, fit_list, fit_entries, within, is) in
    let put = put_said (drop (length list - valid_back) list) (drop (length entries - valid_back) entries) ahead k k.entry refl h.last in
    let sections_are : drop (length (slice_set list place k) - valid_back) (slice_set list place k) ≡ slice_set (drop (length list - valid_back) list) ahead k =
    ap (λ n. drop (n - valid_back) (slice_set list place k)) many ∙ ap (λ n. drop (length list - valid_back) (slice_set list n k)) (sym there) ∙ drop_set (length list - valid_back) ahead k list in
    let entries_are : drop (length (with_said k.entry at entries) - valid_back) (with_said k.entry at entries) ≡ with_said k.entry ahead (drop (length entries - valid_back) entries) =
    ap (λ n. drop (n - valid_back) (with_said k.entry at entries)) count ∙ ap (λ n. drop (length entries - valid_back) (with_said k.entry n entries)) (sym there') ∙ drop_said k.entry (length entries - valid_back) ahead entries in
    record {
      sections_fit = omega (arith, many, fit_list);
      entries_fit = omega (arith, count, fit_entries);
      first = subst (λ ks. AllZip SaysSo ks (take valid_front (with_said k.entry at entries))) (sym (take_set_behind valid_front place k list led))
          (subst (λ es. AllZip SaysSo (take valid_front list) es) (sym (take_said_behind k.entry valid_front at entries (omega (arith, led, is, fit_list, fit_entries, behind)))) h.first);
      last = subst (λ ks. AllZip SaysSo ks (drop (length (with_said k.entry at entries) - valid_back) (with_said k.entry at entries))) (sym sections_are) (subst (λ es. AllZip SaysSo (slice_set (drop (length list - valid_back) list) ahead k) es) (sym entries_are) put);
    }

-- a section is put where its entry stands
pub stands_put : (stale : Option StaleRange) (place at : ℕ) (k : SectionView) (list : List SectionView) (entries : List Entry) (o : Option ℕ) → o ≡ Some at → place < length list → IsCachedPlace stale place (length list) (length entries) o → Stands stale list entries →
    Stands stale (splice list place (place + 1) (k ∷ [])) (with_said k.entry at entries)
stands_put None place at k list entries o is lt there h =
    let same : Some at ≡ Some place = sym is ∙ there in
    let own : at ≡ place = cc in
    subst (λ n. AllZip SaysSo (splice list place (place + 1) (k ∷ [])) (with_said k.entry n entries)) (sym own)
    (subst (λ ks. AllZip SaysSo ks (with_said k.entry place entries)) (sym (splice_one list place k lt)) (put_said list entries place k k.entry refl h))
stands_put (Some stale) place at k list entries None is lt there h = absurd cc
stands_put (Some stale) place at k list entries (Some i) is lt there h =
    let own : i ≡ at = cc in
    subst (λ ks. StandsAround stale.valid_front stale.valid_back ks (with_said k.entry at entries)) (sym (splice_one list place k lt))
    (elim there [
      | inl before ↦ subst (λ n. StandsAround stale.valid_front stale.valid_back (slice_set list place k) (with_said k.entry n entries)) (sym before.1 ∙ own) (put_before stale.valid_front stale.valid_back place k list entries before.0 h)
      | inr behind ↦ put_behind stale.valid_front stale.valid_back place at k list entries behind.0 behind.1 (ap (λ n. n + length list) (sym own) ∙ behind.2) lt h
    ])

-- an outline whose stale range is filled has what all sections say
entries_append : (xs ys : List SectionView) → entries_in (xs ++ ys) ≡ entries_in xs ++ entries_in ys
entries_append [] ys = refl
entries_append (x ∷ xs) ys = said_first x.entry (entries_append xs ys)
  where
    said_first : (o : Option Entry) → entries_in (xs ++ ys) ≡ entries_in xs ++ entries_in ys → said o ++ entries_in (xs ++ ys) ≡ (said o ++ entries_in xs) ++ entries_in ys
    said_first None is = is
    said_first (Some e) is = ap (λ es. e ∷ es) is

none_taken : (n : ℕ) (list : List SectionView) → count_by is_pending list ≡ 0 → count_by is_pending (take n list) ≡ 0
none_taken n list none = let parts = sum_by-take-drop (λ (x : SectionView). cond (is_pending x) 1 0) list n in omega (arith, parts, none)

none_dropped : (n : ℕ) (list : List SectionView) → count_by is_pending list ≡ 0 → count_by is_pending (drop n list) ≡ 0
none_dropped n list none = let parts = sum_by-take-drop (λ (x : SectionView). cond (is_pending x) 1 0) list n in omega (arith, parts, none)

-- without a stale range nothing is missing
pub stands_all : (stale : Option StaleRange) (list : List SectionView) (entries : List Entry) → ((g : StaleRange) → stale ≡ Some g → ⊥) → Stands stale list entries → count_by is_pending list ≡ 0 → entries ≡ entries_in list
stands_all None list entries none h read = shown_all list entries h read
stands_all (Some stale) list entries none h read = absurd (none stale refl)

pub stands_whole : (stale : StaleRange) (list : List SectionView) (entries : List Entry) → StandsAround stale.valid_front stale.valid_back list entries → count_by is_pending list ≡ 0 →
    splice entries stale.valid_front (length entries - stale.valid_back) (entries_in (between stale.valid_front (length list - stale.valid_back) list)) ≡ entries_in list
stands_whole stale list entries h none =
    let end : ℕ = length list - stale.valid_back in
    let first = shown_all (take stale.valid_front list) (take stale.valid_front entries) h.first (none_taken stale.valid_front list none) in
    let last = shown_all (drop end list) (drop (length entries - stale.valid_back) entries) h.last (none_dropped end list none) in
    let mid = entries_in (between stale.valid_front end list) in
    (λ i. first i ++ (mid ++ last i))
    ∙ ap (λ es. entries_in (take stale.valid_front list) ++ es) (sym (entries_append (between stale.valid_front end list) (drop end list)))
    ∙ sym (entries_append (take stale.valid_front list) (between stale.valid_front end list ++ drop end list))
    ∙ ap entries_in (apart list stale.valid_front end (let fit = h.sections_fit in omega (arith, fit)))

-- what one section more says
pub entries_more : (list : List SectionView) (s i : ℕ) (k : SectionView) → s ≤ i → i < length list → k ≡ get_or list i k → entries_in (between s (i + 1) list) ≡ entries_in (between s i list) ++ said k.entry
entries_more list s i k le lt at =
    ap entries_in (between_more list s i k le lt at) ∙ entries_append (between s i list) (k ∷ []) ∙ ap (λ es. entries_in (between s i list) ++ es) (append-nil (said k.entry))
