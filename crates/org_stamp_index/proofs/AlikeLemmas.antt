-- An entry in the place of one of which the same is kept.
use Rattle.std.proofs.Common.{◌≡◌, ◌∙◌, ℕ, zero, suc, ◌+◌, Bool, List, [], ◌∷◌, ◌++◌, if◌then◌else◌, length, map, take, get_or, ◌<◌, sym, ap, refl, subst}
use Rattle.std.specs.Prelude.{Err, IfOk, Ok, Result, Some, not, slice_get, slice_set}
use Rattle.std.specs.Option.{unwrap_or}
use Rattle.std.specs.Result.{result_ok}
use Rattle.std.specs.List.{sum_by}
use Rattle.std.proofs.lemmas.List.{length-map, map-append, take_more}
use Rattle.org_base.specs.declared.profile.Profile.{Profile}
use Rattle.org_entry.specs.Active.{active_stamps}
use Rattle.org_entry.specs.declared.active.EntryStamp.{EntryStamp}
use Rattle.org_entry.specs.declared.entry.Entry.{Entry}
use Rattle.org_index.specs.Reaches.{reach_of}
use Rattle.org_index.specs.declared.reach.Reach.{Reach}
use Rattle.org_settings.specs.Settings.{FileSettings}
use Rattle.org_stamp_index.specs.Index.{AreHeadingsOf, AreHoused, AreKeptAlike, IsIndexOf, all_ids, ids_of, kept_of}
use Rattle.org_stamp_index.specs.NearQuery.{is_reminding}
use Rattle.org_stamp_index.specs.declared.index.StampIndex.{StampIndex}

-- one stamp more on both sides
pub alike_more : (p : Profile) (xs ys : List EntryStamp) (i : ℕ) (x y : EntryStamp) → i < length xs → i < length ys → x ≡ get_or xs i x → y ≡ get_or ys i y →
    map (kept_of p) (take i xs) ≡ map (kept_of p) (take i ys) → kept_of p x ≡ kept_of p y → map (kept_of p) (take (i + 1) xs) ≡ map (kept_of p) (take (i + 1) ys)
alike_more p xs ys i x y within inside at there before same =
    one_more xs i x within at ∙ (λ k. before k ++ same k ∷ []) ∙ sym (one_more ys i y inside there)
  where
    one_more : (zs : List EntryStamp) (i : ℕ) (z : EntryStamp) → i < length zs → z ≡ get_or zs i z → map (kept_of p) (take (i + 1) zs) ≡ map (kept_of p) (take i zs) ++ kept_of p z ∷ []
    one_more zs i z within at = ap (map (kept_of p)) (take_more zs i z within ∙ ap (λ w. take i zs ++ w ∷ []) (sym at)) ∙ map-append (kept_of p) (take i zs) (z ∷ [])

-- the ids of what is kept of stamps
abbrev ids_by : (Bool → Bool) → ℕ → List (Bool × Reach) → List (ℕ × Reach)
ids_by wanted id [] = []
ids_by wanted id (s ∷ ss) = if wanted s.0 then (id, s.1) ∷ ids_by wanted (id + 1) ss else ids_by wanted (id + 1) ss

ids_kept : (p : Profile) (wanted : Bool → Bool) (id : ℕ) (ss : List EntryStamp) → ids_of p (λ s. wanted (is_reminding s)) id ss ≡ ids_by wanted id (map (kept_of p) ss)
ids_kept p wanted id [] = refl
ids_kept p wanted id (s ∷ ss) =
    ap (λ ids. if wanted (is_reminding s) then (id, reach_of p s.stamp) ∷ ids else ids) (ids_kept p wanted (id + 1) ss)

ids_alike : (p : Profile) (wanted : Bool → Bool) (id : ℕ) (xs ys : List EntryStamp) → map (kept_of p) xs ≡ map (kept_of p) ys →
    ids_of p (λ s. wanted (is_reminding s)) id ys ≡ ids_of p (λ s. wanted (is_reminding s)) id xs
ids_alike p wanted id xs ys alike = ids_kept p wanted id ys ∙ ap (ids_by wanted id) (sym alike) ∙ sym (ids_kept p wanted id xs)

module _ (p : Profile) (settings : FileSettings) where
  all_alike : (wanted : Bool → Bool) (fs : List ℕ) (es : List Entry) (place : ℕ) (was e : Entry) → slice_get es place ≡ Some was → AreKeptAlike p settings was e →
      all_ids p (λ s. wanted (is_reminding s)) settings fs (slice_set es place e) ≡ all_ids p (λ s. wanted (is_reminding s)) settings fs es
  all_alike wanted fs [] place was e there alike = absurd (cc)
  all_alike wanted [] (x ∷ es) zero was e there alike = refl
  all_alike wanted [] (x ∷ es) (suc place) was e there alike = refl
  all_alike wanted (f ∷ fs) (x ∷ es) zero was e there alike =
      let own : was ≡ x = cc in
      ap (λ ids. ids ++ all_ids p (λ s. wanted (is_reminding s)) settings fs es)
      (ids_alike p wanted f (active_stamps settings was) (active_stamps settings e) alike ∙ ap (λ (z : Entry). ids_of p (λ s. wanted (is_reminding s)) f (active_stamps settings z)) own)
  all_alike wanted (f ∷ fs) (x ∷ es) (suc place) was e there alike =
      ap (λ ids. ids_of p (λ s. wanted (is_reminding s)) f (active_stamps settings x) ++ ids) (all_alike wanted fs es place was e there alike)

  -- both have as many stamps
  as_many : (was e : Entry) → AreKeptAlike p settings was e → length (active_stamps settings was) ≡ length (active_stamps settings e)
  as_many was e alike = sym (length-map (active_stamps settings was) (kept_of p)) ∙ ap length alike ∙ length-map (active_stamps settings e) (kept_of p)

  housed_alike : (heading_of : List ℕ) (i : ℕ) (fs : List ℕ) (es : List Entry) (place : ℕ) (was e : Entry) → slice_get es place ≡ Some was → AreKeptAlike p settings was e →
      AreHoused settings heading_of i fs es → AreHoused settings heading_of i fs (slice_set es place e)
  housed_alike heading_of i fs [] place was e there alike h = absurd (cc)
  housed_alike heading_of i [] (x ∷ es) place was e there alike h = absurd h
  housed_alike heading_of i (f ∷ fs) (x ∷ es) zero was e there alike h =
      let own : x ≡ was = cc in
      (subst (λ n. AreHeadingsOf heading_of f n i) (ap (λ (z : Entry). length (active_stamps settings z)) own ∙ as_many was e alike) h.0, h.1)
  housed_alike heading_of i (f ∷ fs) (x ∷ es) (suc place) was e there alike h = (h.0, housed_alike heading_of (i + 1) fs es place was e there alike h.1)

-- an index of entries is one of those with another one at a place, where the same is kept of both
pub set_alike : (settings : FileSettings) (es : List Entry) (place : ℕ) (was e : Entry) (x : StampIndex) → IsIndexOf settings es x → slice_get es place ≡ Some was → AreKeptAlike x.profile settings was e →
    IsIndexOf settings (slice_set es place e) x
set_alike settings es place was e x is there alike = record {
  housed = housed_alike x.profile settings x.heading_of.items 0 x.first_id_of.items es place was e there alike is.housed;
  few = is.few;
  reminding = λ weight. ap (sum_by weight) (all_alike x.profile settings (λ b. b) x.first_id_of.items es place was e there alike) ∙ is.reminding weight;
  plain = λ weight. ap (sum_by weight) (all_alike x.profile settings not x.first_id_of.items es place was e there alike) ∙ is.plain weight;
}

-- what is said of an answer, if there is one, holds of the answer that is there
pub when_ok : {A E : Type 0} (r : Result A E) (P : A → Type 0) (x : A) → IfOk r P → result_ok r ≡ Some x → P x
when_ok (Ok y) P x holds is = let same : y ≡ x = ap (λ o. unwrap_or o y) is in subst P same holds
when_ok (Err e) P x holds is = absurd (cc)
