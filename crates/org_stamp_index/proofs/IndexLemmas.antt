-- Indexes of entries: made, and with another entry at a place.
use Rattle.std.proofs.Common.{◌≡◌, ◌∙◌, ℕ, ◌+◌, ◌^◌, ◌<◌, ◌≤◌, Bool, List, ◌++◌, length, get_or, sym, ap, subst, arith}
use Rattle.std.specs.Prelude.{Some, replicate, slice_get, slice_set}
use Rattle.std.specs.List.{sum_by}
use Rattle.std.proofs.lemmas.List.Sums.{sum_by-append}
use Rattle.std.proofs.lemmas.Option.{slice_get_within}
use Rattle.org_base.specs.declared.profile.Profile.{Profile}
use Rattle.org_entry.specs.declared.entry.Entry.{Entry}
use Rattle.org_index.specs.declared.reach.Reach.{Reach}
use Rattle.org_settings.specs.Settings.{FileSettings}
use Rattle.org_entry.specs.Active.{active_stamps}
use Rattle.org_stamp_index.specs.NearQuery.{is_reminding}
use Rattle.org_entry.specs.declared.active.EntryStamp.{EntryStamp}
use Rattle.org_stamp_index.specs.Index.{AreBelow, AreFresh, AreHeadingsOf, AreHoused, HasPut, HasTaken, HaveSame, IsCopy, IsIndexOf, LeavesRest, all_ids, ids_of, is_waiting}
use Rattle.org_stamp_index.specs.declared.index.StampIndex.{StampIndex}
use Rattle.org_stamp_index.proofs.SumLemmas.{below_behind, below_same}
use Rattle.org_stamp_index.proofs.HeadingIdLemmas.{all_below, headings_new, housed_at, housed_long, housed_more, housed_set, rest_ids, sum_at, sum_set}

module _ (settings : FileSettings) where
  -- no id was given that isn't an entry's
  pub fresh_of : (es : List Entry) (x : StampIndex) → IsIndexOf settings es x → AreFresh x
  fresh_of es x is = record {
    reminding = below_same (length x.heading_of.items) (all_ids x.profile is_reminding settings x.first_id_of.items es) x.reminding is.reminding (all_below settings x.profile is_reminding x.heading_of.items 0 x.first_id_of.items es is.housed);
    plain = below_same (length x.heading_of.items) (all_ids x.profile is_waiting settings x.first_id_of.items es) x.plain is.plain (all_below settings x.profile is_waiting x.heading_of.items 0 x.first_id_of.items es is.housed);
  }

  -- the ids at a place fit
  pub ids_fit : (es : List Entry) (x : StampIndex) (place : ℕ) (e : Entry) → IsIndexOf settings es x → slice_get es place ≡ Some e → get_or x.first_id_of.items place 0 + length (active_stamps settings e) ≤ 2 ^ 32
  ids_fit es x place e is there = omega (arith, (housed_at settings x.heading_of.items 0 x.first_id_of.items es place e is.housed there).0, is.few)

  pub first_within : (es : List Entry) (x : StampIndex) (place : ℕ) → IsIndexOf settings es x → place < length es → place < length x.first_id_of.items
  first_within es x place is lt = omega (arith, lt, housed_long settings x.heading_of.items 0 x.first_id_of.items es is.housed)

  -- a copy has the same stamps
  pub copied : (es : List Entry) (x y : StampIndex) → IsIndexOf settings es x → IsCopy x y → IsIndexOf settings es y
  copied es x y is same = record {
    housed = subst (λ fs. AreHoused settings y.heading_of.items 0 fs es) (sym same.first_id_of) (subst (λ hs. AreHoused settings hs 0 x.first_id_of.items es) (sym same.heading_of) is.housed);
    few = subst (λ (hs : List ℕ). length hs ≤ 2 ^ 32) (sym same.heading_of) is.few;
    reminding = λ weight. (λ i. sum_by weight (all_ids (same.profile i) is_reminding settings (same.first_id_of i) es)) ∙ is.reminding weight ∙ ap (sum_by weight) (sym same.reminding);
    plain = λ weight. (λ i. sum_by weight (all_ids (same.profile i) is_waiting settings (same.first_id_of i) es)) ∙ is.plain weight ∙ ap (sum_by weight) (sym same.plain);
  }

  module _ (q : Profile) (wanted : EntryStamp → Bool) where
    left_below : (n : ℕ) (fs : List ℕ) (es : List Entry) (place : ℕ) (was : Entry) (old mid : List (ℕ × Reach)) → length fs ≡ length es → slice_get es place ≡ Some was → HaveSame (all_ids q wanted settings fs es) old →
        LeavesRest (ids_of q wanted (get_or fs place 0) (active_stamps settings was)) old mid → AreBelow n (all_ids q wanted settings fs es) → AreBelow n mid
    left_below n fs es place was old mid long there had taken below =
        let retired : List (ℕ × Reach) = ids_of q wanted (get_or fs place 0) (active_stamps settings was) in
        let rest : List (ℕ × Reach) = rest_ids settings q wanted place fs es in
        let whole : HaveSame (all_ids q wanted settings fs es) (retired ++ rest) = λ w. sum_at settings q wanted w place fs es was long there ∙ sym (sum_by-append w retired rest) in
        let split : HaveSame (retired ++ rest) old = λ w. sym (whole w) ∙ had w in
        below_same n rest mid (taken rest split) (below_behind n retired rest (below_same n (all_ids q wanted settings fs es) (retired ++ rest) whole below))

    set_same : (fs : List ℕ) (es : List Entry) (place f : ℕ) (e was : Entry) (old mid new : List (ℕ × Reach)) → length fs ≡ length es → slice_get es place ≡ Some was → HaveSame (all_ids q wanted settings fs es) old →
        LeavesRest (ids_of q wanted (get_or fs place 0) (active_stamps settings was)) old mid → HaveSame (ids_of q wanted f (active_stamps settings e) ++ mid) new →
        HaveSame (all_ids q wanted settings (slice_set fs place f) (slice_set es place e)) new
    set_same fs es place f e was old mid new long there had taken put weight =
        let retired : List (ℕ × Reach) = ids_of q wanted (get_or fs place 0) (active_stamps settings was) in
        let rest : List (ℕ × Reach) = rest_ids settings q wanted place fs es in
        let split : HaveSame (retired ++ rest) old = λ w. sum_by-append w retired rest ∙ sym (sum_at settings q wanted w place fs es was long there) ∙ had w in
        let left : sum_by weight rest ≡ sum_by weight mid = taken rest split weight in
        let one : sum_by weight (ids_of q wanted f (active_stamps settings e)) + sum_by weight mid ≡ sum_by weight new = sym (sum_by-append weight (ids_of q wanted f (active_stamps settings e)) mid) ∙ put weight in
        let whole = sum_set settings q wanted weight place fs es f e long (slice_get_within es place was there) in
        omega (arith, whole, one, left)

  -- what is left when the stamps of a place are taken out has no id that wasn't given
  pub fresh_taken : (es : List Entry) (place : ℕ) (was : Entry) (x t : StampIndex) → IsIndexOf settings es x → slice_get es place ≡ Some was → HasTaken (get_or x.first_id_of.items place 0) (active_stamps settings was) x t → AreFresh t
  fresh_taken es place was x t is there taken =
      let long = housed_long settings x.heading_of.items 0 x.first_id_of.items es is.housed in
      let first = get_or x.first_id_of.items place 0 in
      record {
        reminding = subst (λ (hs : List ℕ). AreBelow (length hs) t.reminding) (sym taken.heading_of) (left_below x.profile is_reminding (length x.heading_of.items) x.first_id_of.items es place was x.reminding t.reminding long there is.reminding taken.reminding (all_below settings x.profile is_reminding x.heading_of.items 0 x.first_id_of.items es is.housed));
        plain = subst (λ (hs : List ℕ). AreBelow (length hs) t.plain) (sym taken.heading_of) (left_below x.profile is_waiting (length x.heading_of.items) x.first_id_of.items es place was x.plain t.plain long there is.plain taken.plain (all_below settings x.profile is_waiting x.heading_of.items 0 x.first_id_of.items es is.housed));
      }

  -- another entry at a place
  pub set_there : (es : List Entry) (place : ℕ) (was e : Entry) (x t y z : StampIndex) → IsIndexOf settings es x → slice_get es place ≡ Some was → HasTaken (get_or x.first_id_of.items place 0) (active_stamps settings was) x t → HasPut place (active_stamps settings e) t y →
      z.heading_of.items ≡ y.heading_of.items → z.first_id_of.items ≡ slice_set y.first_id_of.items place (length t.heading_of.items) → z.profile ≡ y.profile → z.reminding ≡ y.reminding → z.plain ≡ y.plain → IsIndexOf settings (slice_set es place e) z
  set_there es place was e x t y z is there taken put heading_of first_id_of profile reminding plain =
      let long = housed_long settings x.heading_of.items 0 x.first_id_of.items es is.housed in
      let count = length (active_stamps settings e) in
      let more : List ℕ = x.heading_of.items ++ replicate count place in
      let headings_are : z.heading_of.items ≡ more = heading_of ∙ put.heading_of ∙ ap (λ hs. hs ++ replicate count place) taken.heading_of in
      let next : length t.heading_of.items ≡ length x.heading_of.items = ap length taken.heading_of in
      let first_ids_are : z.first_id_of.items ≡ slice_set x.first_id_of.items place (length x.heading_of.items) = first_id_of ∙ (λ i. slice_set ((put.first_id_of ∙ taken.first_id_of) i) place (next i)) in
      let profile_is : z.profile ≡ x.profile = profile ∙ put.profile ∙ taken.profile in
      let at : AreHeadingsOf more (length x.heading_of.items) count (0 + place) = subst (AreHeadingsOf more (length x.heading_of.items) count) (let w : place ≡ 0 + place = omega arith in w) (headings_new x.heading_of.items count place) in
      let housed : AreHoused settings more 0 (slice_set x.first_id_of.items place (length x.heading_of.items)) (slice_set es place e) =
      housed_set settings more 0 x.first_id_of.items es place (length x.heading_of.items) e (housed_more settings x.heading_of.items (replicate count place) 0 x.first_id_of.items es is.housed) at in
      let put_reminding : HaveSame (ids_of x.profile is_reminding (length x.heading_of.items) (active_stamps settings e) ++ t.reminding) y.reminding =
      λ weight. (λ i. sum_by weight (ids_of (sym taken.profile i) is_reminding (sym next i) (active_stamps settings e) ++ t.reminding)) ∙ put.reminding weight in
      let put_others : HaveSame (ids_of x.profile is_waiting (length x.heading_of.items) (active_stamps settings e) ++ t.plain) y.plain =
      λ weight. (λ i. sum_by weight (ids_of (sym taken.profile i) is_waiting (sym next i) (active_stamps settings e) ++ t.plain)) ∙ put.plain weight in
      record {
        housed = subst (λ fs. AreHoused settings z.heading_of.items 0 fs (slice_set es place e)) (sym first_ids_are) (subst (λ hs. AreHoused settings hs 0 (slice_set x.first_id_of.items place (length x.heading_of.items)) (slice_set es place e)) (sym headings_are) housed);
        few = subst (λ (hs : List ℕ). length hs ≤ 2 ^ 32) (sym heading_of) (put.few (subst (λ (hs : List ℕ). length hs ≤ 2 ^ 32) (sym taken.heading_of) is.few));
        reminding = λ weight.
            (λ i. sum_by weight (all_ids (profile_is i) is_reminding settings (first_ids_are i) (slice_set es place e)))
            ∙ set_same x.profile is_reminding x.first_id_of.items es place (length x.heading_of.items) e was x.reminding t.reminding y.reminding long there is.reminding taken.reminding put_reminding weight
            ∙ ap (sum_by weight) (sym reminding);
        plain = λ weight.
            (λ i. sum_by weight (all_ids (profile_is i) is_waiting settings (first_ids_are i) (slice_set es place e)))
            ∙ set_same x.profile is_waiting x.first_id_of.items es place (length x.heading_of.items) e was x.plain t.plain y.plain long there is.plain taken.plain put_others weight
            ∙ ap (sum_by weight) (sym plain);
      }
