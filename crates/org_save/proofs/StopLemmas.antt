-- What stands there where a replacement stops.
use Rattle.std.proofs.Common.{◌≡◌, inl, inr, List, ℕ, [], ◌∷◌, ◌++◌, refl, ◌∙◌, ap, append_assoc, sym, subst}
use Rattle.org_save.specs.Calls.{AddsBeside}
use Rattle.org_save.specs.Contents.{Contents, LeaveAll, after_events}
use Rattle.org_save.specs.Events.{Event, made, found, removed}
use Rattle.org_save.specs.Replacing.{HasChanged, IsAlwaysWhole, IsAtRename, IsUntouched, IsWhole, LeavesNothing, StaysWhole, Stops, swap_events}
use Rattle.org_save.specs.declared.name.Name.TheVariants.{Target, Temporary}
use Rattle.org_save.specs.declared.unsaved.Why.{Why}
use Rattle.org_save.proofs.EventLemmas.{LeaveAll-append, events_leave, event_leaves, joined}

-- what leaves the target as it is leaves it whole
beside_whole : (new : List ℕ) (done : List Event) → LeaveAll Target done → (c : Contents) → IsAlwaysWhole new c done
beside_whole new [] are c = tt
beside_whole new (e ∷ done) are c = (inl (events_leave Target (e ∷ done) are c), beside_whole new done are.1 c)

pub whole_more : (new : List ℕ) (c : Contents) (xs ys : List Event) → LeaveAll Target xs → IsWhole new c ys → IsAlwaysWhole new c ys → IsWhole new c (xs ++ ys) × IsAlwaysWhole new c (xs ++ ys)
whole_more new c [] ys are now always = (now, always)
whole_more new c (x ∷ xs) ys are now always =
    let rest = whole_more new c xs ys are.1 now always in
    let stays = event_leaves Target x are.0 (after_events c (xs ++ ys)) in
    let here : IsWhole new c (x ∷ (xs ++ ys)) = elim rest.0 [ inl same ↦ inl (stays ∙ same) | inr is ↦ inr (stays ∙ is) ] in
    (here, (here, rest.1))

-- whatever the files hold, the target is whole up to the rename and after it
pub swapped_whole : (old new : List ℕ) (c : Contents) → IsWhole new c (swap_events old new ++ made Temporary ∷ []) × IsAlwaysWhole new c (swap_events old new ++ made Temporary ∷ [])
swapped_whole old new c = (inr refl, (inr refl, (inl refl, (inl refl, (inl refl, (inl refl, (inl refl, tt)))))))

module _ (old new : List ℕ) (why : Why) (before begun stopped after : List Event) (is_made : begun ≡ made Temporary ∷ before) (s : Stops old new why begun stopped) where
  abbrev first : List Event
  first = s.done ++ made Temporary ∷ []

  pub up_to : stopped ≡ first ++ before
  up_to = joined before begun stopped (made Temporary ∷ []) s.done is_made s.did.all

  first_whole : (c : Contents) → IsWhole new c first × IsAlwaysWhole new c first
  first_whole c = elim s.shape [
    | inl are ↦ let all = LeaveAll-append Target s.done (made Temporary ∷ []) are (tt, tt) in (inl (events_leave Target first all c), beside_whole new first all c)
    | inr at ↦
        let P : List Event → Type 0 = λ es. IsWhole new c (es ++ made Temporary ∷ []) × IsAlwaysWhole new c (es ++ made Temporary ∷ []) in
        subst P (sym at.1) (swapped_whole old new c)
  ]

  pub stopped_whole : AddsBeside stopped after → StaysWhole new before after
  stopped_whole d = record {
    done = d.done ++ first;
    did = record { all = joined before stopped after first d.done up_to d.did.all };
    whole = λ c. (whole_more new c d.done first d.target (first_whole c).0 (first_whole c).1).1;
  }

  pub stopped_untouched : AddsBeside stopped after → (IsAtRename why → ⊥) → IsUntouched before after
  stopped_untouched d not_there = elim s.shape [
    | inl are ↦ record {
      done = d.done ++ first;
      did = record { all = joined before stopped after first d.done up_to d.did.all };
      target = events_leave Target (d.done ++ first) (LeaveAll-append Target d.done first d.target (LeaveAll-append Target s.done (made Temporary ∷ []) are (tt, tt)));
    }
    | inr at ↦ absurd (not_there at.0)
  ]

  pub stopped_clean : after ≡ removed Temporary ∷ stopped → LeavesNothing before after
  stopped_clean is = record {
    done = removed Temporary ∷ first;
    did = record { all = is ∙ ap (λ (es : List Event). removed Temporary ∷ es) up_to };
    temporary = λ c. inl refl;
  }

-- a change that was found after other events, and before others
pub changed_after : (old : List ℕ) (before mid after first : List Event) → mid ≡ first ++ before → HasChanged old mid after → HasChanged old before after
changed_after old before mid after first is h =
    let l = h.later in
    let f : List Event = found Target h.now ∷ h.earlier in
    record {
      now = h.now;
      later = h.later;
      earlier = h.earlier ++ first;
      did = record { all = h.did.all ∙ ap (λ (es : List Event). (l ++ f) ++ es) is ∙ sym (append_assoc (l ++ f) first before) ∙ ap (λ (es : List Event). es ++ before) (append_assoc l f first) };
      other = h.other;
    }

pub changed_before : (old : List ℕ) (before mid after second : List Event) → after ≡ second ++ mid → HasChanged old before mid → HasChanged old before after
changed_before old before mid after second is h =
    let f : List Event = found Target h.now ∷ h.earlier in
    record {
      now = h.now;
      later = second ++ h.later;
      earlier = h.earlier;
      did = record { all = is ∙ ap (λ (es : List Event). second ++ es) h.did.all ∙ sym (append_assoc second (h.later ++ f) before) ∙ ap (λ (es : List Event). es ++ before) (sym (append_assoc second h.later f)) };
      other = h.other;
    }
