-- What stands there after a replacement.
use Rattle.std.proofs.Common.{◌≡◌, ◌⊎◌, inl, inr, List, ℕ, [], ◌∷◌, ◌++◌, ◌∙◌, ap, refl, append_assoc, sym, Option, Some, None, IfSome, Bool, true, false}
use Rattle.org_save.specs.Contents.{Contents, LeaveAll, Leaves, after_event, after_events, kept}
use Rattle.org_save.specs.Events.{Event, found, found_former, listed, made, restored}
use Rattle.org_save.specs.Replacing.{Finishes, HoldAll, IsAlwaysWhole, IsReplaced, IsRestored, Says, StaysWhole, fill_events, swap_events}
use Rattle.org_save.specs.declared.name.Name.TheVariants.{Target, Temporary}
use Rattle.org_save.specs.declared.saved.Meanwhile.{Meanwhile}
use Rattle.org_save.specs.declared.saved.Meanwhile.TheVariants.{Nothing, Rescued, Lost, Unknown}
use Rattle.org_save.specs.declared.saved.Saved.{Saved}
use Rattle.org_save.proofs.EventLemmas.{after_append, event_leaves, events_leave, joined}
use Rattle.org_save.proofs.StopLemmas.{swapped_whole}

-- a step more, of the folder
pub says_more : (old : List ℕ) (m : Meanwhile) (done : List Event) → Says old m done → Says old m (listed ∷ done)
says_more old Nothing done s = record { later = listed ∷ s.later; all = ap (λ (es : List Event). listed ∷ es) s.all }
says_more old Rescued done s =
    let f = s.finds in
    record {
      finds = record { now = f.now; other = f.other; begins = record { later = listed ∷ f.begins.later; all = ap (λ (es : List Event). listed ∷ es) f.begins.all } };
      rescue = s.rescue;
    }
says_more old Lost done s =
    record { now = s.now; other = s.other; begins = record { later = listed ∷ s.begins.later; all = ap (λ (es : List Event). listed ∷ es) s.begins.all } }
says_more old Unknown done s = tt

-- the same of what is said of a file that came back
pub restored_more : (new : List ℕ) (again : Option Meanwhile) (done : List Event) → IfSome again (IsRestored new done) → IfSome again (IsRestored new (listed ∷ done))
restored_more new (Some m) done r = record {
  later = listed ∷ r.later;
  earlier = r.earlier;
  all = ap (λ (es : List Event). listed ∷ es) r.all;
  says = says_more new m r.later r.says;
}
restored_more new None done r = tt

-- nothing is both
pub not_both : (b : Bool) (P : Type 0) → b ≡ false → b ≡ true → P
not_both true P p q = cc p
not_both false P p q = cc q

-- what came back after other events
pub restored_behind : (new : List ℕ) (again : Option Meanwhile) (done before : List Event) → IfSome again (IsRestored new done) → IfSome again (IsRestored new (done ++ before))
restored_behind new (Some m) done before r = record {
  later = r.later;
  earlier = r.earlier ++ before;
  all = ap (λ (es : List Event). es ++ before) r.all ∙ append_assoc r.later (restored new ∷ found Target new ∷ r.earlier) before;
  says = r.says;
}
restored_behind new None done before r = tt

-- events more, after the former file was found to be as it was
pub begins_more : (old : List ℕ) (more done : List Event) → Says old Nothing done → Says old Nothing (more ++ done)
begins_more old more done s = record {
  later = more ++ s.later;
  all = ap (λ (es : List Event). more ++ es) s.all ∙ sym (append_assoc more s.later (found_former old ∷ []));
}

-- what leaves the target holds the new text there
pub leaves_hold : (new : List ℕ) (done : List Event) → LeaveAll Target done → HoldAll new done
leaves_hold new [] are = tt
leaves_hold new (e ∷ done) are = (inl are.0, leaves_hold new done are.1)

pub HoldAll-append : (new : List ℕ) (xs ys : List Event) → HoldAll new xs → HoldAll new ys → HoldAll new (xs ++ ys)
HoldAll-append new [] ys p q = q
HoldAll-append new (x ∷ xs) ys p q = (p.0, HoldAll-append new xs ys p.1 q)

-- one event that holds the new text
holds : (new : List ℕ) (e : Event) → (Leaves Target e ⊎ (e ≡ restored new)) → (c : Contents) → c.target ≡ kept new → (after_event e c).target ≡ kept new
holds new e h c is = elim h [
  | inl leaves ↦ event_leaves Target e leaves c ∙ is
  | inr same ↦ ap (λ (x : Event). (after_event x c).target) same
]

-- the new text is there after all of them, and after each
pub held : (new : List ℕ) (c : Contents) (xs ys : List Event) → HoldAll new xs → (after_events c ys).target ≡ kept new → (after_events c (xs ++ ys)).target ≡ kept new
held new c [] ys are is = is
held new c (x ∷ xs) ys are is = holds new x are.0 (after_events c (xs ++ ys)) (held new c xs ys are.1 is)

pub held_whole : (new : List ℕ) (c : Contents) (xs ys : List Event) → HoldAll new xs → (after_events c ys).target ≡ kept new → IsAlwaysWhole new c ys → IsAlwaysWhole new c (xs ++ ys)
held_whole new c [] ys are is always = always
held_whole new c (x ∷ xs) ys are is always = (inr (held new c (x ∷ xs) ys are is), held_whole new c xs ys are.1 is always)

module _ (old new : List ℕ) (saved : Saved) (before begun swapped after : List Event) (is_made : begun ≡ made Temporary ∷ before) (is_swapped : swapped ≡ swap_events old new ++ begun) (f : Finishes old new saved swapped after) where
  abbrev first : List Event
  first = swap_events old new ++ made Temporary ∷ []

  up_to : swapped ≡ first ++ before
  up_to = joined before begun swapped (made Temporary ∷ []) (swap_events old new) is_made is_swapped

  all : after ≡ (f.done ++ first) ++ before
  all = joined before swapped after first f.done up_to f.did.all

  pub finished_whole : StaysWhole new before after
  finished_whole = record {
    done = f.done ++ first;
    did = record { all = all };
    whole = λ c. held_whole new c f.done first f.target refl (swapped_whole old new c).1;
  }

  pub finished : IsReplaced old new saved before after
  finished = record {
    later = f.done;
    earlier = fill_events new ++ made Temporary ∷ [];
    did = record { all = all };
    target = λ c. held new c f.done first f.target refl;
    temporary = λ c. ap (λ (x : Contents). x.temporary) (after_append c f.done first) ∙ events_leave Temporary f.done f.temporary (after_events c first);
    meanwhile = f.meanwhile;
    again = f.again;
    durable = f.durable;
  }
