use Rattle.std.proofs.Common.{◌≡◌, ◌∙◌, inl, inr, ℕ, List, [], ◌∷◌, ◌++◌, ap, refl, sym}
use Rattle.org_save.specs.Events.{Event, found, restored}
use Rattle.org_save.specs.declared.name.Name.TheVariants.{Target, Temporary}
use Rattle.org_save.proofs.EventLemmas.{LeaveAll-append, joined, one_more}
use Rattle.org_save.proofs.FinishLemmas.{HoldAll-append, leaves_hold}
use Rattle.org_save.proofs.finish.restore.Goals as goal

pub returns-then-not-is_same : goal.returns-then-not-is_same
returns-then-not-is_same g c =
    record { value = record { done = found Target c.read.new.bytes.items ∷ []; did = record { all = c.in-Ok.ensures }; target = (inl tt, tt); temporary = (tt, tt); says = tt } }

pub returns-in_default-restore : goal.returns-in_default-restore
returns-in_default-restore g c =
    let now = c.read.new.bytes.items in
    let new = c.args.new.now in
    elim c.in_default-restore.ensures [
      | inl same ↦ record { value = record { done = found Target now ∷ []; did = record { all = same ∙ c.in-Ok.ensures }; target = (inl tt, tt); temporary = (tt, tt); says = tt } }
      | inr is ↦ record {
        value = record {
          done = restored new ∷ found Target now ∷ [];
          did = record { all = one_more (restored new) _ _ _ (found Target now ∷ []) is c.in-Ok.ensures };
          target = (inr refl, (inl tt, tt));
          temporary = (tt, (tt, tt));
          says = tt;
        };
      }
    ]

pub returns : goal.returns
returns g c =
    let now = c.read.new.bytes.items in
    let new = c.args.new.now in
    let back = c.look_back.ensures.value in
    let first : List Event = restored new ∷ found Target now ∷ [] in
    let is : now ≡ new = sym c.deref.ensures.value ∙ c.if-not-is_same.ensures.value.0 refl in
    let later = back.done in
    record {
      value = record {
        done = later ++ first;
        did = record { all = joined _ _ _ first later (one_more (restored new) _ _ _ (found Target now ∷ []) c.in-Ok-restore.ensures c.in-Ok.ensures) back.did.all };
        target = HoldAll-append new later first (leaves_hold new later back.target) (inr refl, (inl tt, tt));
        temporary = LeaveAll-append Temporary later first back.temporary (tt, (tt, tt));
        says = record {
          later = later;
          earlier = [];
          all = ap (λ (bytes : List ℕ). later ++ restored new ∷ found Target bytes ∷ []) is;
          says = back.says;
        };
      };
    }
