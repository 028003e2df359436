use Rattle.std.proofs.Common.{◌≡◌, ◌∙◌, ℕ, List, [], ◌∷◌, ◌++◌, ap, refl, sym}
use Rattle.org_save.specs.Contents.{kept}
use Rattle.org_save.specs.Events.{found_former}
use Rattle.org_save.specs.Replacing.{rescue_events}
use Rattle.org_save.proofs.EventLemmas.{LeaveAll-append, joined}
use Rattle.org_save.specs.declared.name.Name.TheVariants.{Target, Temporary}
use Rattle.org_save.proofs.finish.look_back.Goals as goal

pub returns-in_default : goal.returns-in_default
returns-in_default g c = record { value = record { done = []; did = record { all = c.in_default.ensures }; target = tt; temporary = tt; says = tt } }

pub returns-then-is_same : goal.returns-then-is_same
returns-then-is_same g c =
    let is : c.read_former.new.bytes.items ≡ c.args.old.now = sym c.deref.ensures.value ∙ c.if-is_same.ensures.value.0 refl in
    record {
      value = record {
        done = found_former c.read_former.new.bytes.items ∷ [];
        did = record { all = c.in-Ok.ensures };
        target = (tt, tt);
        temporary = (tt, tt);
        says = record { later = []; all = ap (λ (bytes : List ℕ). found_former bytes ∷ []) is };
      };
    }

pub returns-in-Ok-rescue : goal.returns-in-Ok-rescue
returns-in-Ok-rescue g c =
    let now = c.read_former.new.bytes.items in
    let bytes = c.deref-2.result.now in
    record {
      value = record {
        done = rescue_events bytes ++ found_former now ∷ [];
        did = record { all = joined _ _ _ (found_former now ∷ []) (rescue_events bytes) c.in-Ok.ensures c.in-Ok-rescue.ensures.ok };
        target = (tt, (tt, (tt, (tt, tt))));
        temporary = (tt, (tt, (tt, (tt, tt))));
        says = record {
          finds = record {
            now = now;
            other = λ is. cc (c.if-is_same.ensures.value.1 (c.deref.ensures.value ∙ is));
            begins = record { later = rescue_events bytes; all = refl };
          };
          rescue = λ _. ap (kept) c.deref-2.ensures.value;
        };
      };
    }

pub returns-in-Err : goal.returns-in-Err
returns-in-Err g c =
    let now = c.read_former.new.bytes.items in
    let err = c.in-Err.ensures.err in
    record {
      value = record {
        done = err.done ++ found_former now ∷ [];
        did = record { all = joined _ _ _ (found_former now ∷ []) err.done c.in-Ok.ensures err.did.all };
        target = LeaveAll-append Target err.done (found_former now ∷ []) err.target (tt, tt);
        temporary = LeaveAll-append Temporary err.done (found_former now ∷ []) err.temporary (tt, tt);
        says = record {
          now = now;
          other = λ is. cc (c.if-is_same.ensures.value.1 (c.deref.ensures.value ∙ is));
          begins = record { later = err.done; all = refl };
        };
      };
    }
