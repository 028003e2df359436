use Rattle.std.proofs.Common.{◌++◌, refl, subst, sym}
use Rattle.org_save.specs.Replacing.{Says}
use Rattle.org_save.specs.declared.name.Name.TheVariants.{Temporary}
use Rattle.org_save.specs.declared.saved.Meanwhile.{Meanwhile}
use Rattle.org_save.proofs.EventLemmas.{LeaveAll-append, joined}
use Rattle.org_save.proofs.FinishLemmas.{HoldAll-append, begins_more, leaves_hold, restored_behind}
use Rattle.org_save.proofs.finish.settle.Goals as goal

pub returns-in-Nothing : goal.returns-in-Nothing
returns-in-Nothing g c =
    let old = c.args.old.now in
    let new = c.args.new.now in
    let back = c.in-Nothing.ensures.value in
    let again = c.restore-restored.ensures.value in
    let first = back.done in
    let later = again.done in
    let P : Meanwhile → Type 0 = λ meanwhile. Says old meanwhile (later ++ first) in
    record {
      value = record {
        done = later ++ first;
        did = record { all = joined _ _ _ first later back.did.all again.did.all };
        target = HoldAll-append new later first again.target (leaves_hold new first back.target);
        temporary = LeaveAll-append Temporary later first again.temporary back.temporary;
        meanwhile = subst P (sym c.in-Nothing.is) (begins_more old later first back.says);
        again = restored_behind new c.restore-restored.result later first again.says;
        durable = refl;
      };
    }

pub returns-in_default : goal.returns-in_default
returns-in_default g c =
    let back = c.look_back-meanwhile.ensures.value in
    record {
      value = record {
        done = back.done;
        did = back.did;
        target = leaves_hold c.args.new.now back.done back.target;
        temporary = back.temporary;
        meanwhile = back.says;
        again = tt;
        durable = refl;
      };
    }
