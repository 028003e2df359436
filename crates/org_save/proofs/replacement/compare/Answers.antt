use Rattle.std.proofs.Common.{◌∙◌, [], ◌∷◌}
use Rattle.org_save.specs.Events.{found}
use Rattle.org_save.specs.declared.name.Name.TheVariants.{Target}
use Rattle.org_save.proofs.replacement.compare.Goals as goal

pub returns-in-Err-clause-err : goal.returns-in-Err-clause-err
returns-in-Err-clause-err g c = record { done = []; did = record { all = c.in-Err.ensures }; target = tt }

pub returns-else-is_same-clause-err : goal.returns-else-is_same-clause-err
returns-else-is_same-clause-err g c = record { done = found Target c.read.new.bytes.items ∷ []; did = record { all = c.in_default.ensures }; target = (tt, tt) }

pub returns-else-is_same-clause-changed : goal.returns-else-is_same-clause-changed
returns-else-is_same-clause-changed g c changed = record {
  now = c.read.new.bytes.items;
  later = [];
  earlier = [];
  did = record { all = c.in_default.ensures };
  other = λ is. cc (c.if-is_same.ensures.value.1 (c.deref.ensures.value ∙ is));
}
