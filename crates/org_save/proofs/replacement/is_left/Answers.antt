use Rattle.std.proofs.Common.{inl, inr, [], ◌∷◌}
use Rattle.org_save.specs.Events.{removed}
use Rattle.org_save.specs.declared.name.Name.TheVariants.{Temporary}
use Rattle.org_save.proofs.replacement.is_left.Goals as goal

pub returns-in-Ok-clause-any : goal.returns-in-Ok-clause-any
returns-in-Ok-clause-any g c = record { done = removed Temporary ∷ []; did = record { all = c.in-Ok.ensures }; target = (tt, tt) }

pub returns-in-Err-clause-any : goal.returns-in-Err-clause-any
returns-in-Err-clause-any g c = elim c.in-Err.ensures [
  | inl same ↦ record { done = []; did = record { all = same }; target = tt }
  | inr is ↦ record { done = removed Temporary ∷ []; did = record { all = is }; target = (tt, tt) }
]
