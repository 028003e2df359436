use Rattle.std.proofs.Common.{[], ◌∷◌, subst, Bool}
use Rattle.org_save.specs.Calls.{IfGone}
use Rattle.org_save.specs.Events.{made}
use Rattle.org_save.specs.declared.name.Name.TheVariants.{Temporary}
use Rattle.org_save.proofs.FinishLemmas.{finished, finished_whole}
use Rattle.org_save.proofs.StopLemmas.{changed_after, changed_before, stopped_clean, stopped_untouched, stopped_whole}
use Rattle.org_save.proofs.replacement.replace_in.Goals as goal

pub returns-in-Err-clause-whole : goal.returns-in-Err-clause-whole
returns-in-Err-clause-whole g c = record { done = []; did = record { all = c.in-Err.ensures }; whole = λ _. tt }

pub returns-in-Ok-clause-whole : goal.returns-in-Ok-clause-whole
returns-in-Ok-clause-whole g c = finished_whole _ _ _ _ _ _ _ c.in_default.ensures c.in-Ok.ensures.ok c.finish.ensures.value

pub returns-in-Ok-clause-ok : goal.returns-in-Ok-clause-ok
returns-in-Ok-clause-ok g c = finished _ _ _ _ _ _ _ c.in_default.ensures c.in-Ok.ensures.ok c.finish.ensures.value

pub returns-in-Err-swap-clause-whole : goal.returns-in-Err-swap-clause-whole
returns-in-Err-swap-clause-whole g c = stopped_whole _ _ _ _ _ _ _ c.in_default.ensures c.in-Err-swap.ensures.err c.is_left.ensures.any

pub returns-in-Err-swap-clause-untouched : goal.returns-in-Err-swap-clause-untouched
returns-in-Err-swap-clause-untouched g c not_there = stopped_untouched _ _ _ _ _ _ _ c.in_default.ensures c.in-Err-swap.ensures.err c.is_left.ensures.any not_there

pub returns-in-Err-swap-clause-changed : goal.returns-in-Err-swap-clause-changed
returns-in-Err-swap-clause-changed g c changed =
    changed_before _ _ _ _ _ c.is_left.ensures.any.did.all (changed_after _ _ _ _ (made Temporary ∷ []) c.in_default.ensures (c.in-Err-swap.ensures.changed changed))

pub returns-in-Err-swap-clause-left : goal.returns-in-Err-swap-clause-left
returns-in-Err-swap-clause-left g c gone =
    let P : Bool → Type 0 = λ b. IfGone b Temporary (g.S.Store.events c.swap.new.store) (g.S.Store.events c.is_left.new.store) in
    stopped_clean _ _ _ _ _ _ _ c.in_default.ensures c.in-Err-swap.ensures.err (subst P gone c.is_left.ensures.gone)
