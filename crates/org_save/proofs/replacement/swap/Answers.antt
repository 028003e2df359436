use Rattle.std.proofs.Common.{◌≡◌, inl, inr, ◌∷◌, ◌++◌, refl, sym, ◌∙◌}
use Rattle.org_save.specs.Events.{found, renamed}
use Rattle.org_save.specs.Replacing.{fill_events, swap_events}
use Rattle.org_save.specs.declared.name.Name.TheVariants.{Target, Temporary}
use Rattle.org_save.proofs.EventLemmas.{LeaveAll-append, joined, one_more, passed_on}
use Rattle.org_save.proofs.StopLemmas.{changed_after}
use Rattle.org_save.proofs.replacement.swap.Goals as goal

pub returns-in_err-compare-clause-err : goal.returns-in_err-compare-clause-err
returns-in_err-compare-clause-err g c =
    let filled = fill_events c.args.new.now in
    let err = c.in_err-compare.ensures.err in
    passed_on c.from_residual-in_err-compare.result (λ why. why ≡ c.in_err-compare.field-0.0) _ (λ why is. record {
      done = err.done ++ filled;
      did = record { all = joined _ _ _ filled err.done c.in_ok-fill.ensures.ok err.did.all };
      shape = inl (LeaveAll-append Target err.done filled err.target (tt, (tt, (tt, tt))));
    }) c.from_residual-in_err-compare.ensures.1

pub returns-in_err-compare-clause-changed : goal.returns-in_err-compare-clause-changed
returns-in_err-compare-clause-changed g c =
    let filled = fill_events c.args.new.now in
    passed_on c.from_residual-in_err-compare.result (λ why. why ≡ c.in_err-compare.field-0.0) _
    (λ why is changed. changed_after c.args.old.now _ _ _ filled c.in_ok-fill.ensures.ok (c.in_err-compare.ensures.changed (sym is ∙ changed))) c.from_residual-in_err-compare.ensures.1

pub returns-in-Err-clause-err : goal.returns-in-Err-clause-err
returns-in-Err-clause-err g c =
    let filled = fill_events c.args.new.now in
    let compared = one_more (found Target c.args.old.now) _ _ _ filled c.in_ok-compare.ensures.ok c.in_ok-fill.ensures.ok in
    elim c.in-Err.ensures [
      | inl same ↦ record { done = found Target c.args.old.now ∷ filled; did = record { all = same ∙ compared }; shape = inl (tt, (tt, (tt, (tt, tt)))) }
      | inr is ↦ record { done = swap_events c.args.old.now c.args.new.now; did = record { all = one_more (renamed Temporary Target) _ _ _ (found Target c.args.old.now ∷ filled) is compared }; shape = inr (tt, refl) }
    ]
