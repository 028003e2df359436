use Rattle.std.proofs.Common.{Bor, List, ℕ, ◌≡◌, ◌∙◌, ap, refl, subst, sym}
use Rattle.std.specs.Prelude.{Option, false, is_some, not, true}
use Rattle.std.specs.Option.{option_copied}
use Rattle.org_base.specs.declared.code.Code.TheVariants.{Unknown}
use Rattle.org_base.specs.declared.fault.Fault.TheVariants.{Plain}
use Rattle.org_engine.specs.Questions.{IsMissingFault, IsThere}
use Rattle.org_engine.specs.Step.{place_named}
use Rattle.org_engine.proofs.ListLemmas.{is_there_or_gone}
use Rattle.org_engine.proofs.lists.check_file.Goals as goal

pub returns-then-is_none-clause-err : goal.returns-then-is_none-clause-err
returns-then-is_none-clause-err g c =
    let world = c.args.world.now.world in
    let gone : is_some (place_named c.in-Some.name.now world.files) ≡ false = ap is_some (sym c.place.ensures.value) ∙ c.is_none.ensures ∙ ap not c.if-is_none.true in
    subst (λ (file : Option (Bor (List ℕ))). IsMissingFault (option_copied file) world (Plain Unknown)) (sym c.in-Some.is) (is_there_or_gone c.in-Some.name.now world false gone, refl)

pub returns-clause-ok : goal.returns-clause-ok
returns-clause-ok g c =
    let world = c.args.world.now.world in
    let there : is_some (place_named c.in-Some.name.now world.files) ≡ true = ap is_some (sym c.place.ensures.value) ∙ c.is_none.ensures ∙ ap not c.if-is_none.false in
    subst (λ (file : Option (Bor (List ℕ))). IsThere (option_copied file) world) (sym c.in-Some.is) (is_there_or_gone c.in-Some.name.now world true there)
