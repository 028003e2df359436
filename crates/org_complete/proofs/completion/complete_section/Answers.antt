-- What is planned for a heading can be written.
use Rattle.std.proofs.Common.{◌≡◌, refl, sym, subst}
use Rattle.std.specs.Prelude.{IsSome, Some}
use Rattle.org_complete.proofs.CompleteLemmas.{planned_there, same_part}
use Rattle.org_store.specs.Begun.{entry_there}
use Rattle.org_complete.proofs.ChangeLemmas.{IsEntryOf, can_write}
use Rattle.org_store.specs.Outline.{file_settings}
use Rattle.org_settings.specs.Keywords.{keyword_place}
use Rattle.org_complete.proofs.completion.complete_section.Goals as goal

pub complete_entry-requires-clause-plan : goal.complete_entry-requires-clause-plan
complete_entry-requires-clause-plan g c =
    let t = c.args.file.now.text in
    let settings = file_settings t in
    let entry = c.in-Some.entry.now in
    let headed : IsSome entry.head = subst (λ o. IsSome o) (sym c.in-Some-head.is) refl in
    let own : IsEntryOf t c.args.place settings entry = record { utf8 = c.text_of-text.ensures.utf8; small = c.text_of-text.ensures.fits; within = c.requires.there.section; is = c.in-Some.ensures.value; headed = headed } in
    let planned = rw (c.settings.ensures.value, c.planning.ensures.value) at c.in_ok-plan.ensures.value in
    can_write t c.args.place settings entry c.in-Some-head.head c.args.moment (keyword_place settings.keywords c.args.keyword.now) c.in_ok-plan.plan own c.in-Some-head.is planned

pub returns-clause-value : goal.returns-clause-value
returns-clause-value g c =
    let t = c.args.file.now.text in
    let there = c.in-Some.ensures.value in
    let head : (entry_there t c.args.place).head ≡ Some c.in-Some-head.head = rw there at c.in-Some-head.is in
    let planned = rw (c.settings.ensures.value, c.planning.ensures.value, there) at c.in_ok-plan.ensures.value in
    let both = planned_there t c.args.place c.args.keyword.now c.args.moment c.in-Some-head.head c.in_ok-plan.plan head (sym planned) in
    same_part t c.complete_entry.result _ _ _ _ both.0 both.1 (rw there at c.complete_entry.ensures.value)
