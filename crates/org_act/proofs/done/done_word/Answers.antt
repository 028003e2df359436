use Rattle.std.proofs.Common.{◌∙◌, ℕ, List, ap, sym, subst}
use Rattle.std.specs.Prelude.{Result}
use Rattle.org_act.proofs.DoneLemmas.{done_there}
use Rattle.org_act.specs.Changes.{ChoosesText}
use Rattle.org_act.specs.Completing.{done_word_of}
use Rattle.org_act.specs.declared.act.Refusal.{Refusal}
use Rattle.org_store.specs.Begun.{entry_there}
use Rattle.org_store.specs.File.{FileView}
use Rattle.org_store.specs.Outline.{file_settings}
use Rattle.org_act.proofs.done.done_word.Goals as goal

pub returns-clause-value : goal.returns-clause-value
returns-clause-value c =
    let place = c.in-Some.place in
    let there = done_there c.args.file.now.text c.args.line place c.in-Some.ensures.some in
    let same = ap (λ (f : FileView). done_word_of (file_settings f.text) (entry_there f.text place)) c.in_ok-read.ensures.ok in
    subst (λ (w : Result (List ℕ) Refusal). ChoosesText c.done_word_at.result w) (same ∙ sym there) c.done_word_at.ensures.value
