-- One name more is asked about.
use Rattle.std.proofs.Common.{◌≡◌, ◌∙◌, ℕ, get_or, refl, sym, take, ap, subst, arith}
use Rattle.std.specs.Prelude.{Some}
use Rattle.std.proofs.lemmas.List.{take_all}
use Rattle.std.proofs.lemmas.List.Elements.{All-more}
use Rattle.org_client.specs.HeadingNames.{AreAskedAt, name_at}
use Rattle.org_ids.specs.Counts.{NoneCame, number_of}
use Rattle.org_ids.proofs.CountLemmas.{asked_now, asked_still, none_asked}
use Rattle.org_client.proofs.heading_names.HeadingNames.zero_counts.Goals as goal

pub loop-section-init : goal.loop-section-init
loop-section-init c = record {
  none = subst NoneCame (sym c.new-counts.ensures.value) (λ name. refl);
  asked = λ k d low. absurd (omega (arith, low));
}

pub loop-section-preserved : goal.loop-section-preserved
loop-section-preserved c =
    let names = c.args.self.now in
    let sections = c.args.sections.now in
    let index = c.loop-section.section-index in
    let old = c.loop-section.counts in
    let new = c.ask.new.self in
    let name = c.get.result.now in
    let none = c.loop-section.invariant.none in
    let asked = c.in_ok-ask.ensures.ok in
    record {
      none = none_asked old new name none asked;
      asked = All-more (λ (s : ℕ). number_of new (name_at names s) ≡ Some 0) sections index 0 c.loop-section-test.true
          (λ k d low. asked_still old new name (name_at names (get_or (take index sections) k d)) none asked (c.loop-section.invariant.asked k d low))
          (ap (number_of new) (sym c.get.ensures.value) ∙ asked_now old new name none asked);
    }

pub returns : goal.returns
returns c = record {
  value = subst (AreAskedAt c.loop-section.counts c.args.self.now) (take_all c.loop-section.section-index c.args.sections.now (omega (arith, c.loop-section-test.false))) c.loop-section.invariant.asked;
}
