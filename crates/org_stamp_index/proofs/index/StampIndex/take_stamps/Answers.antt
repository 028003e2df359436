use Rattle.std.proofs.Common.{◌≡◌, ◌∙◌, ◌+◌, true, false, sym, ap, refl, subst}
use Rattle.std.specs.Prelude.{not}
use Rattle.org_stamp_index.specs.NearQuery.{is_reminding}
use Rattle.org_stamp_index.specs.Index.{is_waiting}
use Rattle.org_stamp_index.specs.declared.index.StampIndex.{StampIndex}
use Rattle.org_stamp_index.proofs.TakeLemmas.{IsLeft, left_all, left_less, left_none, left_over}
use Rattle.org_stamp_index.proofs.index.StampIndex.take_stamps.Goals.{then-is_reminding, else-is_reminding}
use Rattle.org_stamp_index.proofs.index.StampIndex.take_stamps.Goals as goal

pub loop-ahead-init : goal.loop-ahead-init
loop-ahead-init c = record {
  heading_of = refl;
  first_id_of = refl;
  profile = refl;
  settings = refl;
  reminding = left_all c.args.self.now.profile is_reminding c.args.first c.args.stamps.now c.args.self.now.reminding;
  plain = left_all c.args.self.now.profile is_waiting c.args.first c.args.stamps.now c.args.self.now.plain;
}

pub loop-ahead-preserved : goal.loop-ahead-preserved
loop-ahead-preserved c =
    let q = c.args.self.now.profile in
    let i = c.loop-ahead.ahead in
    let all = c.args.stamps.now in
    let s = c.index-stamps-ahead.result in
    let was = c.args.self.now in
    let now' = c.loop-ahead.self in
    elim c.if-is_reminding.branch [
      | then-is_reminding w ↦
          let presses : is_reminding s ≡ true = sym c.is_reminding.ensures ∙ w.if-is_reminding.true in
          record {
            heading_of = ap (λ (x : StampIndex). x.heading_of.items) w.self-is ∙ c.loop-ahead.invariant.heading_of;
            first_id_of = ap (λ (x : StampIndex). x.first_id_of.items) w.self-is ∙ c.loop-ahead.invariant.first_id_of;
            profile = ap (λ (x : StampIndex). x.profile) w.self-is ∙ c.loop-ahead.invariant.profile;
            settings = ap (λ (x : StampIndex). x.settings.value) w.self-is ∙ c.loop-ahead.invariant.settings;
            reminding = subst (λ ps. IsLeft q is_reminding c.args.first all (i + 1) was.reminding ps) (sym (ap (λ (x : StampIndex). x.reminding) w.self-is ∙ w.take.ensures.value))
                (left_less q is_reminding c.args.first i (c.args.first + i) all s was.reminding now'.reminding c.loop-ahead-test.true c.index-stamps-ahead.is refl presses w.take.ensures.ordered c.loop-ahead.invariant.reminding);
            plain = subst (λ ps. IsLeft q is_waiting c.args.first all (i + 1) was.plain ps) (sym (ap (λ (x : StampIndex). x.plain) w.self-is))
                (left_over q is_waiting c.args.first i all s was.plain now'.plain c.loop-ahead-test.true c.index-stamps-ahead.is (ap not presses) c.loop-ahead.invariant.plain);
          }
      | else-is_reminding w ↦
          let waits : is_reminding s ≡ false = sym c.is_reminding.ensures ∙ w.if-is_reminding.false in
          record {
            heading_of = ap (λ (x : StampIndex). x.heading_of.items) w.self-is ∙ c.loop-ahead.invariant.heading_of;
            first_id_of = ap (λ (x : StampIndex). x.first_id_of.items) w.self-is ∙ c.loop-ahead.invariant.first_id_of;
            profile = ap (λ (x : StampIndex). x.profile) w.self-is ∙ c.loop-ahead.invariant.profile;
            settings = ap (λ (x : StampIndex). x.settings.value) w.self-is ∙ c.loop-ahead.invariant.settings;
            reminding = subst (λ ps. IsLeft q is_reminding c.args.first all (i + 1) was.reminding ps) (sym (ap (λ (x : StampIndex). x.reminding) w.self-is))
                (left_over q is_reminding c.args.first i all s was.reminding now'.reminding c.loop-ahead-test.true c.index-stamps-ahead.is waits c.loop-ahead.invariant.reminding);
            plain = subst (λ ps. IsLeft q is_waiting c.args.first all (i + 1) was.plain ps) (sym (ap (λ (x : StampIndex). x.plain) w.self-is ∙ w.take-else-is_reminding.ensures.value))
                (left_less q is_waiting c.args.first i (c.args.first + i) all s was.plain now'.plain c.loop-ahead-test.true c.index-stamps-ahead.is refl (ap not waits) w.take-else-is_reminding.ensures.ordered c.loop-ahead.invariant.plain);
          }
    ]

pub returns : goal.returns
returns c = record {
  value = record {
    heading_of = c.loop-ahead.invariant.heading_of;
    first_id_of = c.loop-ahead.invariant.first_id_of;
    profile = c.loop-ahead.invariant.profile;
    settings = c.loop-ahead.invariant.settings;
    reminding = left_none c.args.self.now.profile is_reminding c.args.first c.args.stamps.now c.loop-ahead.ahead c.args.self.now.reminding c.loop-ahead.self.reminding c.loop-ahead-test.false c.loop-ahead.invariant.reminding;
    plain = left_none c.args.self.now.profile is_waiting c.args.first c.args.stamps.now c.loop-ahead.ahead c.args.self.now.plain c.loop-ahead.self.plain c.loop-ahead-test.false c.loop-ahead.invariant.plain;
  };
}
