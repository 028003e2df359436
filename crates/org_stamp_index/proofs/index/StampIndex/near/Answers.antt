use Rattle.std.proofs.Common.{◌∙◌, List, ℕ, ap, sym, subst}
use Rattle.org_index.specs.Near.{candidate_count, candidate_ids, touching_count, touching_ids}
use Rattle.org_index.specs.Ticks.{examined}
use Rattle.org_stamp_index.specs.Near.{AddHeadings}
use Rattle.org_stamp_index.proofs.NearLemmas.{hold_kept, hold_near, near_counted}
use Rattle.org_stamp_index.proofs.PlaceLemmas.{both_counted, examines_more, on_err}
use Rattle.org_stamp_index.proofs.index.StampIndex.near.Goals as goal

pub returns-in_err-add_headings-clause-partial : goal.returns-in_err-add_headings-clause-partial
returns-in_err-add_headings-clause-partial c =
    let a = c.args.asked.now in
    on_err c.from_residual-in_err-add_headings.result _
    (examines_more (candidate_count a.from a.to a.today c.args.self.now.reminding) c.args.meter.now c.candidates.new.meter c.ids_touching.new.meter c.in_ok-reminding.ensures.counts
    (touching_count a.from a.to c.args.self.now.plain, c.in_ok-plain.ensures.counts))

pub returns-in_err-add_headings-2-clause-partial : goal.returns-in_err-add_headings-2-clause-partial
returns-in_err-add_headings-2-clause-partial c =
    let a = c.args.asked.now in
    on_err c.from_residual-in_err-add_headings-2.result _
    (examines_more (candidate_count a.from a.to a.today c.args.self.now.reminding) c.args.meter.now c.candidates.new.meter c.ids_touching.new.meter c.in_ok-reminding.ensures.counts
    (touching_count a.from a.to c.args.self.now.plain, c.in_ok-plain.ensures.counts))

pub returns-clause-value : goal.returns-clause-value
returns-clause-value c =
    let a = c.args.asked.now in
    let heading_of = c.args.self.now.heading_of.items in
    let first : AddHeadings heading_of (candidate_ids a.from a.to a.today c.args.self.now.reminding) c.add_headings.new.places.items =
    subst (λ (ids : List ℕ). AddHeadings heading_of ids c.add_headings.new.places.items) (c.as_slice-2.ensures.value ∙ c.in_ok-reminding.ensures.value)
    (subst (λ (hs : List ℕ). AddHeadings hs c.as_slice-2.result.now c.add_headings.new.places.items) c.as_slice.ensures.value c.in_ok-add_headings.ensures.adds) in
    let second : AddHeadings heading_of (touching_ids a.from a.to c.args.self.now.plain) c.add_headings-2.new.places.items =
    subst (λ (ids : List ℕ). AddHeadings heading_of ids c.add_headings-2.new.places.items) (c.as_slice-4.ensures.value ∙ c.in_ok-plain.ensures.value)
    (subst (λ (hs : List ℕ). AddHeadings hs c.as_slice-4.result.now c.add_headings-2.new.places.items) c.as_slice-3.ensures.value c.in_ok-add_headings-2.ensures.adds) in
    let held = hold_near a c.args.self.now c.add_headings.new.places.items c.add_headings-2.new.places.items (sym c.requires.profile) first c.in_ok-add_headings-2.ensures.keeps second in
    hold_kept a c.args.self.now c.add_headings-2.new.places.items c.sort_once.new.places.items held c.sort_once.ensures.keeps

pub returns-clause-counts : goal.returns-clause-counts
returns-clause-counts c = λ settings es is.
    let a = c.args.asked.now in
    both_counted (candidate_count a.from a.to a.today c.args.self.now.reminding) (touching_count a.from a.to c.args.self.now.plain) c.args.meter.now c.candidates.new.meter c.ids_touching.new.meter c.in_ok-reminding.ensures.counts c.in_ok-plain.ensures.counts
    ∙ ap (λ n. examined n c.args.meter.now) (near_counted a settings es c.args.self.now (sym c.requires.profile) is)
