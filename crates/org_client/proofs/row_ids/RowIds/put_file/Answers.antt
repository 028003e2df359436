-- One section more has its sum, and then all have.
use Rattle.std.proofs.Common.{◌≡◌, ◌∙◌, ◌<◌, List, ℕ, length, get_or, ap, subst}
use Rattle.std.proofs.lemmas.List.{take_all}
use Rattle.org_client.specs.HeadingNames.{FileNames, names_in, sum_at}
use Rattle.org_client.specs.RowIds.{PutsSums, heading_sum}
use Rattle.org_client.proofs.KeyLemmas.{is_among, puts_more}
use Rattle.org_client.proofs.row_ids.RowIds.put_file.Goals as goal

pub loop-section-preserved : goal.loop-section-preserved
loop-section-preserved g c =
    let file = c.args.file.now in
    let entries = c.args.outline.now in
    let sections : List ℕ = c.args.sections.now in
    let index : ℕ = c.loop-section.section-index in
    let low : index < length sections = c.loop-section-test.true in
    let section : ℕ = get_or sections index 0 in
    let names : c.in_ok-names.names ≡ names_in file.path entries = c.in_ok-names.ensures.value ∙ ap (λ (path : List ℕ). names_in path entries) c.path.ensures.value in
    let sum : c.in_ok-sum.sum ≡ heading_sum file entries section =
    c.in_ok-sum.ensures.value (c.in_ok-counts.ensures.value index 0 low) ∙ ap (λ (ns : FileNames). sum_at ns file section) names in
    record {
      sums = puts_more c.args.self.now c.loop-section.self c.put.new.self file entries c.args.place sections index c.in_ok-sum.sum low
          c.loop-section.invariant.sums (c.requires.keys section (is_among sections index low)) sum c.in_ok-put.ensures.ok;
      length = c.in_ok-put.ensures.length ∙ c.loop-section.invariant.length;
    }

pub returns-clause-ok : goal.returns-clause-ok
returns-clause-ok g c =
    subst (PutsSums c.args.self.now c.loop-section.self c.args.file.now c.args.outline.now c.args.place)
    (take_all c.loop-section.section-index c.args.sections.now c.loop-section-test.false) c.loop-section.invariant.sums
