-- One file more has its sums, and then all have.
use Rattle.std.proofs.Common.{◌≡◌, ◌∙◌, ◌-◌, ◌^◌, ◌<◌, List, [], ℕ, length, get_or, take, ap, subst, arith}
use Rattle.std.specs.Prelude.{min}
use Rattle.std.proofs.lemmas.List.{take_min}
use Rattle.org_client.specs.HeadingNames.{id_headings}
use Rattle.org_client.specs.RowIds.{IdsView, PutsSums, heading_count, is_in, key_of, sum_in}
use Rattle.org_client.proofs.AskedLemmas.{HaveFirst, all_sums, count_more, first_more}
use Rattle.org_entry.specs.declared.entry.Entry.{Entry}
use Rattle.org_ids.specs.Letters.{id_length}
use Rattle.org_inherit.specs.Scope.{Scope}
use Rattle.org_client.proofs.row_ids.RowIds.of.Goals as goal

pub loop-place-preserved : goal.loop-place-preserved
loop-place-preserved g c =
    let files = c.args.file_set.now.files in
    let scopes : List Scope = c.args.inherits.now in
    let k : ℕ = c.loop-place.place in
    let scope : Scope = c.get.result.now in
    let low : k < length scopes = omega (arith, c.loop-place-test.true, c.min-files.ensures, c.count-2.ensures.value) in
    let entries : c.outline-outline.result.now ≡ scope.entries = c.outline-outline.ensures.value in
    let sections : c.sections.result.now ≡ get_or c.in_ok-asked.asked k [] = c.sections.ensures.value in
    let put = subst (λ (es : List Entry). PutsSums c.loop-place.ids c.put_file.new.self c.file.result.now es k c.sections.result.now) entries c.in_ok-put_file.ensures.ok in
    record {
      sums = first_more files scopes c.args.headings.now k c.loop-place.ids c.put_file.new.self c.file.result.now scope c.sections.result.now
          c.file.ensures.value c.get.ensures.value
          (λ section. ap (λ (xs : List ℕ). is_in xs section) sections ∙ c.in_ok-asked.ensures.value.1 k section c.loop-place-test.true)
          c.loop-place.invariant.sums put;
      count = count_more scopes k scope c.loop-place.count c.heading_count.result c.saturating_add-count.result low c.get.ensures.value c.loop-place.invariant.count
          (c.heading_count.ensures.value ∙ ap (λ (es : List Entry). length (id_headings es)) entries) c.saturating_add-count.ensures;
    }

pub returns : goal.returns
returns g c =
    let files = c.args.file_set.now.files in
    let scopes : List Scope = c.args.inherits.now in
    let k : ℕ = c.loop-place.place in
    let all : k ≡ min (length files) (length scopes) = omega (arith, c.loop-place-test.false, c.loop-place.auto.place-end, c.min-files.ensures, c.count.ensures.value, c.count-2.ensures.value) in
    let sums : c.ids-2.inside.sums.entries ≡ c.loop-place.ids.sums = ap (λ (v : IdsView). v.sums) c.ids-2.view_is in
    let ids : IdsView = record { sums = c.ids-2.inside.sums.entries; length = c.id_length.result } in
    let first : HaveFirst files scopes c.args.headings.now k ids = λ at own.
    ap (λ (es : List (ℕ × ℕ)). sum_in (record { sums = es; length = c.id_length.result }) (key_of at)) sums ∙ c.loop-place.invariant.sums at own in
    let taken : take k scopes ≡ take (length files) scopes = ap (λ (n : ℕ). take n scopes) all ∙ take_min (length files) scopes in
    record {
      value = record {
        sums = all_sums files scopes c.args.headings.now k ids all first;
        length = c.id_length.ensures.value ∙ ap id_length c.loop-place.invariant.count ∙ ap (λ (ss : List Scope). id_length (min (heading_count ss) (2 ^ 64 - 1))) taken;
      };
    }
