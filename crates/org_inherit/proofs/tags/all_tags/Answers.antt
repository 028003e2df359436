use Rattle.std.proofs.Common.{append-nil, ◌≡◌, ℕ, List, ◌++◌, ◌<◌, [], fold, length, get_or, ap, sym, ◌∙◌, arith}
use Rattle.std.specs.List.{flat_map}
use Rattle.std.proofs.lemmas.List.{take_all}
use Rattle.std.proofs.lemmas.List.Elements.{All-get_or}
use Rattle.org_inherit.specs.Tags.{firsts, own_tags, own_tags_at, lineage, with_tag}
use Rattle.org_inherit.proofs.LineageLemmas.{lineage_within, none_tagged, tags_here, tags_step}
use Rattle.org_inherit.proofs.tags.all_tags.Goals as goal

pub entry-requires : goal.entry-requires
entry-requires c =
    let es = c.args.outline.now in
    let line : List ℕ = lineage es c.args.place in
    let l : c.as_slice-source-items.result.now ≡ line = c.as_slice-source-items.ensures ∙ c.in_ok-line.ensures.value in
    let k = c.loop-source.source-index in
    let n = ap length l in
    let e = ap (λ v. get_or v k 0) l in
    let h = All-get_or (λ k. k < length es) line k 0 (omega (arith, n)) (lineage_within es c.args.place c.requires.within) in
    omega (arith, e, h)

pub loop-source-preserved : goal.loop-source-preserved
loop-source-preserved c =
    let es = c.args.outline.now in
    let line : List ℕ = lineage es c.args.place in
    let l : c.as_slice-source-items.result.now ≡ line = c.as_slice-source-items.ensures ∙ c.in_ok-line.ensures.value in
    let k = c.loop-source.source-index in
    let n = ap length l in
    let e = ap (λ v. get_or v k 0) l in
    let h = All-get_or (λ k. k < length es) line k 0 (omega (arith, n)) (lineage_within es c.args.place c.requires.within) in
    let p : ℕ = get_or c.as_slice-source-items.result.now k 0 in
    let t = tags_here es p c.entry.result.now (omega (arith, e, h)) in
    let m : own_tags c.entry.result.now ≡ own_tags_at es (get_or line k 0) = ap own_tags c.entry.ensures.value ∙ sym t ∙ ap (own_tags_at es) e in
    tags_step c.args.file_tags.now (own_tags_at es) line k c.loop-source.tags (own_tags c.entry.result.now) c.add_own.new.tags (omega (arith, n)) c.loop-source.invariant m c.in_ok-add_own.ensures.ok

pub returns-clause-value : goal.returns-clause-value
returns-clause-value c =
    let es = c.args.outline.now in
    let line : List ℕ = lineage es c.args.place in
    let file = c.args.file_tags.now in
    let k = c.loop-source.source-index in
    let l : c.as_slice-source-items.result.now ≡ line = c.as_slice-source-items.ensures ∙ c.in_ok-line.ensures.value in
    let n = ap length l in
    c.loop-source.invariant
    ∙ ap (λ v. fold with_tag [] (file ++ flat_map (own_tags_at es) v)) (take_all k line (omega (arith, n, c.loop-source-test.false)))

pub returns-then-not-tagged-clause-value : goal.returns-then-not-tagged-clause-value
returns-then-not-tagged-clause-value c =
    let es = c.args.outline.now in
    let none = none_tagged es c.args.place (sym c.requires.tagged ∙ c.if-not-tagged.true) in
    c.in_ok-add_all.ensures.ok ∙ ap (λ v. fold with_tag v c.args.file_tags.now) c.new-tags.ensures.value
    ∙ ap firsts (sym (append-nil c.args.file_tags.now)) ∙ ap (λ v. firsts (c.args.file_tags.now ++ v)) (sym none)
