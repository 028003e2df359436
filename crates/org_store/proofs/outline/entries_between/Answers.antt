use Rattle.std.proofs.Common.{◌∙◌, ◌++◌, ◌≤◌, ap, sym, arith}
use Rattle.org_store.specs.Sections.{said}
use Rattle.org_store.proofs.CachedOutlineLemmas.{entries_more}
use Rattle.org_store.proofs.outline.entries_between.Goals as goal

pub loop-place-preserved : goal.loop-place-preserved
loop-place-preserved c =
    let k = c.get.result.now in
    let ahead : c.args.start ≤ c.loop-place.place = search in
    c.in_ok-push_entry.ensures.ok
    ∙ ap (λ es. es ++ said k.entry) c.loop-place.invariant
    ∙ sym (entries_more c.args.list.now c.args.start c.loop-place.place k ahead (omega (arith, c.loop-place-test.true, c.requires.within)) c.get.ensures.value)
