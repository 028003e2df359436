use Rattle.std.proofs.Common.{◌∙◌, ◌++◌, ◌∷◌, [], ap, map, sym, take}
use Rattle.std.proofs.lemmas.List.{map-append}
use Rattle.org_inherit.proofs.ListLemmas.{take_one_more}
use Rattle.org_client.specs.Report.{starts_of}
use Rattle.org_client.proofs.rows.all_starts.Goals as goal

pub loop-place-preserved : goal.loop-place-preserved
loop-place-preserved g c =
    let files = c.args.file_set.now.files in
    let place = c.loop-place.place in
    let file = c.file.result.now in
    c.in_ok-push.ensures.items
    ∙ (λ j. c.loop-place.invariant j ++ c.in_ok-starts.ensures.value j ∷ [])
    ∙ sym (ap (map starts_of) (take_one_more files place file c.file.ensures.value) ∙ map-append starts_of (take place files) (file ∷ []))
