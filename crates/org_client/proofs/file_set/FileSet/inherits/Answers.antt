-- Each file is read in turn.
use Rattle.std.proofs.Common.{◌≡◌, ◌∙◌, ap}
use Rattle.org_client.specs.Files.{FileSetView, scope_of}
use Rattle.org_client.proofs.FileLemmas.{read_more}
use Rattle.org_client.proofs.file_set.FileSet.inherits.Goals as goal

pub loop-place-preserved : goal.loop-place-preserved
loop-place-preserved g c =
    let file_set = c.args.self.now in
    let file = c.file.result.now in
    let is : c.in_ok-inherit.inherit ≡ scope_of file_set.inherited file = c.in_ok-inherit.ensures.value ∙ ap (λ (v : FileSetView). scope_of v.inherited file) c.self.view_is in
    read_more (scope_of file_set.inherited) file_set.files c.loop-place.place file c.in_ok-inherit.inherit c.loop-place.inherits _ c.file.ensures.value is
    c.in_ok-inherit.ensures.heads c.in_ok-inherit.ensures.text c.loop-place.invariant c.in_ok-push.ensures.ok
