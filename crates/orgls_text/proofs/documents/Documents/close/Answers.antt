use Rattle.std.proofs.Common.{◌≡◌, List, not, rules, ap, ◌∙◌}
use Rattle.std.specs.Prelude.{filter}
use Rattle.std.proofs.lemmas.Fn.{filter_same}
use Rattle.orgls_text.specs.Documents.{Closed, DocumentView, DocumentsView, has_address, view_behind}
use Rattle.orgls_text.proofs.documents.Documents.close.Goals as goal

pub returns : goal.returns
returns c =
    let stays = λ (d : DocumentView). not (has_address c.args.address.now d) in
    let kept : c.retain.new.self.items ≡ filter stays c.self.inside.documents.items =
    filter_same _ stays _ (λ x b f' k. search rules) c.self.inside.documents.items c.retain.new.self.items c.retain.ensures.filtered in
    let put = λ (ds : List DocumentView). let view : DocumentsView = record { encoding = c.self.inside.encoding; documents = ds } in view in
    record { value = ap put kept ∙ ap (λ (w : DocumentsView). view_behind w (Closed c.args.address.now)) c.self.view_is }
