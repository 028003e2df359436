use Rattle.std.proofs.Common.{◌≡◌, Some, None, rules, sym, ap, ◌∙◌}
use Rattle.std.specs.Prelude.{position}
use Rattle.orgls_text.specs.Documents.{has_address}
use Rattle.orgls_text.proofs.DocumentLemmas.{put_at, put_behind}
use Rattle.orgls_text.proofs.documents.Documents.put.Goals as goal

pub returns-in-Some : goal.returns-in-Some
returns-in-Some c =
    let address : c.args.document.address ≡ c.as_str.result.now = cc in
    let found : position (has_address c.args.document.address) c.args.self.now.documents ≡ Some c.in-Some.place =
    ap (λ a. position (has_address a) c.args.self.now.documents) address ∙ sym c.in-Some.ensures.value in
    let e = put_at c.args.self.now.documents c.args.document c.in-Some.place found in
    let v = c.self.view_is in
    record { value = rw e (search rules) }

pub returns-in_ok-push-in-None : goal.returns-in_ok-push-in-None
returns-in_ok-push-in-None c =
    let address : c.args.document.address ≡ c.as_str.result.now = cc in
    let found : position (has_address c.args.document.address) c.args.self.now.documents ≡ None =
    ap (λ a. position (has_address a) c.args.self.now.documents) address ∙ sym c.in-None.ensures.value in
    let e = put_behind c.args.self.now.documents c.args.document found in
    let v = c.self.view_is in
    record { value = rw e (search rules) }
