use Rattle.std.proofs.Common.{◌≡◌, ◌∷◌, ◌+◌, ◌++◌, ◌∙◌, ap, sym, drop, encode_utf8_all}
use Rattle.std.specs.String.{string_bytes}
use Rattle.org_page.specs.Pieces.{attributes_text, attribute_text}
use Rattle.org_page.proofs.WrittenLemmas.{drop_item, more_told}
use Rattle.org_page.proofs.written.push_attributes.Goals as goal

pub loop-attribute-preserved : goal.loop-attribute-preserved
loop-attribute-preserved c =
    let i = c.loop-attribute.attribute-index in
    let attributes = c.args.attributes.now in
    let attribute = c.attribute-item.result in
    let cut : drop i attributes ≡ attribute ∷ drop (i + 1) attributes = drop_item attributes i attribute c.loop-attribute-test.true c.attribute-item.is in
    more_told _ _ (attribute_text attribute) _ _ c.in_ok-push_attribute.ensures
    (ap (λ t. string_bytes c.loop-attribute.out ++ encode_utf8_all (attributes_text t)) (sym cut) ∙ c.loop-attribute.invariant)
