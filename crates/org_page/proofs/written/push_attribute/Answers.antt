use Rattle.std.proofs.Common.{[], ◌∷◌, chars, codes}
use Rattle.std.specs.String.{string_bytes}
use lib.Utf8.{encode}
use Rattle.org_page.specs.Characters.{part_text}
use Rattle.org_page.specs.declared.character.Part.TheVariants.{Name, Words}
use Rattle.org_page.proofs.WrittenLemmas.{five_told}
use Rattle.org_page.proofs.written.push_attribute.Goals as goal

pub returns : goal.returns
unfolding encode
returns c =
    let attribute = c.args.attribute.now in
    let value = rw c.as_str.ensures.value at c.in_ok-push_part-2.ensures in
    five_told _ _ _ _ _ _ (32 ∷ []) (part_text Name (chars attribute.name.now)) (61 ∷ 34 ∷ []) (part_text Words (chars (string_bytes attribute.value))) (34 ∷ [])
    c.in_ok-push.ensures.bytes c.in_ok-push_part.ensures c.in_ok-push_str.ensures.bytes value c.in_ok-push-2.ensures.bytes
