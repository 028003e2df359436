use Rattle.std.proofs.Common.{[], ◌∷◌, chars}
use lib.Utf8.{encode}
use Rattle.org_page.specs.Characters.{part_text}
use Rattle.org_page.specs.Pieces.{attributes_text}
use Rattle.org_page.specs.declared.character.Part.TheVariants.{Name}
use Rattle.org_page.proofs.WrittenLemmas.{four_told}
use Rattle.org_page.proofs.written.push_tag.Goals as goal

pub returns : goal.returns
unfolding encode
returns c =
    four_told _ _ _ _ _ (60 ∷ []) (part_text Name (chars c.args.name.now)) (attributes_text c.args.attributes.now) (62 ∷ [])
    c.in_ok-push.ensures.bytes c.in_ok-push_part.ensures c.in_ok-push_attributes.ensures c.in_ok-push-2.ensures.bytes
