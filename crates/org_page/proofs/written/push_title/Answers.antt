use Rattle.std.proofs.Common.{chars}
use Rattle.std.specs.String.{string_bytes}
use lib.Utf8.{encode}
use Rattle.org_page.specs.Characters.{part_text}
use Rattle.org_page.specs.Pieces.{title_begin, title_middle, title_end}
use Rattle.org_page.specs.declared.character.Part.TheVariants.{Words}
use Rattle.org_page.proofs.WrittenLemmas.{five_told}
use Rattle.org_page.proofs.written.push_title.Goals as goal

pub returns : goal.returns
unfolding encode
returns c =
    let title = c.args.title.now in
    let link = rw c.as_str.ensures.value at c.in_ok-push_part.ensures in
    let words = rw c.as_str-2.ensures.value at c.in_ok-push_part-2.ensures in
    five_told _ _ _ _ _ _ title_begin (part_text Words (chars (string_bytes title.link))) (title_middle title.is_done) (part_text Words (chars (string_bytes title.words))) (title_end title.is_done)
    c.in_ok-push_str.ensures.bytes link c.in_ok-push_title_middle.ensures words c.in_ok-push_title_end.ensures
