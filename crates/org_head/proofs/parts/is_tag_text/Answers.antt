use Rattle.std.proofs.Common.{sym, ◌∙◌}
use Rattle.org_head.proofs.PlainTags.{plain_tag_text}
use Rattle.org_head.proofs.parts.is_tag_text.Goals as goal

pub returns-then-are_plain_tag_chars : goal.returns-then-are_plain_tag_chars
returns-then-are_plain_tag_chars c =
    let all_plain = sym c.if-are_plain_tag_chars.ensures.value in
    record { value = c.are_plain_tag_chars.ensures.value ∙ (all_plain ∙ sym (plain_tag_text c.args.word.now all_plain)) }
