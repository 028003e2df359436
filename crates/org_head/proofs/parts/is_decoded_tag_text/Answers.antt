-- What `from_utf8` refuses is no UTF-8.
use Rattle.std.proofs.Common.{◌∙◌, ap, sym, ◌&&◌}
use Rattle.std.proofs.lemmas.Bool.{false_from_ne_true}
use Rattle.std.proofs.lemmas.Str.{IsUtf8-from_is_utf8, is_utf8-from_IsUtf8}
use Rattle.std.specs.Str.{is_utf8}
use Rattle.org_head.specs.Parts.{are_tag_chars}
use Rattle.org_head.proofs.parts.is_decoded_tag_text.Goals as goal

pub returns-in-Ok : goal.returns-in-Ok
returns-in-Ok c =
    let w = c.args.word.now in
    record { value = c.are_tag_chars.ensures.value ∙ ap are_tag_chars c.in-Ok.ensures.cases.0 ∙ sym (ap (λ b. b && are_tag_chars w) (is_utf8-from_IsUtf8 w c.in-Ok.ensures.cases.1)) }

pub returns-in-Err : goal.returns-in-Err
returns-in-Err c =
    let w = c.args.word.now in
    record { value = sym (ap (λ b. b && are_tag_chars w) (false_from_ne_true (is_utf8 w) (λ e. c.in-Err.ensures.cases.0 (IsUtf8-from_is_utf8 w e)))) }
