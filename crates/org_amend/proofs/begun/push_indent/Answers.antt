-- White space is text.
use Rattle.std.proofs.Common.{take, sym, subst}
use Rattle.std.specs.Str.{IsUtf8}
use Rattle.org_amend.proofs.IndentLemmas.{indent_is_text}
use Rattle.org_amend.proofs.begun.push_indent.Goals as goal

pub push_bytes-requires : goal.push_bytes-requires
push_bytes-requires c = record { utf8 = subst (λ n. IsUtf8 (take n c.args.line.now)) (sym c.leading_spaces.ensures.value) (indent_is_text c.args.line.now) }
