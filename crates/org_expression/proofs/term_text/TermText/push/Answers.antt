use Rattle.std.proofs.Common.{◌++◌, ◌∷◌, [], chars, ap, ◌∙◌}
use Rattle.std.specs.Prelude.{string_bytes}
use Rattle.std.proofs.lemmas.Str.{IsUtf8-string_bytes}
use Rattle.org_expression.proofs.Chars.{chars-push}
use Rattle.org_expression.proofs.term_text.TermText.push.Goals as goal

pub returns-clause-ok : goal.returns-clause-ok
returns-clause-ok c =
    ap chars c.in_ok-push.ensures.bytes
    ∙ chars-push (string_bytes c.self.inside.text) c.args.c (IsUtf8-string_bytes c.self.inside.text) (c.ranges.c.0)
    ∙ ap (λ q. q ++ c.args.c ∷ []) c.self.view_is
