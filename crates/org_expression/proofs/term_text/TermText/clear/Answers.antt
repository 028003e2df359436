use Rattle.std.proofs.Common.{chars, ap, ◌∙◌}
use Rattle.std.proofs.lemmas.Str.{chars-nil}
use Rattle.org_expression.proofs.term_text.TermText.clear.Goals as goal

pub returns : goal.returns
returns c = record { value = ap chars c.clear.ensures.bytes ∙ chars-nil }
