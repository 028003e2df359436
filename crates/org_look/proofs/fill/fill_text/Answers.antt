use Rattle.std.proofs.Common.{◌≡◌, ◌∙◌, sym, ap, rules}
use Rattle.std.specs.String.{string_bytes}
use Rattle.org_look.specs.Cuts.{filled_text}
use Rattle.org_look.specs.Widths.{columns_of}
use Rattle.org_look.proofs.CutLemmas.{filled_is_wide}
use Rattle.org_look.proofs.fill.fill_text.Goals as goal

pub returns-clause-wide : goal.returns-clause-wide
returns-clause-wide c =
    let e : string_bytes c.of.result.text ≡ filled_text c.args.signs c.args.columns c.args.text.now = search rules in
    sym c.of.result.is_wide ∙ ap columns_of e ∙ filled_is_wide c.args.signs c.args.columns c.args.text.now c.requires.some c.utf8.text
