use Rattle.std.proofs.Common.{◌≡◌, ◌∙◌, sym, ap, rules}
use Rattle.std.specs.String.{string_bytes}
use Rattle.org_look.specs.Cuts.{spread_text}
use Rattle.org_look.specs.Widths.{columns_of}
use Rattle.org_look.proofs.CutLemmas.{spread_is_wide}
use Rattle.org_look.proofs.fill.fill_front.Goals as goal

pub returns-clause-wide : goal.returns-clause-wide
returns-clause-wide c =
    let e : string_bytes c.of.result.text ≡ spread_text c.args.columns c.args.text.now = search rules in
    sym c.of.result.is_wide ∙ ap columns_of e ∙ spread_is_wide c.args.columns c.args.text.now c.utf8.text
