use Rattle.std.proofs.Common.{◌≡◌, ◌∙◌, sym, ap, arith}
use Rattle.std.proofs.lemmas.Grind.{common_steps}
use Rattle.std.specs.String.{string_bytes}
use Rattle.org_look.specs.Strips.{line_text}
use Rattle.org_look.specs.Widths.{columns_of}
use Rattle.org_look.proofs.LineLemmas.{lines_add_up}
use Rattle.org_look.proofs.line.join_strips.Goals as goal

pub returns-clause-wide : goal.returns-clause-wide
returns-clause-wide c =
    let e : string_bytes c.of_sheet.result.text ≡ line_text c.args.signs c.args.front.now c.args.strips.now = grind (arith, common_steps) in
    sym c.of_sheet.result.is_wide ∙ ap columns_of e ∙ lines_add_up c.args.signs c.args.front.now c.args.strips.now
