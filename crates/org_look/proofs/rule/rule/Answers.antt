use Rattle.std.proofs.Common.{◌≡◌, ◌∙◌, ap, string_bytes, arith}
use Rattle.org_look.specs.Widths.{columns_of}
use Rattle.org_look.proofs.CutLemmas.{nothing_wide}
use Rattle.org_look.proofs.rule.rule.Goals as goal

pub loop-day-init : goal.loop-day-init
loop-day-init c =
    let nothing : columns_of (string_bytes c.new-text.result) ≡ 0 = ap columns_of c.new-text.ensures.bytes ∙ nothing_wide in
    omega (arith, nothing, c.in_ok-push_times.ensures.wide, c.in_ok-push_times-2.ensures.wide)
