use Rattle.std.proofs.Common.{◌≡◌, ◌∙◌, ◌++◌, ap, string_bytes, rules}
use Rattle.std.proofs.lemmas.Str.{IsUtf8-string_bytes}
use Rattle.org_look.specs.Bars.{times}
use Rattle.org_look.specs.Signs.{sign_text}
use Rattle.org_look.specs.Widths.{columns_of}
use Rattle.org_look.proofs.BarLemmas.{more_wide}
use Rattle.org_look.proofs.rule.push_times.Goals as goal

pub returns-clause-wide : goal.returns-clause-wide
returns-clause-wide c =
    let e : string_bytes c.loop-time.out ≡ string_bytes c.args.out.now ++ times c.args.count (sign_text c.args.signs c.args.sign) = search rules in
    ap columns_of e ∙ more_wide c.args.signs c.args.sign c.args.count (string_bytes c.args.out.now) (IsUtf8-string_bytes c.args.out.now)
