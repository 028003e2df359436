use Rattle.std.proofs.Common.{◌≡◌, rules, string_bytes}
use Rattle.org_stamp.specs.Print.{stamp_text}
use Rattle.org_stamp.proofs.PrintedLemmas.{again}
use Rattle.org_stamp.proofs.print.print_stamp.Goals as goal

pub returns-clause-again : goal.returns-clause-again
returns-clause-again c =
    let e : string_bytes c.push_last.new.out ≡ stamp_text c.args.stamp.now = search rules in
    λ bytes is. again (string_bytes c.push_last.new.out) bytes c.args.stamp.now e is
