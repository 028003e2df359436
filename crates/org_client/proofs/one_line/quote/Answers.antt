use Rattle.std.proofs.Common.{◌≡◌, rules, subst, sym}
use Rattle.org_visible.specs.Clean.{IsClean}
use Rattle.org_client.specs.Json.{quoted}
use Rattle.org_client.proofs.JsonLemmas.{quoted_clean}
use Rattle.org_client.proofs.one_line.quote.Goals as goal

pub returns-clause-line : goal.returns-clause-line
returns-clause-line c =
    let is : c.push-2.new.self.items ≡ quoted c.args.text.now = search rules in
    subst IsClean (sym is) (quoted_clean c.args.text.now)
