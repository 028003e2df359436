-- Each part behind the one before.
use Rattle.std.proofs.Common.{codes}
use Rattle.org_check.proofs.PrintedLemmas.{four_put}
use Rattle.org_check.specs.Printed.{kind_members, place_members, string_member}
use Rattle.org_check.proofs.show.push_object.Goals as goal

pub returns : goal.returns
returns c =
    let f = c.args.finding.now in
    record {
      ok = four_put c.args.out.now (kind_members c.args.name.now f.kind) (place_members f) (string_member (codes ",\"text\":") c.args.said.now) (codes "}") _ _ _ _
          c.in_ok-push_kind.ensures.ok c.in_ok-push_place.ensures.ok c.in_ok-push_string.ensures.ok c.in_ok-push_str.ensures.ok;
    }
