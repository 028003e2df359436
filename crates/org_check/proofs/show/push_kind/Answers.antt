-- Each member behind the one before.
use Rattle.std.proofs.Common.{codes}
use Rattle.org_check.proofs.PrintedLemmas.{three_put}
use Rattle.org_check.specs.Chosen.{severity_name}
use Rattle.org_check.specs.Kinds.{name_of, severity_of}
use Rattle.org_check.specs.Printed.{string_member}
use Rattle.org_check.proofs.show.push_kind.Goals as goal

pub returns : goal.returns
returns c =
    let kind = string_member (codes "{\"kind\":") (name_of c.args.kind) in
    let severity = string_member (codes ",\"severity\":") (severity_name (severity_of c.args.kind)) in
    let file = string_member (codes ",\"file\":") c.args.name.now in
    record {
      ok = three_put c.args.out.now kind severity file _ _ _ (rw c.name.ensures.value at c.in_ok-push_word.ensures.ok)
          (rw (c.name-2.ensures.value, c.severity.ensures.value) at c.in_ok-push_word-2.ensures.ok) c.in_ok-push_word-3.ensures.ok;
    }
