-- Each member behind the one before.
use Rattle.std.proofs.Common.{codes}
use Rattle.org_check.proofs.PrintedLemmas.{five_put}
use Rattle.org_check.specs.Printed.{number_member, other_member}
use Rattle.org_check.specs.Sentences.{at_of, column_of, other_line_of}
use Rattle.org_check.proofs.show.push_place.Goals as goal

pub returns : goal.returns
returns c =
    let f = c.args.finding.now in
    let line = number_member (codes ",\"line\":") f.shown.line in
    let column = number_member (codes ",\"column\":") (column_of f) in
    let byte = number_member (codes ",\"byte\":") (at_of f) in
    let size = number_member (codes ",\"length\":") f.shown.len in
    record {
      ok = five_put c.args.out.now line column byte size (other_member (other_line_of f.cause)) _ _ _ _ _ c.in_ok-push_line_number.ensures.ok (rw c.column.ensures.value at c.in_ok-push_count.ensures.ok)
          (rw c.at.ensures.value at c.in_ok-push_count-2.ensures.ok) c.in_ok-push_count-3.ensures.ok (rw c.other_line.ensures.value at c.in_ok-push_other.ensures.ok);
    }
