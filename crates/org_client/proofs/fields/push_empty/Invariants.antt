-- The fields so far are written.
use Rattle.std.proofs.Common.{◌≡◌, ◌++◌}
use Rattle.org_client.specs.TableFields.{empty_fields}
use Rattle.org_client.proofs.fields.push_empty.Given as goal

abbrev pub invariant-loop-place : goal.invariant-loop-place
invariant-loop-place l = l.line ≡ l.fn.line ++ empty_fields l._place
