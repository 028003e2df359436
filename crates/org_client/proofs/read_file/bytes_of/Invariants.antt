-- The lines so far, and those that are left, are all.
use Rattle.std.proofs.Common.{◌≡◌, ◌++◌, map}
use Rattle.std.specs.List.{concat}
use Rattle.org_base.specs.Spans.{bytes_in}
use Rattle.org_client.proofs.read_file.bytes_of.Given as goal

abbrev pub invariant-loop-line : goal.invariant-loop-line
invariant-loop-line g l = l.bytes.items ++ concat (map (λ c. c.bytes) l.line-iterator) ≡ bytes_in (g.T.Text.content l.text) l.fn.part
