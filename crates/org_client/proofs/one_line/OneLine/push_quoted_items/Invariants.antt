-- The texts so far are written.
use Rattle.std.proofs.Common.{◌≡◌, ◌++◌, map, take}
use Rattle.org_client.specs.Json.{items_with, quoted}
use Rattle.org_client.proofs.one_line.OneLine.push_quoted_items.Given as goal

abbrev pub invariant-loop-place : goal.invariant-loop-place
invariant-loop-place l = l.self ≡ l.fn.self ++ items_with 44 (map quoted (take l.place l.texts))
