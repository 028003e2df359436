-- The texts so far are written.
use Rattle.std.proofs.Common.{◌≡◌, ◌++◌, map, take}
use Rattle.org_client.specs.Json.{items_with}
use Rattle.org_visible.specs.Visible.{visible}
use Rattle.org_visible.specs.declared.visible.Escape.TheVariants.{Caret}
use Rattle.org_client.proofs.one_line.OneLine.push_joined.Given as goal

abbrev pub invariant-loop-place : goal.invariant-loop-place
invariant-loop-place l = l.self ≡ l.fn.self ++ items_with l.between (map (visible Caret) (take l.place l.texts))
