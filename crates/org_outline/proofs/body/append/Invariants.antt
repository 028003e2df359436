use Rattle.std.proofs.Common.{◌≡◌, ◌++◌, map, take}
use Rattle.org_outline.proofs.body.append.Given as goal

abbrev pub invariant-loop-entry : goal.invariant-loop-entry
invariant-loop-entry l = map (λ e. e.value) l.list.items ≡ map (λ e. e.value) l.initial.list.items ++ map (λ e. e.value) (take l.entry-index l.more)
