use Rattle.std.proofs.Common.{◌≡◌, ◌++◌, map, take}
use Rattle.org_settings.proofs.draft.push_all.Given as goal

abbrev pub invariant-loop-text : goal.invariant-loop-text
invariant-loop-text l = l.texts ≡ l.fn.texts ++ map (λ x. x.now) (take l.text-index l.more)
