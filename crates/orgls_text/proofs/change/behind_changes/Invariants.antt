use Rattle.std.proofs.Common.{◌≡◌, drop}
use Rattle.orgls_text.specs.Documents.{changed}
use Rattle.orgls_text.proofs.change.behind_changes.Given as goal

-- what the changes that are left make of the text so far is what all make of the first
abbrev pub invariant-loop-change : goal.invariant-loop-change
invariant-loop-change l = changed l.encoding (drop l.change-index l.changes) l.new ≡ changed l.encoding l.changes l.fn.text
