use Rattle.std.proofs.Common.{◌≡◌, ◌==◌, drop}
use Rattle.std.specs.List.{list_any}
use Rattle.org_search.proofs.refusal.has_line_feed.Given as goal

abbrev pub invariant-loop-byte : goal.invariant-loop-byte
invariant-loop-byte l = list_any (λ b. b == 10) (drop l.byte-index l.word) ≡ list_any (λ b. b == 10) l.word
