use Rattle.std.proofs.Common.{◌≡◌, ◌∙◌, ap, sym, subst, drop, length, ℕ, ◌≤◌}
use Rattle.std.specs.Prelude.{Option, IsSomeAnd}
use Rattle.org_stamp.specs.declared.stamp.Stamp.{Stamp}
use Rattle.org_stamp.specs.Read.{stamp_of}
use Rattle.org_stamp.proofs.ReadLemmas.{found_at, stamp_longest}
use Rattle.org_stamp.proofs.CanPrintLemmas.{stamp_bounds}
use Rattle.org_stamp.proofs.read.read_stamp.Goals as goal

answer : (c : goal.After-stamp_of) → c.stamp_of.result ≡ stamp_of (drop c.args.at c.args.line.now)
answer c = c.stamp_of.ensures.value ∙ ap stamp_of c.split_at.ensures.back

pub returns-clause-found : goal.returns-clause-found
returns-clause-found c = found_at c.stamp_of.result (drop c.args.at c.args.line.now) (answer c)

pub returns-clause-longest : goal.returns-clause-longest
returns-clause-longest c = λ bytes rest s split stamp.
    subst (λ (o : Option (Stamp × ℕ)). IsSomeAnd o (λ r. (length bytes ≤ r.1) × (length bytes ≡ r.1 → s ≡ r.0)))
    (sym (answer c ∙ ap stamp_of split)) (stamp_longest bytes rest s stamp)

pub returns-clause-bounds : goal.returns-clause-bounds
returns-clause-bounds c = stamp_bounds c.stamp_of.result (drop c.args.at c.args.line.now) (answer c)
