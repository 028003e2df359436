use Rattle.std.proofs.Common.{sym, ◌∙◌}
use Rattle.org_base.proofs.SameLemmas.{lists_decided, first_decides, second_decides, seen_decides}
use Rattle.org_base.proofs.jagged_vec.JaggedVec+u8.is_same.Goals as goal

pub returns-then-eq : goal.returns-then-eq
returns-then-eq c =
    let x = c.self.inside in
    let y = c.other.inside in
    let both = lists_decided x.ends.items y.ends.items x.items.items y.items.items c.self.invariant c.other.invariant in
    record { value = seen_decides _ c.self.view_is c.other.view_is (second_decides _ _ _ (sym c.eq.ensures ∙ c.if-eq.true) c.eq-then-eq.ensures both) }

pub returns-else-eq : goal.returns-else-eq
returns-else-eq c =
    let x = c.self.inside in
    let y = c.other.inside in
    let both = lists_decided x.ends.items y.ends.items x.items.items y.items.items c.self.invariant c.other.invariant in
    record { value = seen_decides _ c.self.view_is c.other.view_is (first_decides _ _ _ (sym c.eq.ensures ∙ c.if-eq.false) c.eq.ensures both) }
