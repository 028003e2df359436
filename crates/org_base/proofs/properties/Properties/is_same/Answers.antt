use Rattle.std.proofs.Common.{refl}
use Rattle.org_base.proofs.SameLemmas.{parts_decided, first_decides, second_decides, seen_decides}
use Rattle.org_base.proofs.properties.Properties.is_same.Goals as goal

pub returns-then-is_same : goal.returns-then-is_same
returns-then-is_same c =
    let x = c.self.inside in
    let y = c.other.inside in
    let both = parts_decided x.names y.names x.values.items y.values.items _ c.self.invariant.as_many c.other.invariant.as_many c.is_same.ensures.value in
    record { value = seen_decides _ c.self.view_is c.other.view_is (second_decides _ _ _ c.if-is_same.true c.eq.ensures both) }

pub returns-else-is_same : goal.returns-else-is_same
returns-else-is_same c =
    let x = c.self.inside in
    let y = c.other.inside in
    let both = parts_decided x.names y.names x.values.items y.values.items _ c.self.invariant.as_many c.other.invariant.as_many c.is_same.ensures.value in
    record { value = seen_decides _ c.self.view_is c.other.view_is (first_decides _ _ _ c.if-is_same.false refl both) }
