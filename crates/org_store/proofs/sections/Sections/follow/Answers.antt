use Rattle.std.proofs.Common.{◌≡◌, ◌-◌, length, ap, sym, subst, arith}
use Rattle.org_store.specs.CachedOutline.{Follows, IsWithStaleRange}
use Rattle.org_store.proofs.CachedOutlineLemmas.{shows_followed, shows_opened}
use Rattle.org_store.proofs.sections.Sections.follow.Goals as goal

pub invariant_of-self-then-not-stays-3 : goal.invariant_of-self-then-not-stays-3
invariant_of-self-then-not-stays-3 c =
    let was = c.self.inside.list in
    let now' = c.args.changed.list in
    let follows = subst (λ ks. Follows ks c.args.changed.first c.args.changed.end now') (sym c.self.view_is) c.requires.follows in
    let valid_back : c.len-3.result - c.args.changed.end ≡ length was - c.args.changed.end = ap (λ n. n - c.args.changed.end) c.len-3.ensures.value in
    let with_stale_range = subst (λ s. IsWithStaleRange c.args.changed.first (c.len-3.result - c.args.changed.end) s c.with_stale_range.result) c.take.ensures.value c.with_stale_range.ensures.value in
    shows_opened c.self.inside.cached c.with_stale_range.result was now' c.args.changed.first c.args.changed.end (c.len-3.result - c.args.changed.end) valid_back with_stale_range c.self.invariant follows

pub invariant_of-self-else-not-stays : goal.invariant_of-self-else-not-stays
invariant_of-self-else-not-stays c =
    let was = c.self.inside.list in
    let follows = subst (λ ks. Follows ks c.args.changed.first c.args.changed.end c.args.changed.list) (sym c.self.view_is) c.requires.follows in
    let many : length c.args.changed.list ≡ length was = omega (arith, c.len.ensures.value, c.len-2.ensures.value, c.if-not-stays.false) in
    shows_followed c.self.inside.cached was c.args.changed.list c.args.changed.first c.args.changed.end c.self.invariant follows many
