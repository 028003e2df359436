use Rattle.std.proofs.Common.{◌≡◌, ◌∙◌, ◌-◌, length, ap, subst}
use Rattle.std.specs.List.{between, splice}
use Rattle.org_store.specs.Sections.{entries_in}
use Rattle.org_store.specs.CachedOutline.{Stands}
use Rattle.org_store.proofs.CachedOutlineLemmas.{stands_all, stands_whole}
use Rattle.org_store.proofs.cached_outline.CachedOutline.refresh.Goals as goal

pub returns-in_default-clause-value : goal.returns-in_default-clause-value
returns-in_default-clause-value c = stands_all c.args.self.stale c.args.list.now c.args.self.outline c.in_default.not-Some c.requires.stands c.requires.read

pub returns-clause-value : goal.returns-clause-value
returns-clause-value c =
    let es = c.args.self.outline in
    let list = c.args.list.now in
    let stale = c.in-Some.stale in
    let h = subst (λ g. Stands g list es) c.in-Some.is c.requires.stands in
    let count : c.count.result ≡ length es = c.count.ensures.value ∙ ap length c.outline-2.ensures.value in
    let own : c.in_ok-entries.entries ≡ entries_in (between stale.valid_front (length list - stale.valid_back) list) = c.in_ok-entries.ensures.value ∙ ap (λ n. entries_in (between stale.valid_front (n - stale.valid_back) list)) c.len.ensures.value in
    c.in_ok-replace.ensures.ok ∙ (λ i. splice es stale.valid_front (count i - stale.valid_back) (own i)) ∙ stands_whole stale list es h c.requires.read
