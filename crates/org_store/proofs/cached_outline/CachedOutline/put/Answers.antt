use Rattle.std.proofs.Common.{◌≡◌, ◌∷◌, ◌+◌, ◌-◌, [], length, sym, subst, arith}
use Rattle.std.specs.Prelude.{Some}
use Rattle.std.specs.List.{splice}
use Rattle.org_store.specs.CachedOutline.{IsCachedPlace, Stands, widened}
use Rattle.org_store.proofs.CachedOutlineLemmas.{stands_opened, stands_put, stands_within}
use Rattle.org_store.proofs.cached_outline.CachedOutline.put.Goals as goal

pub returns-in_default : goal.returns-in_default
returns-in_default c = record {
  value = λ list many h.
      let s = c.args.self in
      let at = subst (λ n. IsCachedPlace s.stale c.args.place n (length s.outline) c.place_of.result) (sym many) c.place_of.ensures.value in
      stands_within s.stale c.args.place c.args.section.now list s.outline c.place_of.result c.in_default.not-Some at h;
}

pub returns-then-not-is_put_at_once : goal.returns-then-not-is_put_at_once
returns-then-not-is_put_at_once c = record {
  value = λ list many h.
      let s = c.args.self in
      let now' = splice list c.args.place (c.args.place + 1) (c.args.section.now ∷ []) in
      let valid_back : length list - (c.args.place + 1) ≡ c.args.count - c.args.place - 1 = omega (arith, many, c.requires.within) in
      let with_stale_range = stands_opened s.stale list (c.args.section.now ∷ []) s.outline c.args.place (c.args.place + 1) (omega arith) (omega (arith, many, c.requires.within)) h in
      subst (λ es. Stands c.with_stale_range.result.stale now' es) (sym c.with_stale_range.ensures.outline)
      (subst (λ g. Stands g now' s.outline) (sym c.with_stale_range.ensures.stale) (subst (λ n. Stands (Some (widened c.args.place n s.stale)) now' s.outline) valid_back with_stale_range));
}

pub returns-in-Ok : goal.returns-in-Ok
returns-in-Ok c = record {
  value = λ list many h.
      let s = c.args.self in
      let at = subst (λ n. IsCachedPlace s.stale c.args.place n (length s.outline) c.place_of.result) (sym many) c.place_of.ensures.value in
      let put = stands_put s.stale c.args.place c.in-Some.at c.args.section.now list s.outline c.place_of.result c.in-Some.is (omega (arith, many, c.requires.within)) at h in
      subst (λ es. Stands s.stale (splice list c.args.place (c.args.place + 1) (c.args.section.now ∷ [])) es) (sym c.in-Ok.ensures.ok) put;
}
