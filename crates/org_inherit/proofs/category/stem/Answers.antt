use Rattle.std.proofs.Common.{◌≡◌, ◌∙◌, ◌-◌, ◌<◌, ℕ, length, ap, sym, subst, arith}
use Rattle.std.specs.List.{suffix_len}
use Rattle.std.specs.Str.{IsCharBoundary}
use Rattle.org_inherit.proofs.CategoryLemmas.{is_other, before_mark}
use Rattle.org_inherit.proofs.category.stem.Goals as goal

pub range-requires-clause-end_boundary : goal.range-requires-clause-end_boundary
range-requires-clause-end_boundary c =
    let base = c.args.base.now in
    let behind : c.bytes_behind-behind.result ≡ suffix_len (is_other 46) base = c.bytes_behind-behind.ensures.value ∙ ap (suffix_len (is_other 46)) c.as_bytes.ensures.value in
    let less : suffix_len (is_other 46) base < length base = omega arith in
    subst (λ (k : ℕ). IsCharBoundary base (length base - k - 1)) (sym behind) (before_mark 46 base (omega arith) less)
