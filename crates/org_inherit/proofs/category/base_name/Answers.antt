use Rattle.std.proofs.Common.{◌≡◌, ◌∙◌, ◌-◌, ℕ, length, ap, sym, subst, arith}
use Rattle.std.specs.List.{suffix_len}
use Rattle.std.specs.Str.{IsCharBoundary}
use Rattle.org_inherit.proofs.CategoryLemmas.{is_other, behind_mark}
use Rattle.org_inherit.proofs.category.base_name.Goals as goal

pub range_from-requires : goal.range_from-requires
range_from-requires c =
    let name = c.args.name.now in
    let behind : c.bytes_behind-behind.result ≡ suffix_len (is_other 47) name = c.bytes_behind-behind.ensures.value ∙ ap (suffix_len (is_other 47)) c.as_bytes.ensures.value in
    λ _. subst (λ (k : ℕ). IsCharBoundary name (length name - k)) (sym behind) (behind_mark 47 name (omega arith) c.utf8.name)
