-- Exit statuses after acts.
use Rattle.std.proofs.Common.{◌≡◌, ℕ, suc, Bool, true, false}
use Rattle.std.specs.Prelude.{if◌then◌else◌}
use Rattle.org_act.specs.declared.amendment.Unamended.{Unamended}
use Rattle.org_act.specs.declared.amendment.Unamended.TheVariants.{Refused, Unsaved}
use Rattle.orgq_messages.specs.Exit.{is_memory, unamended_status, wants_memory}

neither : (b : Bool) (x y : ℕ) → (if b then suc x else suc y) ≡ 0 → ⊥
neither true x y e = cc
neither false x y e = cc

-- what wasn't done doesn't end with 0
pub never_0 : (why : Unamended) → unamended_status why ≡ 0 → ⊥
never_0 (Refused why) e = neither (wants_memory why) 3 1 e
never_0 (Unsaved why) e = neither (is_memory why.why) 3 4 e
