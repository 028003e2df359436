-- Members that are put one after the other.
use Rattle.std.proofs.Common.{◌≡◌, ◌++◌, ℕ, List, append_assoc, subst, sym}
use Rattle.std.specs.Prelude.{OnOk, Option, Result}
use Rattle.org_client.specs.Members.{MembersView, Puts}

-- some, and then others
pub puts_after : {T E : Type 0} (result : Result T E) (old mid new : MembersView) (some : List ℕ) (others : Option (List ℕ) → List ℕ) →
    mid ≡ record { only = old.only; bytes = old.bytes ++ some } → Puts result mid new (others mid.only) → Puts result old new (some ++ others old.only)
puts_after result old mid new some others first rest =
    subst (λ (bytes : List ℕ). OnOk result (new ≡ record { only = old.only; bytes = bytes })) (append_assoc old.bytes some (others old.only))
    (subst (λ (m : MembersView). Puts result m new (others m.only)) first rest)

-- some, others, and the last ones
pub puts_three : {T E : Type 0} (result : Result T E) (old mid end new : MembersView) (some : List ℕ) (others last : Option (List ℕ) → List ℕ) →
    mid ≡ record { only = old.only; bytes = old.bytes ++ some } → end ≡ record { only = mid.only; bytes = mid.bytes ++ others mid.only } →
    Puts result end new (last end.only) → Puts result old new (some ++ others old.only ++ last old.only)
puts_three result old mid end new some others last first second third =
    subst (λ (bytes : List ℕ). Puts result old new bytes) (sym (append_assoc some (others old.only) (last old.only)))
    (puts_after result old mid new some (λ only. others only ++ last only) first (puts_after result mid end new (others mid.only) last second third))

-- the same of what was put by both
pub puts_both : (old mid new : MembersView) (some : List ℕ) (others : Option (List ℕ) → List ℕ) →
    mid ≡ record { only = old.only; bytes = old.bytes ++ some } → new ≡ record { only = mid.only; bytes = mid.bytes ++ others mid.only } →
    new ≡ record { only = old.only; bytes = old.bytes ++ (some ++ others old.only) }
puts_both old mid new some others first second =
    subst (λ (bytes : List ℕ). new ≡ record { only = old.only; bytes = bytes }) (append_assoc old.bytes some (others old.only))
    (subst (λ (m : MembersView). new ≡ record { only = m.only; bytes = m.bytes ++ others m.only }) first second)
