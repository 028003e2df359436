-- What is put in the place of a drawer.
use Rattle.std.proofs.Common.{◌≡◌, ◌∙◌, ℕ, Bool, true, false, List, refl, sym, ap}
use Rattle.std.specs.Prelude.{Option, Some, None, if◌then◌else◌}
use Rattle.std.specs.Str.{IsUtf8, is_utf8}
use Rattle.std.proofs.lemmas.Str.{IsUtf8-from_is_utf8, is_utf8-from_IsUtf8}
use Rattle.std.specs.Borrow.{Bor}
use Rattle.std.specs.Option.{option_map}
use Rattle.org_amend.specs.DrawerPuts.{Put, drawer_with, made_drawer, new_drawer, put_text}
use Rattle.org_amend.specs.declared.property_change.PropertyChange.{PropertyChange}

pub put_is : (deleted : ℕ) (own bytes : List ℕ) → own ≡ bytes → IsUtf8 bytes → ◌≡◌ {A = Option Put} (Some (record { deleted = deleted; inserted = own })) (put_text deleted bytes)
put_is deleted own bytes same utf8 = ap (λ (b : List ℕ). Some (record { deleted = deleted; inserted = b })) same ∙ sym (rw (is_utf8-from_IsUtf8 bytes utf8) refl)

pub put_none : (deleted : ℕ) (bytes : List ℕ) → (IsUtf8 bytes → ⊥) → ◌≡◌ {A = Option Put} None (put_text deleted bytes)
put_none deleted bytes other = by (is_utf8 bytes) refl
  where
    by : (b : Bool) → is_utf8 bytes ≡ b → ◌≡◌ {A = Option Put} None (if b then Some (record { deleted = deleted; inserted = bytes }) else None)
    by true e = absurd (other (IsUtf8-from_is_utf8 bytes e))
    by false e = refl

-- a new drawer for a value
pub new_with : (change : PropertyChange) (end name value : List ℕ) (v : Bor (List ℕ)) → name ≡ change.name.now → change.value ≡ Some v → value ≡ v.now → drawer_with name value end ≡ new_drawer change end
new_with change end name value v named is same =
    ap (λ (n : List ℕ). drawer_with n value end) named
    ∙ (ap (λ (w : List ℕ). drawer_with change.name.now w end) same ∙ sym (ap (λ (o : Option (Bor (List ℕ))). made_drawer change.name.now (option_map (λ x. x.now) o) end) is))
