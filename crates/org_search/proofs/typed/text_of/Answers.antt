use Rattle.std.proofs.Common.{◌≡◌, ap, refl, true, false, Some}
use Rattle.std.specs.Str.{is_utf8}
use Rattle.std.proofs.lemmas.Bool.{false_from_ne_true}
use Rattle.std.proofs.lemmas.Str.{is_utf8-from_IsUtf8, IsUtf8-from_is_utf8}
use Rattle.org_search.proofs.typed.text_of.Goals as goal

pub returns-in-Ok : goal.returns-in-Ok
returns-in-Ok c =
    let utf8 : is_utf8 c.args.bytes.now ≡ true = is_utf8-from_IsUtf8 _ c.in-Ok.ensures.cases.1 in
    record { value = rw utf8 (ap (λ t. Some t) c.in-Ok.ensures.cases.0) }

pub returns-in-Err : goal.returns-in-Err
returns-in-Err c =
    let utf8 : is_utf8 c.args.bytes.now ≡ false = false_from_ne_true _ (λ h. c.in-Err.ensures.cases.0 (IsUtf8-from_is_utf8 _ h)) in
    record { value = rw utf8 refl }
