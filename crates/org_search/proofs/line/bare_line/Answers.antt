use Rattle.std.proofs.Common.{◌≡◌, ◌∙◌, ap, refl, sym, true, false}
use Rattle.std.specs.Str.{is_utf8}
use Rattle.std.proofs.lemmas.Bool.{false_from_ne_true}
use Rattle.std.proofs.lemmas.Str.{is_utf8-from_IsUtf8, IsUtf8-from_is_utf8}
use Rattle.org_search.specs.Holds.{without_ending}
use Rattle.org_search.proofs.line.bare_line.Goals as goal

pub returns-in-Ok : goal.returns-in-Ok
returns-in-Ok c =
    let same = c.without_ending.ensures.value in
    let utf8 : is_utf8 (without_ending c.args.line.now) ≡ true = ap is_utf8 (sym same) ∙ is_utf8-from_IsUtf8 _ c.in-Ok.ensures.cases.1 in
    record { value = rw utf8 (c.in-Ok.ensures.cases.0 ∙ same) }

pub returns-in-Err : goal.returns-in-Err
returns-in-Err c =
    let same = c.without_ending.ensures.value in
    let utf8 : is_utf8 (without_ending c.args.line.now) ≡ false =
    ap is_utf8 (sym same) ∙ false_from_ne_true _ (λ h. c.in-Err.ensures.cases.0 (IsUtf8-from_is_utf8 _ h)) in
    record { value = rw utf8 refl }
