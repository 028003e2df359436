-- Bars take exactly their columns.
use Rattle.std.proofs.Common.{◌≡◌, ℕ, zero, suc, ◌+◌, ◌-◌, add-zero, Bool, cond, List, [], ◌∷◌, ◌++◌, sym, ap, ◌∙◌, arith}
use Rattle.std.specs.Str.{IsUtf8}
use Rattle.std.proofs.lemmas.Str.{IsUtf8-append, IsUtf8-nil}
use Rattle.std.proofs.lemmas.List.{append_assoc, append-nil}
use Rattle.org_look.specs.Bars.{bar_end, times, BarsAreWide}
use Rattle.org_look.specs.Cuts.{cut_text}
use Rattle.org_look.specs.Signs.{sign_text}
use Rattle.org_look.specs.Widths.{columns_of}
use Rattle.org_look.specs.declared.sign.Sign.{Sign}
use Rattle.org_look.specs.declared.sign.Sign.TheVariants.{Bar, Begin, End, From, On}
use Rattle.org_look.specs.declared.sign.Signs.{Signs}
use Rattle.org_look.proofs.CutLemmas.{cut_is_within, nothing_wide}
use Rattle.org_look.proofs.FenceLemmas.{space}
use Rattle.org_look.proofs.SignLemmas.{signs_are_columns, IsUtf8-sign}

IsUtf8-times : (signs : Signs) (sign : Sign) (n : ℕ) → IsUtf8 (times n (sign_text signs sign))
IsUtf8-times signs sign zero = IsUtf8-nil
IsUtf8-times signs sign (suc n) = IsUtf8-append _ _ (IsUtf8-times signs sign n) (IsUtf8-sign signs sign)

pub times_wide : (signs : Signs) (sign : Sign) (n : ℕ) → columns_of (times n (sign_text signs sign)) ≡ n
times_wide signs sign zero = nothing_wide
times_wide signs sign (suc n) =
    let one = signs_are_columns signs sign (times n (sign_text signs sign)) (IsUtf8-times signs sign n) in
    omega (arith, one, times_wide signs sign n)

sign_wide : (signs : Signs) (sign : Sign) → columns_of (sign_text signs sign) ≡ 1
sign_wide signs sign = let one = signs_are_columns signs sign [] IsUtf8-nil in omega (arith, one, nothing_wide)

end_wide : (signs : Signs) (goes_on : Bool) (n : ℕ) → columns_of (bar_end signs goes_on n) ≡ n + 1
end_wide signs goes_on n =
    let one = signs_are_columns signs (cond goes_on On End) (times n (sign_text signs Bar)) (IsUtf8-times signs Bar n) in
    omega (arith, one, times_wide signs Bar n)

pub bars_are_wide : BarsAreWide
bars_are_wide signs is_begun goes_on columns label room utf8 =
    let first : Sign = cond is_begun From Begin in
    let name : List ℕ = cut_text signs (columns - 4) label in
    let within = cut_is_within signs (columns - 4) label (omega arith) utf8 in
    let rest : ℕ = columns - 4 - columns_of name in
    let last : List ℕ = bar_end signs goes_on rest in
    let front : columns_of (sign_text signs first ++ (32 ∷ (name ++ (32 ∷ last)))) ≡ columns_of (sign_text signs first) + (1 + columns_of (name ++ (32 ∷ last))) = space (sign_text signs first) (name ++ (32 ∷ last)) (IsUtf8-sign signs first) in
    let middle : columns_of (name ++ (32 ∷ last)) ≡ columns_of name + (1 + columns_of last) = space name last within.1 in
    front ∙ omega (arith, middle, sign_wide signs first, end_wide signs goes_on rest, within.0, room)

pub more_wide : (signs : Signs) (sign : Sign) (n : ℕ) (before : List ℕ) → IsUtf8 before → columns_of (before ++ times n (sign_text signs sign)) ≡ columns_of before + n
more_wide signs sign zero before utf8 = ap columns_of (append-nil before) ∙ sym (add-zero (columns_of before))
more_wide signs sign (suc n) before utf8 =
    let text : List ℕ = sign_text signs sign in
    let one : columns_of ((before ++ times n text) ++ text) ≡ columns_of (before ++ times n text) + 1 = signs_are_columns signs sign (before ++ times n text) (IsUtf8-append before (times n text) utf8 (IsUtf8-times signs sign n)) in
    ap columns_of (sym (append_assoc before (times n text) text)) ∙ omega (arith, one, more_wide signs sign n before utf8)
