-- Lines of strips are as wide as their strips and borders.
use Rattle.std.proofs.Common.{◌≡◌, ℕ, ◌+◌, List, [], ◌∷◌, ◌++◌, ap, ◌∙◌, sum_by, arith}
use Rattle.std.specs.Str.{IsUtf8}
use Rattle.std.specs.String.{string_bytes}
use Rattle.std.proofs.lemmas.Str.{IsUtf8-string_bytes}
use Rattle.std.proofs.lemmas.List.{append_assoc}
use Rattle.std.proofs.lemmas.List.Sums.{sum_by-cons}
use Rattle.org_look.specs.Signs.{sign_text}
use Rattle.org_look.specs.Strips.{strips_text, LinesAddUp}
use Rattle.org_look.specs.Widths.{columns_of, IsFence}
use Rattle.org_look.specs.declared.sign.Sign.TheVariants.{Side}
use Rattle.org_look.specs.declared.sign.Signs.{Signs}
use Rattle.org_look.specs.declared.sign.Signs.TheVariants.{Drawn, Ascii}
use Rattle.org_look.specs.declared.strip.Strip.{Strip}
use Rattle.org_look.proofs.FenceLemmas.{border, bar}
use Rattle.org_look.proofs.SignLemmas.{signs_are_columns}

IsFence-side : (signs : Signs) → IsFence (sign_text signs Side)
IsFence-side Drawn = border
IsFence-side Ascii = bar

behind : (signs : Signs) (strips : List Strip) (before : List ℕ) → IsUtf8 before → columns_of (before ++ (strips_text signs strips ++ sign_text signs Side)) ≡ columns_of before + (sum_by (λ strip. 1 + strip.columns) strips + 1)
behind signs [] before whole = signs_are_columns signs Side before whole
behind signs (strip ∷ strips) before whole =
    let side : List ℕ = sign_text signs Side in
    let text : List ℕ = string_bytes strip.text in
    let rest : List ℕ = strips_text signs strips in
    let grouped : (side ++ (text ++ rest)) ++ side ≡ side ++ (text ++ (rest ++ side)) = append_assoc side (text ++ rest) side ∙ ap (λ t. side ++ t) (append_assoc text rest side) in
    let apart : columns_of (before ++ (side ++ (text ++ (rest ++ side)))) ≡ columns_of before + (1 + columns_of (text ++ (rest ++ side))) = IsFence-side signs before (text ++ (rest ++ side)) whole in
    let more : columns_of (text ++ (rest ++ side)) ≡ columns_of text + (sum_by (λ strip. 1 + strip.columns) strips + 1) = behind signs strips text (IsUtf8-string_bytes strip.text) in
    let sum : sum_by (λ strip. 1 + strip.columns) (strip ∷ strips) ≡ (1 + strip.columns) + sum_by (λ strip. 1 + strip.columns) strips = sum_by-cons (λ (s : Strip). 1 + s.columns) strip strips in
    ap (λ t. columns_of (before ++ t)) grouped ∙ omega (arith, apart, more, sum, strip.is_wide)

pub lines_add_up : LinesAddUp
lines_add_up signs front strips = behind signs strips (string_bytes front.text) (IsUtf8-string_bytes front.text) ∙ ap (λ n. n + (sum_by (λ strip. 1 + strip.columns) strips + 1)) front.is_wide
