-- One line more of the first rows.
use Rattle.std.proofs.Common.{◌≡◌, ◌∙◌, ℕ, ◌+◌, ◌<◌, ◌≤◌, false, List, [], ◌∷◌, ◌++◌, length, take, drop, get_or, refl, sym, ap, arith, append_assoc, append-nil}
use Rattle.std.specs.Prelude.{◌==◌, if◌then◌else◌}
use Rattle.std.proofs.lemmas.List.{drop_all, drop_more, take_all, take_more}
use Rattle.org_layout.specs.declared.shown.Line.{Line}
use Rattle.org_answer.specs.Limits.{first_rows, left_after}

pub first_more : (n i : ℕ) (line : Line) (lines : List Line) → i < length lines → line ≡ get_or lines i line → (n == 0) ≡ false →
    take (i + 1) lines ++ first_rows (left_after n line) (drop (i + 1) lines) ≡ take i lines ++ first_rows n (drop i lines)
unfolding first_rows
first_more n i line lines lt is some =
    let rest = drop (i + 1) lines in
    let first : drop i lines ≡ line ∷ rest = drop_more lines i line lt ∙ ap (λ l. l ∷ rest) (sym is) in
    let taken : take (i + 1) lines ≡ take i lines ++ line ∷ [] = take_more lines i line lt ∙ ap (λ l. take i lines ++ l ∷ []) (sym is) in
    ap (λ front. front ++ first_rows (left_after n line) rest) taken
    ∙ (append_assoc (take i lines) (line ∷ []) (first_rows (left_after n line) rest)
    ∙ (sym (ap (λ b. take i lines ++ (if b then [] else line ∷ first_rows (left_after n line) rest)) some)
    ∙ sym (ap (λ ls. take i lines ++ first_rows n ls) first)))

nothing : (lines : List Line) → first_rows 0 lines ≡ []
unfolding first_rows
nothing [] = refl
nothing (line ∷ lines) = refl

-- where none are left to be shown the lines so far are all
pub first_none : (n i : ℕ) (lines : List Line) → n ≡ 0 → take i lines ++ first_rows n (drop i lines) ≡ take i lines
first_none n i lines none =
    ap (λ k. take i lines ++ first_rows k (drop i lines)) none
    ∙ (ap (λ ls. take i lines ++ ls) (nothing (drop i lines)) ∙ append-nil (take i lines))

-- past the last line there are no more
pub first_past : (n i : ℕ) (lines : List Line) → length lines ≤ i → take i lines ++ first_rows n (drop i lines) ≡ lines
unfolding first_rows
first_past n i lines le = ap (λ ls. take i lines ++ first_rows n ls) (drop_all i lines le) ∙ (append-nil (take i lines) ∙ take_all i lines le)
