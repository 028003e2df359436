-- Parts of a text replaced at once.
use Rattle.std.proofs.Common.{◌≡◌, ℕ, ◌+◌, ◌-◌, ◌≤◌, List, [], ◌∷◌, ◌++◌, length, take, drop, sym, ap, ◌∙◌, arith}
use Rattle.std.proofs.lemmas.List.{append-nil, append_assoc, take-append-drop, take-take, length-take-le, take-append-le, drop_at}
use Rattle.std.proofs.Math.Seq.{take-add}
use Rattle.std.specs.List.{slice_range}
use Rattle.org_text.specs.Replace.{replace}
use Rattle.org_complete.specs.Parts.{Part, AreApart, end_of_parts, joined_parts, PartsAreOneChange}

pub end_above : (at most : ℕ) (ps : List Part) → AreApart at most ps → (at ≤ end_of_parts at ps) × (end_of_parts at ps ≤ most)
end_above at most [] h = (omega arith, h)
end_above at most (p ∷ ps) h = let more = end_above (p.at + p.del) most ps h.1 in (omega (arith, h.0, more.0), more.1)

-- one more part before a change
one_more : (t ins more : List ℕ) (at here del end : ℕ) → at ≤ here → here + del ≤ end → end ≤ length t →
    replace (replace t (here + del) (end - (here + del)) more) here del ins ≡ replace t at (end - at) (slice_range t at here ++ (ins ++ more))
one_more t ins more at here del end low high within =
    let m : ℕ = here + del in
    let up : m + (end - m) ≡ end = omega arith in
    let over : at + (end - at) ≡ end = omega arith in
    let new : List ℕ = replace t m (end - m) more in
    let new_is : new ≡ take m t ++ (more ++ drop end t) = append_assoc (take m t) more (drop (m + (end - m)) t) ∙ ap (λ k. take m t ++ (more ++ drop k t)) up in
    let long : length (take m t) ≡ m = length-take-le m t (omega arith) in
    let front : take here new ≡ take here t = ap (take here) new_is ∙ (take-append-le here (take m t) (more ++ drop end t) (omega (arith, long)) ∙ take-take here m t (omega arith)) in
    let back : drop m new ≡ more ++ drop end t = ap (drop m) new_is ∙ drop_at (take m t) (more ++ drop end t) m long in
    let sum : at + (here - at) ≡ here = omega arith in
    let split : take here t ≡ take at t ++ slice_range t at here = ap (λ k. take k t) (sym sum) ∙ take-add at (here - at) t in
    let left : (take here new ++ ins) ++ drop m new ≡ (take here t ++ ins) ++ (more ++ drop end t) = cc (front, back) in
    let middle : (take here t ++ ins) ++ (more ++ drop end t) ≡ ((take at t ++ slice_range t at here) ++ ins) ++ (more ++ drop end t) = ap (λ xs. (xs ++ ins) ++ (more ++ drop end t)) split in
    let s : List ℕ = slice_range t at here in
    let a : List ℕ = take at t in
    let d : List ℕ = drop end t in
    let right : ((a ++ s) ++ ins) ++ (more ++ d) ≡ (a ++ (s ++ (ins ++ more))) ++ d = simp append_assoc in
    left ∙ (middle ∙ (right ∙ ap (λ k. (a ++ (s ++ (ins ++ more))) ++ drop k t) (sym over)))

none_is : (t : List ℕ) (at : ℕ) → t ≡ replace t at (at - at) []
none_is t at =
    let e : at + (at - at) ≡ at = omega arith in
    sym (take-append-drop at t) ∙ (ap (λ xs. xs ++ drop at t) (sym (append-nil (take at t))) ∙ ap (λ k. (take at t ++ []) ++ drop k t) (sym e))

pub parts_are_one_change : PartsAreOneChange
parts_are_one_change t at [] h = none_is t at
parts_are_one_change t at (p ∷ ps) h =
    let above = end_above (p.at + p.del) (length t) ps h.1 in
    ap (λ xs. replace xs p.at p.del p.ins) (parts_are_one_change t (p.at + p.del) ps h.1)
    ∙ one_more t p.ins (joined_parts t (p.at + p.del) ps) at p.at p.del (end_of_parts (p.at + p.del) ps) h.0 above.0 above.1
