-- Parts of a text, and what is printed of findings, one by one.
use Rattle.std.proofs.Common.{◌≡◌, ℕ, ◌+◌, ◌-◌, ◌≤◌, min, List, [], ◌∷◌, ◌++◌, length, take, drop, sym, ap, ◌∙◌, arith, append_assoc}
use Rattle.std.proofs.lemmas.List.{drop-drop, length-drop, take-take, take_min}
use Rattle.std.proofs.Math.Seq.{take-add}

-- what is put one after the other

two_put : (old a b one two : List ℕ) → one ≡ old ++ a → two ≡ one ++ b → two ≡ old ++ (a ++ b)
two_put old a b one two first second = second ∙ (ap (λ x. x ++ b) first ∙ append_assoc old a b)

pub three_put : (old a b c one two three : List ℕ) → one ≡ old ++ a → two ≡ one ++ b → three ≡ two ++ c → three ≡ old ++ (a ++ (b ++ c))
three_put old a b c one two three first second third = two_put old a (b ++ c) one three first (two_put one b c two three second third)

pub four_put : (old a b c d one two three four : List ℕ) → one ≡ old ++ a → two ≡ one ++ b → three ≡ two ++ c → four ≡ three ++ d → four ≡ old ++ (a ++ (b ++ (c ++ d)))
four_put old a b c d one two three four first second third fourth =
    two_put old a (b ++ (c ++ d)) one four first (three_put one b c d two three four second third fourth)

pub five_put : (old a b c d e one two three four five : List ℕ) → one ≡ old ++ a → two ≡ one ++ b → three ≡ two ++ c → four ≡ three ++ d → five ≡ four ++ e → five ≡ old ++ (a ++ (b ++ (c ++ (d ++ e))))
five_put old a b c d e one two three four five first second third fourth fifth =
    two_put old a (b ++ (c ++ (d ++ e))) one five first (four_put one b c d e two three four five second third fourth fifth)

-- a part so far, and a run after it
pub part_more : (c p : List ℕ) (at here m : ℕ) → at ≤ here → p ≡ take (length p) (drop here c) → m ≤ length p → take (here - at) (drop at c) ++ take m p ≡ take (here + m - at) (drop at c)
part_more c p at here m from run le =
    let there : here ≡ at + (here - at) = omega arith in
    let on : here - at + m ≡ here + m - at = omega arith in
    let rest : take m p ≡ take m (drop (here - at) (drop at c)) =
    ap (take m) run ∙ (take-take m (length p) (drop here c) le ∙ (ap (λ k. take m (drop k c)) there ∙ ap (take m) (sym (drop-drop (here - at) at c)))) in
    ap (λ xs. take (here - at) (drop at c) ++ xs) rest ∙ (sym (take-add (here - at) m (drop at c)) ∙ ap (λ k. take k (drop at c)) on)

-- where a part ends
pub part_end : (c : List ℕ) (at len here : ℕ) → here - at ≡ min len (length c - at) → take (here - at) (drop at c) ≡ take len (drop at c)
part_end c at len here is = ap (λ k. take k (drop at c)) (is ∙ ap (min len) (sym (length-drop at c))) ∙ take_min len (drop at c)
