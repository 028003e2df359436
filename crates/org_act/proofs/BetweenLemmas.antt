-- The change between two texts.
use Rattle.std.proofs.Common.{◌≡◌, ◌∙◌, ℕ, ◌+◌, ◌-◌, ◌≤◌, List, ◌++◌, length, take, drop, sym, ap, arith, length-drop}
use Rattle.std.specs.List.{slice_range}
use Rattle.std.proofs.lemmas.List.{append_assoc, drop-drop, take-append-drop, take-take, take_all}
use Rattle.std.proofs.lemmas.List.Folds.{drop_split}

-- what a text lends from a place on is all that it has from there on
pub rest_is : (lent text : List ℕ) (n : ℕ) → lent ≡ text → take (length lent - n) (drop n lent) ≡ drop n text
rest_is lent text n e = take_all (length lent - n) (drop n lent) (omega (arith, length-drop n lent)) ∙ ap (λ (t : List ℕ). drop n t) e

-- the same at the front of two texts, where it is so of what they lend
pub fronts_are : (lent text : List ℕ) (lent_other other : List ℕ) (n : ℕ) → lent ≡ text → lent_other ≡ other → take n lent ≡ take n lent_other → take n text ≡ take n other
fronts_are lent text lent_other other n e f same = sym (ap (λ (t : List ℕ). take n t) e) ∙ (same ∙ ap (λ (t : List ℕ). take n t) f)

-- the same at the end of two texts from a place on, where it is so of what they lend
pub ends_are : (lent rest : List ℕ) (lent_other other : List ℕ) (n : ℕ) → lent ≡ rest → lent_other ≡ other → drop (length lent - n) lent ≡ drop (length lent_other - n) lent_other →
    drop (length rest - n) rest ≡ drop (length other - n) other
ends_are lent rest lent_other other n e f same =
    sym (ap (λ (t : List ℕ). drop (length t - n) t) e) ∙ (same ∙ ap (λ (t : List ℕ). drop (length t - n) t) f)

-- a text in whose middle that of another is put, where both are the same before and behind it, is the other
pub joined : (old new ins : List ℕ) (common front back end : ℕ) → front ≤ common → take common old ≡ take common new → back ≤ length (drop front old) → back ≤ length (drop front new) →
    drop (length (drop front old) - back) (drop front old) ≡ drop (length (drop front new) - back) (drop front new) → front ≤ length old → front ≤ length new → length new - back ≤ end → end ≤ length new →
    ins ≡ slice_range new front end → (take front old ++ ins) ++ drop (front + (length old - (length new - end) - front)) old ≡ new
joined old new ins common front back end low same back_old back_new behind in_old in_new low_end high_end ins_is =
    let n = end - (length new - back) in
    let len_old : length (drop front old) ≡ length old - front = length-drop front old in
    let len_new : length (drop front new) ≡ length new - front = length-drop front new in
    let fronts : take front old ≡ take front new =
    sym (take-take front common old low) ∙ (ap (λ (t : List ℕ). take front t) same ∙ take-take front common new low) in
    let at_old : front + (length (drop front old) - back) + n ≡ front + (length old - (length new - end) - front) = omega (arith, len_old, len_new, back_old, back_new, in_old, in_new, low_end, high_end) in
    let at_new : front + (length (drop front new) - back) + n ≡ end = omega (arith, len_old, len_new, back_old, back_new, in_old, in_new, low_end, high_end) in
    let backs : drop (front + (length old - (length new - end) - front)) old ≡ drop end new =
    sym (ap (λ (k : ℕ). drop k old) at_old) ∙ (sym (drop-drop n (front + (length (drop front old) - back)) old)
    ∙ (sym (ap (λ (t : List ℕ). drop n t) (drop-drop (length (drop front old) - back) front old)) ∙ (ap (λ (t : List ℕ). drop n t) behind
    ∙ (ap (λ (t : List ℕ). drop n t) (drop-drop (length (drop front new) - back) front new) ∙ (drop-drop n (front + (length (drop front new) - back)) new
    ∙ ap (λ (k : ℕ). drop k new) at_new))))) in
    let up : front ≤ end = omega (arith, len_new, back_new, in_new, low_end) in
    ap (λ (t : List ℕ). (t ++ ins) ++ drop (front + (length old - (length new - end) - front)) old) fronts
    ∙ (ap (λ (t : List ℕ). (take front new ++ ins) ++ t) backs
    ∙ (ap (λ (t : List ℕ). (take front new ++ t) ++ drop end new) ins_is
    ∙ (append_assoc (take front new) (slice_range new front end) (drop end new)
    ∙ (sym (ap (λ (t : List ℕ). take front new ++ t) (drop_split new front end up)) ∙ take-append-drop front new))))
