-- Spliced lists, and what they add up to.
use Rattle.std.proofs.Common.{◌≡◌, ℕ, ◌+◌, ◌-◌, ◌<◌, ◌≤◌, List, [], ◌++◌, length, take, drop, length-append, length-take, length-drop, arith, ap, sym, ◌∙◌, append_assoc}
use Rattle.std.specs.List.{sum_by, splice}
use Rattle.std.proofs.lemmas.List.{drop-append-le, take-append-le, drop-drop, drop_all, append-nil, take-append-drop}
use Rattle.std.proofs.Math.Seq.{take-append-add, drop-append-add}
use Rattle.std.proofs.lemmas.List.Sums.{sum_by-append, sum_by-take-drop}
use Rattle.org_sequence.specs.declared.tree.Node.{Node}
use Rattle.org_sequence.specs.declared.tree.Node.TheVariants.{Fork}
use Rattle.org_sequence.specs.declared.sums.Sums.{Sums}
use Rattle.org_sequence.specs.Shape.{items_and_height}

-- what a spliced list adds up to is no more than its parts
pub parts_size : {T : Type 0} (f : T → ℕ) (xs : List T) (from to : ℕ) → from ≤ to → sum_by f (take from xs) + sum_by f (drop to xs) ≤ sum_by f xs
parts_size f xs from to le =
    let e : to ≡ from + (to - from) = omega arith in
    let d : sum_by f (drop to xs) ≡ sum_by f (drop (to - from) (drop from xs)) = ap (sum_by f) (ap (λ i. drop i xs) e ∙ sym (drop-drop (to - from) from xs)) in
    omega (arith, d, sum_by-take-drop f xs from, sum_by-take-drop f (drop from xs) (to - from))

pub spliced_size : {T : Type 0} (f : T → ℕ) (xs ys : List T) (from to : ℕ) → from ≤ to → sum_by f (splice xs from to ys) ≤ sum_by f xs + sum_by f ys
spliced_size f xs ys from to le =
    omega (arith, sum_by-append f (take from xs) (ys ++ drop to xs), sum_by-append f ys (drop to xs), parts_size f xs from to le)

pub spliced_length : {T : Type 0} (xs ys : List T) (from to : ℕ) → from ≤ to → length (splice xs from to ys) ≤ length xs + length ys
spliced_length xs ys from to le =
    omega (arith, length-append (take from xs) (ys ++ drop to xs), length-append ys (drop to xs), length-take from xs, length-drop to xs)

-- a splice that is within the left side, within the right side, and over both
pub splice_left : {T : Type 0} (ls rs ys : List T) (from to : ℕ) → from ≤ to → to ≤ length ls → splice ls from to ys ++ rs ≡ splice (ls ++ rs) from to ys
splice_left ls rs ys from to le within =
    let f : take from (ls ++ rs) ≡ take from ls = take-append-le from ls rs (omega arith) in
    let d : drop to (ls ++ rs) ≡ drop to ls ++ rs = drop-append-le to ls rs within in
    rw (f, d) (append_assoc (take from ls) (ys ++ drop to ls) rs ∙ ap (λ zs. take from ls ++ zs) (append_assoc ys (drop to ls) rs))

pub splice_right : {T : Type 0} (ls rs ys : List T) (from to k m : ℕ) → from ≡ length ls + k → to ≡ length ls + m → ls ++ splice rs k m ys ≡ splice (ls ++ rs) from to ys
splice_right ls rs ys from to k m e f =
    rw (e, f, take-append-add ls rs k, drop-append-add ls rs m) (sym (append_assoc ls (take k rs) (ys ++ drop m rs)))

pub splice_both : {T : Type 0} (ls rs ys : List T) (from to m : ℕ) → from ≤ length ls → to ≡ length ls + m → splice ls from (length ls) ys ++ splice rs 0 m [] ≡ splice (ls ++ rs) from to ys
splice_both ls rs ys from to m le f =
    let d : drop (length ls) ls ≡ [] = drop_all (length ls) ls (omega arith) in
    rw (f, take-append-le from ls rs le, drop-append-add ls rs m, d, append-nil ys) (append_assoc (take from ls) ys (drop m rs))

-- the items of a fork
pub fork_items : {T : Type 0} (n : Node T) (v : List T × ℕ) (l r : _) (s : Sums) (h : ℕ) → items_and_height n ≡ v → n ≡ Fork l r s h → v.0 ≡ l.value.0 ++ r.value.0
fork_items n v l r s h view is = sym (ap (λ d. d.0) (ap items_and_height (sym is) ∙ view))

-- where a side is spliced, both sides have room together: a is the left side's value as it was lent, z what it became, b the right side's copy
pub room_left : {T : Type 0} (f : T → ℕ) (xs ls rs cs bs ys zs : List T) (from to n : ℕ) → xs ≡ ls ++ rs → cs ≡ ls → bs ≡ rs → zs ≡ splice cs from to ys → from ≤ to → sum_by f xs + sum_by f ys < n → sum_by f zs + sum_by f bs < n
room_left f xs ls rs cs bs ys zs from to n is a b z le fits =
    omega (arith, ap (sum_by f) is, ap (sum_by f) a, ap (sum_by f) b, ap (sum_by f) z, sum_by-append f ls rs, spliced_size f cs ys from to le)

pub room_right : {T : Type 0} (f : T → ℕ) (xs ls rs cs bs ys zs : List T) (from to n : ℕ) → xs ≡ ls ++ rs → cs ≡ ls → bs ≡ rs → zs ≡ splice bs from to ys → from ≤ to → sum_by f xs + sum_by f ys < n → sum_by f cs + sum_by f zs < n
room_right f xs ls rs cs bs ys zs from to n is a b z le fits =
    omega (arith, ap (sum_by f) is, ap (sum_by f) a, ap (sum_by f) b, ap (sum_by f) z, sum_by-append f ls rs, spliced_size f bs ys from to le)

pub room_both : {T : Type 0} (f : T → ℕ) (xs ls rs cs bs ys zs ws : List T) (from to k m n : ℕ) → xs ≡ ls ++ rs → cs ≡ ls → bs ≡ rs → zs ≡ splice cs from to ys → ws ≡ splice bs k m [] → from ≤ to → k ≤ m → sum_by f xs + sum_by f ys < n → sum_by f zs + sum_by f ws < n
room_both f xs ls rs cs bs ys zs ws from to k m n is a b z w le lem fits =
    omega (arith, ap (sum_by f) is, ap (sum_by f) a, ap (sum_by f) b, ap (sum_by f) z, ap (sum_by f) w, sum_by-append f ls rs, spliced_size f cs ys from to le, spliced_size f bs [] k m lem)

-- and the items are spliced
pub spliced_right : {T : Type 0} (xs ls rs cs bs ys zs : List T) (from to k m : ℕ) → xs ≡ ls ++ rs → cs ≡ ls → bs ≡ rs → zs ≡ splice bs k m ys → from ≡ length ls + k → to ≡ length ls + m → cs ++ zs ≡ splice xs from to ys
spliced_right xs ls rs cs bs ys zs from to k m is a b z e f = rw (is, a, z, b) (splice_right ls rs ys from to k m e f)

pub spliced_both : {T : Type 0} (xs ls rs cs bs ys zs ws : List T) (from to m n : ℕ) → xs ≡ ls ++ rs → cs ≡ ls → bs ≡ rs → zs ≡ splice cs from n ys → ws ≡ splice bs 0 m [] → n ≡ length ls → from ≤ length ls → to ≡ length ls + m → zs ++ ws ≡ splice xs from to ys
spliced_both xs ls rs cs bs ys zs ws from to m n is a b z w at le f = rw (is, z, w, a, b, at) (splice_both ls rs ys from to m le f)

-- a list cut in two
pub halves_size : {T : Type 0} (f : T → ℕ) (xs : List T) (i : ℕ) → sum_by f (take i xs) + sum_by f (drop i xs) ≡ sum_by f xs
halves_size f xs i = sum_by-take-drop f xs i

pub halves_join : {T : Type 0} (xs : List T) (i : ℕ) → take i xs ++ drop i xs ≡ xs
halves_join xs i = take-append-drop i xs
