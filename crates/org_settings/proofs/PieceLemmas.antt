-- A piece, and what stands after it.
use Rattle.std.proofs.Common.{◌≡◌, ℕ, suc, ◌+◌, ◌-◌, ◌<◌, ◌≤◌, Bool, true, false, not, cond, ◌&&◌, List, [], ◌∷◌, ◌++◌, length, take, drop, get_or, refl, sym, ap, ◌∙◌, arith, true≢false, take_all}
use Rattle.std.specs.List.{list_all}
use Rattle.std.proofs.lemmas.Bool.{and_parts, and_from, ne_eqb}
use Rattle.std.proofs.lemmas.List.{drop_more, drop-drop, take_more, take-append-drop, append_assoc, append-nil, get_or-drop, length-drop}
use Rattle.std.proofs.lemmas.List.Folds.{list_all-append}
use Rattle.org_settings.specs.Pieces.{put_before, is_between, begins_between, pieces, piece}

abbrev pub are_letters : ℕ → List ℕ → Bool
are_letters also p = list_all (λ b. not (is_between also b)) p

not_true : (b : Bool) → not b ≡ true → b ≡ false
not_true true h = absurd (true≢false (sym h))
not_true false h = refl

piece_cons : (b : ℕ) (p : List ℕ) → piece (b ∷ p) ≡ (b ∷ p) ∷ []
piece_cons b p = rw (ne_eqb (suc (length p)) 0 (λ z. omega arith)) refl

pub piece_front : (also : ℕ) (p rest : List ℕ) → are_letters also p ≡ true → begins_between also rest ≡ true → pieces also (p ++ rest) ≡ piece p ++ pieces also rest
piece_front also [] rest h e = refl
piece_front also (b ∷ []) rest h e = rw (not_true (is_between also b) (and_parts (not (is_between also b)) true h).0, e) refl
piece_front also (b ∷ c ∷ p) rest h e =
    let parts = and_parts (not (is_between also b)) (are_letters also (c ∷ p)) h in
    let next = and_parts (not (is_between also c)) (are_letters also p) parts.1 in
    let later : pieces also ((c ∷ p) ++ rest) ≡ (c ∷ p) ∷ pieces also rest = piece_front also (c ∷ p) rest parts.1 e ∙ ap (λ q. q ++ pieces also rest) (piece_cons c p) in
    ap (λ t. cond t (pieces also ((c ∷ p) ++ rest)) (put_before (is_between also c) b (pieces also ((c ∷ p) ++ rest)))) (not_true (is_between also b) parts.0)
    ∙ ap (λ t. put_before t b (pieces also ((c ∷ p) ++ rest))) (not_true (is_between also c) next.0)
    ∙ ap (put_before false b) later
    ∙ sym (ap (λ q. q ++ pieces also rest) (piece_cons b (c ∷ p)))

pub piece_cut : (also : ℕ) (p : List ℕ) (b : ℕ) (rest : List ℕ) → are_letters also p ≡ true → is_between also b ≡ true → pieces also (p ++ b ∷ rest) ≡ piece p ++ pieces also rest
piece_cut also p b rest h e = piece_front also p (b ∷ rest) h e ∙ ap (λ t. piece p ++ cond t (pieces also rest) (put_before (begins_between also rest) b (pieces also rest))) e

pub piece_last : (also : ℕ) (p : List ℕ) → are_letters also p ≡ true → pieces also p ≡ piece p
piece_last also p h = ap (pieces also) (sym (append-nil p)) ∙ piece_front also p [] h refl ∙ append-nil (piece p)

-- what is left from the start of the open piece
pub opened : (t : List ℕ) (start i : ℕ) → start ≤ i → i < length t → drop start t ≡ take (i - start) (drop start t) ++ get_or t i 0 ∷ drop (i + 1) t
opened t start i h inside =
    let place : start + (i - start) ≡ i = omega arith in
    sym (take-append-drop (i - start) (drop start t))
    ∙ ap (λ rest. take (i - start) (drop start t) ++ rest) (drop-drop (i - start) start t ∙ ap (λ k. drop k t) place ∙ drop_more t i 0 inside)

pub more_letters : (also : ℕ) (t : List ℕ) (start i : ℕ) → start ≤ i → i < length t → are_letters also (take (i - start) (drop start t)) ≡ true → is_between also (get_or t i 0) ≡ false →
    are_letters also (take (i + 1 - start) (drop start t)) ≡ true
more_letters also t start i h inside so_far e =
    let more : i + 1 - start ≡ i - start + 1 = omega arith in
    let place : start + (i - start) ≡ i = omega arith in
    let count : length (drop start t) ≡ length t - start = length-drop start t in
    let byte : get_or (drop start t) (i - start) 0 ≡ get_or t i 0 = get_or-drop start t (i - start) 0 ∙ ap (λ k. get_or t k 0) place in
    let letter : are_letters also (get_or t i 0 ∷ []) ≡ true = ap (λ c. not c && true) e in
    ap (λ n. are_letters also (take n (drop start t))) more
    ∙ ap (are_letters also) (take_more (drop start t) (i - start) 0 (omega arith))
    ∙ ap (λ b. are_letters also (take (i - start) (drop start t) ++ b ∷ [])) byte
    ∙ list_all-append (λ b. not (is_between also b)) (take (i - start) (drop start t)) (get_or t i 0 ∷ [])
    ∙ and_from (are_letters also (take (i - start) (drop start t))) (are_letters also (get_or t i 0 ∷ [])) so_far letter

-- at a separator the open piece ends
pub cut_at : (also : ℕ) (t : List ℕ) (start i : ℕ) → start ≤ i → i < length t → are_letters also (take (i - start) (drop start t)) ≡ true → is_between also (get_or t i 0) ≡ true →
    (all done more : List (List ℕ)) → more ≡ done ++ piece (take (i - start) (drop start t)) → done ++ pieces also (drop start t) ≡ all → more ++ pieces also (drop (i + 1) t) ≡ all
cut_at also t start i h inside letters e all done more is so_far =
    ap (λ m. m ++ pieces also (drop (i + 1) t)) is
    ∙ append_assoc done (piece (take (i - start) (drop start t))) (pieces also (drop (i + 1) t))
    ∙ ap (λ m. done ++ m) (sym (piece_cut also (take (i - start) (drop start t)) (get_or t i 0) (drop (i + 1) t) letters e) ∙ ap (pieces also) (sym (opened t start i h inside)))
    ∙ so_far

pub no_letters : (also n : ℕ) (t : List ℕ) → are_letters also (take (n - n) t) ≡ true
no_letters also n t = let none : n - n ≡ 0 = omega arith in rw none refl

pub all_taken : (t : List ℕ) (start i : ℕ) → length t ≤ i → take (i - start) (drop start t) ≡ drop start t
all_taken t start i h = let count : length (drop start t) ≡ length t - start = length-drop start t in take_all (i - start) (drop start t) (omega arith)
