-- The last place in some bytes at which a position can stand.
use Rattle.std.proofs.Common.{◌≡◌, ℕ, zero, suc, ◌+◌, ◌<◌, ◌≤◌, Bool, true, false, not, cond, ◌&&◌, List, [], ◌∷◌, ◌++◌, length, take, drop, get_or, Option, Some, None, refl, sym, ap, ◌∙◌, arith, add-one}
use Rattle.std.proofs.Math.Seq.{drop-cons, drop-length, drop-nil}
use Rattle.orgls_text.specs.Positions.{behind_byte, behind_or, cursor_behind, is_beyond, is_stop, last_within}
use Rattle.orgls_text.proofs.CursorLemmas.{beyond_more, up_to_next}
use Rattle.orgls_text.specs.declared.cursor.Cursor.{Cursor}
use Rattle.orgls_text.specs.declared.position.Position.{Position}
use Rattle.orgls_text.specs.declared.position.PositionEncoding.{PositionEncoding}

-- whether a position can stand in front of some bytes
abbrev pub stops : Cursor → List ℕ → Bool
stops c [] = true
stops c (x ∷ xs) = is_stop c x

-- behind the next of them the position is beyond another
abbrev pub IsLeftBehind : PositionEncoding → Position → Cursor → List ℕ → Type 0
IsLeftBehind e p c [] = Unit {0}
IsLeftBehind e p c (x ∷ xs) = is_beyond (behind_byte e c x).position p ≡ true

-- nothing comes behind what is beyond
pub none_beyond : (e : PositionEncoding) (p : Position) (c : Cursor) (xs : List ℕ) → is_beyond c.position p ≡ true → last_within e p c xs ≡ None
unfolding last_within
none_beyond e p c [] h = rw h refl
none_beyond e p c (x ∷ xs) h =
    let more : is_beyond (behind_byte e c x).position p ≡ true = beyond_more c.position (behind_byte e c x).position p (up_to_next e c x) h in
    rw (none_beyond e p (behind_byte e c x) xs more, h) refl

-- what stands there, isn't beyond and is left behind with the next byte is the last
pub last_is : (e : PositionEncoding) (p : Position) (c : Cursor) (xs ys : List ℕ) → stops (cursor_behind e c xs) ys ≡ true →
    is_beyond (cursor_behind e c xs).position p ≡ false → IsLeftBehind e p (cursor_behind e c xs) ys → last_within e p c (xs ++ ys) ≡ Some (length xs)
unfolding cursor_behind last_within
last_is e p c [] [] s n f = rw n refl
last_is e p c [] (y ∷ ys) s n f = rw (none_beyond e p (behind_byte e c y) ys f, n, s) refl
last_is e p c (x ∷ xs) ys s n f = rw (last_is e p (behind_byte e c x) xs ys s n f) refl

-- where nothing is beyond and a position can stand, there is a last place
some_by : (o : Option ℕ) (here : Bool) → here ≡ true → (n : ℕ) × (behind_or o here ≡ Some n)
some_by (Some m) here h = (suc m, refl)
some_by None true h = (0, refl)
some_by None false h = absurd cc

pub some_within : (e : PositionEncoding) (p : Position) (c : Cursor) (xs : List ℕ) → is_beyond c.position p ≡ false → stops c xs ≡ true →
    (n : ℕ) × (last_within e p c xs ≡ Some n)
unfolding last_within
some_within e p c [] n s = (0, rw n refl)
some_within e p c (x ∷ xs) n s =
    some_by (last_within e p (behind_byte e c x) xs) (not (is_beyond c.position p) && is_stop c x) (rw n s)

here_stops : (near stop : Bool) → behind_or None (near && stop) ≡ Some 0 → stop ≡ true
here_stops true true h = refl
here_stops true false h = absurd cc
here_stops false stop h = absurd cc

no_more : (near stop : Bool) (n : ℕ) → behind_or None (near && stop) ≡ Some (suc n) → ⊥
no_more true true n h = cc
no_more true false n h = cc
no_more false stop n h = cc

zero_only : (beyond : Bool) (n : ℕ) → cond beyond None (Some 0) ≡ Some n → n ≤ 0
zero_only true n h = absurd cc
zero_only false n h = let is : 0 ≡ n = cc in omega arith

stops_none : (c : Cursor) (ys : List ℕ) → ys ≡ [] → stops c ys ≡ true
stops_none c ys h = rw h refl

-- a place that is found is one within the bytes at which a position can stand
sound_by : (e : PositionEncoding) (c : Cursor) (x : ℕ) (xs : List ℕ) (o : Option ℕ) (near : Bool) (n : ℕ) → behind_or o (near && is_stop c x) ≡ Some n →
    ((m : ℕ) → o ≡ Some m → (m ≤ length xs) × (stops (cursor_behind e (behind_byte e c x) (take m xs)) (drop m xs) ≡ true)) →
    (n ≤ length (x ∷ xs)) × (stops (cursor_behind e c (take n (x ∷ xs))) (drop n (x ∷ xs)) ≡ true)
unfolding cursor_behind
sound_by e c x xs (Some m) near zero is below = absurd cc
sound_by e c x xs (Some m) near (suc n) is below = let same : m ≡ n = cc in let b = below n (ap Some same) in (omega (arith, b.0), b.1)
sound_by e c x xs None near zero is below = (omega arith, here_stops near (is_stop c x) is)
sound_by e c x xs None near (suc n) is below = absurd (no_more near (is_stop c x) n is)

pub sound_within : (e : PositionEncoding) (p : Position) (c : Cursor) (xs : List ℕ) (n : ℕ) → last_within e p c xs ≡ Some n →
    (n ≤ length xs) × (stops (cursor_behind e c (take n xs)) (drop n xs) ≡ true)
unfolding cursor_behind last_within
sound_within e p c [] n is = (zero_only (is_beyond c.position p) n is, stops_none (cursor_behind e c (take n [])) (drop n []) (drop-nil n))
sound_within e p c (x ∷ xs) n is =
    sound_by e c x xs (last_within e p (behind_byte e c x) xs) (not (is_beyond c.position p)) n is (λ m h. sound_within e p (behind_byte e c x) xs m h)

-- a place from here on, or the one so far
abbrev pub counted_from : ℕ → ℕ → Option ℕ → ℕ
counted_from at before None = before
counted_from at before (Some count) = at + count

-- what is counted from here on is what is counted from the next byte on
on_from : (at before : ℕ) (o : Option ℕ) (here : Bool) → counted_from at before (behind_or o here) ≡ counted_from (at + 1) (cond here at before) o
on_from at before (Some n) here = omega arith
on_from at before None true = omega arith
on_from at before None false = refl

pub last_more : (e : PositionEncoding) (p : Position) (c : Cursor) (t : List ℕ) (at before after : ℕ) (next : Cursor) → at < length t →
    is_beyond c.position p ≡ false → after ≡ cond (is_stop c (get_or t at 0)) at before → next ≡ behind_byte e c (get_or t at 0) →
    counted_from at before (last_within e p c (drop at t)) ≡ counted_from (at + 1) after (last_within e p next (drop (at + 1) t))
unfolding last_within
last_more e p c t at before after next lt near is goes =
    let x = get_or t at 0 in
    let rest : drop at t ≡ x ∷ drop (at + 1) t = drop-cons t at 0 lt ∙ ap (λ n. x ∷ drop n t) (sym (add-one at)) in
    let stop : (not (is_beyond c.position p) && is_stop c x) ≡ is_stop c x = ap (λ b. not b && is_stop c x) near in
    ap (λ (xs : List ℕ). counted_from at before (last_within e p c xs)) rest
    ∙ ap (λ b. counted_from at before (behind_or (last_within e p (behind_byte e c x) (drop (at + 1) t)) b)) stop
    ∙ on_from at before (last_within e p (behind_byte e c x) (drop (at + 1) t)) (is_stop c x)
    ∙ ap (λ k. counted_from (at + 1) k (last_within e p (behind_byte e c x) (drop (at + 1) t))) (sym is)
    ∙ ap (λ (d : Cursor). counted_from (at + 1) after (last_within e p d (drop (at + 1) t))) (sym goes)

pub last_end : (e : PositionEncoding) (p : Position) (c : Cursor) (t : List ℕ) (at before : ℕ) → length t ≤ at → at ≤ length t →
    is_beyond c.position p ≡ false → counted_from at before (last_within e p c (drop at t)) ≡ length t
unfolding last_within
last_end e p c t at before le ge near =
    let is : at ≡ length t = omega arith in
    let none : drop at t ≡ [] = ap (λ n. drop n t) is ∙ drop-length t in
    let count : last_within e p c [] ≡ Some 0 = ap (λ b. cond b None (Some 0)) near in
    ap (λ (xs : List ℕ). counted_from at before (last_within e p c xs)) none ∙ ap (counted_from at before) count ∙ omega arith
