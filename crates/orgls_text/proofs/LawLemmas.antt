-- The laws of positions.
use Rattle.std.proofs.Common.{◌≡◌, ℕ, zero, suc, ◌+◌, ◌<◌, ◌≤◌, Bool, true, false, not, cond, ◌&&◌, ◌||◌, eqb, List, [], ◌∷◌, ◌++◌, length, take, drop, get_or, Some, refl, sym, ap, ◌∙◌, inl, inr, arith, ◌⊎◌}
use Rattle.std.specs.Prelude.{nat_lt, nat_le, unwrap_or}
use Rattle.std.specs.Str.{IsUtf8}
use Rattle.std.proofs.lemmas.Str.{IsUtf8-nil}
use Rattle.std.proofs.Math.Seq.{drop-cons, drop-length, take-length, take-suc}
use Rattle.std.proofs.lemmas.Bool.{and_from, and_parts, cases_eq, eqb-true, ne_eqb, not-true, or_cases}
use Rattle.std.proofs.lemmas.Bool.Decides.{nat_tests}
use Rattle.std.proofs.lemmas.List.{append-nil, get_or_past, length-take-le, take-append-drop}
use Rattle.org_text.specs.Replace.{is_boundary}
use Rattle.org_text.proofs.ReplaceLemmas.{boundaries_cut_nothing}
use Rattle.orgls_text.specs.Positions.{behind_byte, cursor_behind, is_beyond, is_stop, last_within, next_line, offset_of, position_of, same_line, start, units}
use Rattle.orgls_text.specs.Laws.{BeyondALineIsItsEnd, BeyondTheTextIsItsEnd, OffsetsComeBack, PositionsComeBack, PositionsCutNothing, cuts_line_end, is_stop_at}
use Rattle.orgls_text.proofs.CursorLemmas.{before_next, behind_append, behind_none, behind_one, beyond_before, beyond_itself}
use Rattle.orgls_text.proofs.OffsetLemmas.{IsLeftBehind, last_is, some_within, sound_within, stops}
use Rattle.orgls_text.specs.declared.cursor.Cursor.{Cursor}
use Rattle.orgls_text.specs.declared.position.Position.{Position}
use Rattle.orgls_text.specs.declared.position.PositionEncoding.{PositionEncoding}

-- what was behind a carriage return is known by the last byte
returned_by : (e : PositionEncoding) (c : Cursor) (x : ℕ) (second feed returned : Bool) → (feed ≡ true → returned ≡ false) →
    (cond (second && feed) (record { position = c.position; is_behind_return = false }) (cond (feed || returned) (next_line c returned) (same_line c (units e x)))).is_behind_return ≡ returned
returned_by e c x true true returned h = sym (h refl)
returned_by e c x true false true h = refl
returned_by e c x true false false h = refl
returned_by e c x false true returned h = refl
returned_by e c x false false true h = refl
returned_by e c x false false false h = refl

ten_not_thirteen : (x : ℕ) → eqb x 10 ≡ true → eqb x 13 ≡ false
ten_not_thirteen x h = let is : x ≡ 10 = eqb-true x 10 h in ne_eqb x 13 (λ k. omega (arith, k))

returned : (e : PositionEncoding) (c : Cursor) (x : ℕ) → (behind_byte e c x).is_behind_return ≡ eqb x 13
returned e c x = returned_by e c x c.is_behind_return (eqb x 10) (eqb x 13) (ten_not_thirteen x)

returned_at : (e : PositionEncoding) (t : List ℕ) (n : ℕ) → n < length t → (cursor_behind e start (take (suc n) t)).is_behind_return ≡ eqb (get_or t n 0) 13
returned_at e t n lt =
    let c = cursor_behind e start (take n t) in
    let x = get_or t n 0 in
    let one : cursor_behind e start (take (suc n) t) ≡ behind_byte e c x =
    ap (cursor_behind e start) (take-suc t n 0 lt) ∙ behind_append e start (take n t) (x ∷ []) ∙ behind_one e c x in
    ap (λ (d : Cursor). d.is_behind_return) one ∙ returned e c x

stops_by : (c : Cursor) (b : Bool) (y : ℕ) (ys : List ℕ) → c.is_behind_return ≡ b →
    stops c (y ∷ ys) ≡ (not (b && eqb y 10) && (nat_lt y 128 || nat_le 192 y))
stops_by c b y ys h = ap (λ r. not (r && eqb y 10) && (nat_lt y 128 || nat_le 192 y)) h

and_false : (b : Bool) → (b && false) ≡ false
and_false true = refl
and_false false = refl

-- at the text's end a position can stand
stop_at_end : (t : List ℕ) (n : ℕ) → length t ≡ suc n → is_stop_at t (suc n) ≡ true
stop_at_end t n is =
    let past : get_or t (suc n) 0 ≡ 0 = get_or_past t (suc n) 0 (omega arith) in
    rw (past, and_false (eqb (get_or t n 0) 13)) refl

-- where a position can stand is known by the bytes on both sides
stops_behind : (e : PositionEncoding) (t : List ℕ) (n : ℕ) → suc n ≤ length t → (suc n ≡ length t) ⊎ (suc n ≡ length t → ⊥) →
    stops (cursor_behind e start (take (suc n) t)) (drop (suc n) t) ≡ is_stop_at t (suc n)
stops_behind e t n within (inl is) =
    let none : drop (suc n) t ≡ [] = ap (λ k. drop k t) is ∙ drop-length t in
    rw none (sym (stop_at_end t n (sym is)))
stops_behind e t n within (inr not_end) =
    let y = get_or t (suc n) 0 in
    let c = cursor_behind e start (take (suc n) t) in
    let next : drop (suc n) t ≡ y ∷ drop (suc (suc n)) t = drop-cons t (suc n) 0 (omega arith) in
    ap (stops c) next ∙ stops_by c (eqb (get_or t n 0) 13) y (drop (suc (suc n)) t) (returned_at e t n (omega arith))

pub stops_is : (e : PositionEncoding) (t : List ℕ) (o : ℕ) → o ≤ length t → stops (cursor_behind e start (take o t)) (drop o t) ≡ is_stop_at t o
stops_is e [] zero within = refl
stops_is e (x ∷ xs) zero within = ap (λ c. stops c (x ∷ xs)) (behind_none e start)
stops_is e t (suc n) within = stops_behind e t n within (cases_eq (suc n) (length t))

left_behind : (e : PositionEncoding) (c : Cursor) (ys : List ℕ) → stops c ys ≡ true → IsLeftBehind e c.position c ys
left_behind e c [] s = tt
left_behind e c (y ∷ ys) s = beyond_before c.position (behind_byte e c y).position (before_next e c y s)

-- the last place that isn't beyond, by what is before and behind it in the text
found_at : (e : PositionEncoding) (t : List ℕ) (o : ℕ) (p : Position) → o ≤ length t → is_stop_at t o ≡ true →
    is_beyond (cursor_behind e start (take o t)).position p ≡ false → IsLeftBehind e p (cursor_behind e start (take o t)) (drop o t) → offset_of e t p ≡ o
found_at e t o p within stop near left =
    let c = cursor_behind e start (take o t) in
    let found : last_within e p start (take o t ++ drop o t) ≡ Some (length (take o t)) =
    last_is e p start (take o t) (drop o t) (stops_is e t o within ∙ stop) near left in
    ap (λ r. unwrap_or r 0) (ap (last_within e p start) (sym (take-append-drop o t)) ∙ found) ∙ length-take-le o t within

pub offsets_come_back : OffsetsComeBack
offsets_come_back e t o within stop =
    let c = cursor_behind e start (take o t) in
    found_at e t o c.position within stop (beyond_itself c.position) (left_behind e c (drop o t) (stops_is e t o within ∙ stop))

pub positions_come_back : PositionsComeBack
positions_come_back e t p o within stop is = ap (position_of e t) (ap (offset_of e t) (sym is) ∙ offsets_come_back e t o within stop) ∙ is

-- a byte that ends a line leaves all positions of that line behind
next_by : (e : PositionEncoding) (c : Cursor) (y : ℕ) → (c.is_behind_return && eqb y 10) ≡ false → (eqb y 10 || eqb y 13) ≡ true → behind_byte e c y ≡ next_line c (eqb y 13)
next_by e c y h k = rw (h, k) refl

beyond_line : (a p : Position) → a.line ≡ p.line → is_beyond (record { line = a.line + 1; character = 0 }) p ≡ true
beyond_line a p h = grind (arith, nat_tests)

left_by_end : (e : PositionEncoding) (c : Cursor) (p : Position) (ys : List ℕ) → c.position.line ≡ p.line →
    ((y : ℕ) (rest : List ℕ) → ys ≡ y ∷ rest → ((c.is_behind_return && eqb y 10) ≡ false) × ((eqb y 10 || eqb y 13) ≡ true)) → IsLeftBehind e p c ys
left_by_end e c p [] line ends = tt
left_by_end e c p (y ∷ ys) line ends =
    let both = ends y ys refl in
    ap (λ (d : Cursor). is_beyond d.position p) (next_by e c y both.0 both.1) ∙ beyond_line c.position p line

ends_small : (x : ℕ) → (eqb x 10 || eqb x 13) ≡ true → (nat_lt x 128 || nat_le 192 x) ≡ true
ends_small x h = grind (arith, nat_tests)

near_on_line : (a p : Position) → a.line ≡ p.line → a.character ≤ p.character → is_beyond a p ≡ false
near_on_line a p l k = grind (arith, nat_tests)

near_above : (a p : Position) → a.line < p.line → is_beyond a p ≡ false
near_above a p l = grind (arith, nat_tests)

pub beyond_the_text_is_its_end : BeyondTheTextIsItsEnd
beyond_the_text_is_its_end e t p line =
    let c = cursor_behind e start (take (length t) t) in
    let found : last_within e p start (take (length t) t ++ []) ≡ Some (length (take (length t) t)) =
    last_is e p start (take (length t) t) [] refl (near_above c.position p line) tt in
    let joined : t ≡ take (length t) t ++ [] = sym (append-nil (take (length t) t) ∙ take-length t) in
    ap (λ r. unwrap_or r 0) (ap (last_within e p start) joined ∙ found) ∙ ap length (take-length t)

-- the first byte of a text begins a character
first_begins : (t : List ℕ) → IsUtf8 t → is_boundary t 0 ≡ true
first_begins t h = (boundaries_cut_nothing t 0 h (omega arith)).1 (IsUtf8-nil, h)

start_near : (p : Position) → is_beyond start.position p ≡ false
start_near p = grind (arith, nat_tests)

first_stops : (t : List ℕ) → is_boundary t 0 ≡ true → stops start t ≡ true
first_stops [] h = refl
first_stops (x ∷ xs) h = h

pub positions_cut_nothing : PositionsCutNothing
positions_cut_nothing e t p utf8 =
    let some = some_within e p start t (start_near p) (first_stops t (first_begins t utf8)) in
    let sound = sound_within e p start t some.0 some.1 in
    let is : offset_of e t p ≡ some.0 = ap (λ r. unwrap_or r 0) some.1 in
    rw is (sound.0, sym (stops_is e t some.0 sound.0) ∙ sound.1)

-- the byte at the end of a line
end_byte : (t : List ℕ) (o y : ℕ) (rest : List ℕ) → o ≤ length t → drop o t ≡ y ∷ rest →
    (eqb o (length t) || (eqb (get_or t o 0) 10 || eqb (get_or t o 0) 13)) ≡ true → (eqb y 10 || eqb y 13) ≡ true
end_byte t o y rest within is ends = elim (cases_eq o (length t)) [
  | inl end ↦ let none : drop o t ≡ [] = ap (λ k. drop k t) end ∙ drop-length t in absurd cc
  | inr more ↦
      let other : eqb o (length t) ≡ false = ne_eqb o (length t) more in
      let here : (eqb (get_or t o 0) 10 || eqb (get_or t o 0) 13) ≡ true = rw other at ends in
      let next : drop o t ≡ get_or t o 0 ∷ drop (suc o) t = drop-cons t o 0 (omega arith) in
      let same : get_or t o 0 ≡ y = cc in
      rw (← same) here
]

first_of_stops : (c : Cursor) (ys : List ℕ) (y : ℕ) (rest : List ℕ) → ys ≡ y ∷ rest → stops c ys ≡ true → (c.is_behind_return && eqb y 10) ≡ false
first_of_stops c ys y rest is s =
    let stop : is_stop c y ≡ true = sym (ap (stops c) is) ∙ s in
    not-true (c.is_behind_return && eqb y 10) (and_parts (not (c.is_behind_return && eqb y 10)) (nat_lt y 128 || nat_le 192 y) stop).0

end_boundary : (t : List ℕ) (o : ℕ) → (eqb o (length t) || (eqb (get_or t o 0) 10 || eqb (get_or t o 0) 13)) ≡ true → is_boundary t o ≡ true
end_boundary t o h = elim (or_cases (eqb o (length t)) (eqb (get_or t o 0) 10 || eqb (get_or t o 0) 13) h) [
  | inl end ↦
      let is : o ≡ length t = eqb-true o (length t) end in
      let past : get_or t o 0 ≡ 0 = get_or_past t o 0 (omega arith) in
      rw past refl
  | inr small ↦ ends_small (get_or t o 0) small
]

pub beyond_a_line_is_its_end : BeyondALineIsItsEnd
beyond_a_line_is_its_end e t o p within ends line character =
    let c = cursor_behind e start (take o t) in
    let parts = and_parts (not (cuts_line_end t o)) (eqb o (length t) || (eqb (get_or t o 0) 10 || eqb (get_or t o 0) 13)) ends in
    let stop : is_stop_at t o ≡ true = and_from (not (cuts_line_end t o)) (is_boundary t o) parts.0 (end_boundary t o parts.1) in
    found_at e t o p within stop (near_on_line c.position p line character)
    (left_by_end e c p (drop o t) line
    (λ y rest is. (first_of_stops c (drop o t) y rest is (stops_is e t o within ∙ stop), end_byte t o y rest within is parts.1)))
