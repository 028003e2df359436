-- How positions go on with each byte.
use Rattle.std.proofs.Common.{◌≡◌, ℕ, ◌+◌, ◌*◌, ◌<◌, ◌≤◌, Bool, true, false, not, cond, ◌&&◌, ◌||◌, eqb, List, [], ◌∷◌, ◌++◌, length, take, get_or, add-one, refl, ap, ◌∙◌, arith}
use Rattle.std.specs.Prelude.{nat_lt, nat_le}
use Rattle.std.proofs.Math.Seq.{take-suc}
use Rattle.std.proofs.lemmas.Bool.Decides.{nat_tests}
use Rattle.orgls_text.specs.Positions.{behind_byte, cursor_behind, is_beyond, is_stop, next_line, same_line, units}
use Rattle.orgls_text.specs.declared.cursor.Cursor.{Cursor}
use Rattle.orgls_text.specs.declared.position.Position.{Position}
use Rattle.orgls_text.specs.declared.position.PositionEncoding.{PositionEncoding}
use Rattle.orgls_text.specs.declared.position.PositionEncoding.TheVariants.{Utf8, Utf16}

pub behind_append : (e : PositionEncoding) (c : Cursor) (xs ys : List ℕ) → cursor_behind e c (xs ++ ys) ≡ cursor_behind e (cursor_behind e c xs) ys
unfolding cursor_behind
behind_append e c [] ys = refl
behind_append e c (x ∷ xs) ys = behind_append e (behind_byte e c x) xs ys

pub behind_none : (e : PositionEncoding) (c : Cursor) → cursor_behind e c [] ≡ c
unfolding cursor_behind
behind_none e c = refl

pub behind_one : (e : PositionEncoding) (c : Cursor) (x : ℕ) → cursor_behind e c (x ∷ []) ≡ behind_byte e c x
unfolding cursor_behind
behind_one e c x = refl

-- a position doesn't go back
pub record IsUpTo (a : Position) (b : Position) : Type 0 where
  pub line : a.line ≤ b.line
  pub character : a.line ≡ b.line → a.character ≤ b.character

-- it goes on
pub record IsBefore (a : Position) (b : Position) : Type 0 where
  pub line : a.line ≤ b.line
  pub character : a.line ≡ b.line → a.character < b.character

pub beyond_more : (a b p : Position) → IsUpTo a b → is_beyond a p ≡ true → is_beyond b p ≡ true
beyond_more a b p le h =
    let l = le.line in
    let k = le.character in
    grind (arith, nat_tests)

pub beyond_itself : (a : Position) → is_beyond a a ≡ false
beyond_itself a = grind (arith, nat_tests)

pub beyond_before : (a b : Position) → IsBefore a b → is_beyond b a ≡ true
beyond_before a b lt =
    let l = lt.line in
    let k = lt.character in
    grind (arith, nat_tests)

-- what the second test says of a byte: that it ends a line
up_to_by : (e : PositionEncoding) (c : Cursor) (x : ℕ) (second ends returned : Bool) →
    IsUpTo c.position (cond second (record { position = c.position; is_behind_return = false }) (cond ends (next_line c returned) (same_line c (units e x)))).position
up_to_by e c x true ends returned = record { line = omega arith; character = λ h. omega arith }
up_to_by e c x false true returned = record { line = omega arith; character = λ h. omega arith }
up_to_by e c x false false returned = record { line = omega arith; character = λ h. omega arith }

pub up_to_next : (e : PositionEncoding) (c : Cursor) (x : ℕ) → IsUpTo c.position (behind_byte e c x).position
up_to_next e c x = up_to_by e c x (c.is_behind_return && eqb x 10) (eqb x 10 || eqb x 13) (eqb x 13)

pub units_some : (e : PositionEncoding) (x : ℕ) → (nat_lt x 128 || nat_le 192 x) ≡ true → 1 ≤ units e x
units_some Utf8 x h = omega arith
units_some Utf16 x h = grind (arith, nat_tests)

pub units_few : (e : PositionEncoding) (x : ℕ) → units e x ≤ 2
units_few Utf8 x = omega arith
units_few Utf16 x = grind (arith, nat_tests)

before_by : (e : PositionEncoding) (c : Cursor) (x : ℕ) (second ends returned : Bool) → (not second && (nat_lt x 128 || nat_le 192 x)) ≡ true →
    IsBefore c.position (cond second (record { position = c.position; is_behind_return = false }) (cond ends (next_line c returned) (same_line c (units e x)))).position
before_by e c x true ends returned h = absurd cc
before_by e c x false true returned h = record { line = omega arith; character = λ k. omega arith }
before_by e c x false false returned h = let some = units_some e x h in record { line = omega arith; character = λ k. omega arith }

pub before_next : (e : PositionEncoding) (c : Cursor) (x : ℕ) → is_stop c x ≡ true → IsBefore c.position (behind_byte e c x).position
before_next e c x h = before_by e c x (c.is_behind_return && eqb x 10) (eqb x 10 || eqb x 13) (eqb x 13) h

few_by : (e : PositionEncoding) (c : Cursor) (x : ℕ) (second ends returned : Bool) →
    let next = (cond second (record { position = c.position; is_behind_return = false }) (cond ends (next_line c returned) (same_line c (units e x)))).position in
    (next.line ≤ c.position.line + 1) × (next.character ≤ c.position.character + 2)
few_by e c x true ends returned = (omega arith, omega arith)
few_by e c x false true returned = (omega arith, omega arith)
few_by e c x false false returned = let few = units_few e x in (omega arith, omega arith)

-- each byte adds one line at most, and two units
pub few_lines : (e : PositionEncoding) (c : Cursor) (x : ℕ) → (behind_byte e c x).position.line ≤ c.position.line + 1
few_lines e c x = (few_by e c x (c.is_behind_return && eqb x 10) (eqb x 10 || eqb x 13) (eqb x 13)).0

pub few_units : (e : PositionEncoding) (c : Cursor) (x : ℕ) → (behind_byte e c x).position.character ≤ c.position.character + 2
few_units e c x = (few_by e c x (c.is_behind_return && eqb x 10) (eqb x 10 || eqb x 13) (eqb x 13)).1

-- so many bytes add so many lines at most, and twice as many units
pub few_behind : (e : PositionEncoding) (c : Cursor) (xs : List ℕ) →
    ((cursor_behind e c xs).position.line ≤ c.position.line + length xs) × ((cursor_behind e c xs).position.character ≤ c.position.character + 2 * length xs)
unfolding cursor_behind
few_behind e c [] = (omega arith, omega arith)
few_behind e c (x ∷ xs) =
    let l = few_lines e c x in
    let k = few_units e c x in
    let more = few_behind e (behind_byte e c x) xs in
    (omega (arith, more.0), omega (arith, more.1))

-- behind one more byte of a list
pub behind_more : (e : PositionEncoding) (c : Cursor) (xs : List ℕ) (i : ℕ) → i < length xs →
    cursor_behind e c (take (i + 1) xs) ≡ behind_byte e (cursor_behind e c (take i xs)) (get_or xs i 0)
behind_more e c xs i lt =
    ap (λ n. cursor_behind e c (take n xs)) (add-one i) ∙ ap (cursor_behind e c) (take-suc xs i 0 lt)
    ∙ behind_append e c (take i xs) (get_or xs i 0 ∷ []) ∙ behind_one e (cursor_behind e c (take i xs)) (get_or xs i 0)
