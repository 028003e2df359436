-- What is shown has no character that isn't shown as it is.
use Rattle.std.proofs.Common.{◌≡◌, ◌∙◌, ℕ, ◌+◌, ◌-◌, ◌/◌, ◌%◌, ◌<◌, ◌≤◌, Bool, true, false, cond, not, List, [], ◌∷◌, ◌++◌, refl, sym, ap, subst, arith, append-nil, append_assoc}
use Rattle.std.specs.Prelude.{◌&&◌, ◌||◌, ◌==◌, nat_lt}
use Rattle.std.proofs.lemmas.Bool.{and_parts}
use Rattle.std.proofs.lemmas.Bool.Decides.{nat_tests}
use Rattle.org_visible.specs.Clean.{IsClean, is_clean_behind, is_empty}
use Rattle.org_visible.specs.Laws.{VisibleIsClean}
use Rattle.org_visible.specs.Unseen.{front_of, block_of, ends, front_bytes, is_control, is_first, next, place, waits}
use Rattle.org_visible.specs.Visible.{control, cut, digits, hex, other, single, visible, visible_behind, written}
use Rattle.org_visible.specs.declared.front.Block.{Block}
use Rattle.org_visible.specs.declared.front.Block.TheVariants.{Latin, Punctuation, Tags}
use Rattle.org_visible.specs.declared.front.Front.{Front}
use Rattle.org_visible.specs.declared.front.Front.TheVariants.{Empty, C2, E2, E280, E281, F3, F3A0, F3A080, F3A081}
use Rattle.org_visible.specs.declared.visible.Escape.{Escape}
use Rattle.org_visible.specs.declared.visible.Escape.TheVariants.{Json, Caret, Field, Question}

-- a byte below 128 ends nothing, and goes on with nothing
none_ends : (front : Front) (b : ℕ) → b < 128 → ends front b ≡ false
none_ends Empty b small = refl
none_ends C2 b small = grind (arith, nat_tests, small)
none_ends E2 b small = refl
none_ends E280 b small = grind (arith, nat_tests, small)
none_ends E281 b small = grind (arith, nat_tests, small)
none_ends F3 b small = refl
none_ends F3A0 b small = refl
none_ends F3A080 b small = grind (arith, nat_tests, small)
none_ends F3A081 b small = grind (arith, nat_tests, small)

-- a byte that doesn't go on begins anew
pub anew : (front : Front) (b : ℕ) → waits front b ≡ false → next front b ≡ front_of b
anew Empty b e = refl
anew C2 b e = refl
anew E2 b e = by (b == 128) (b == 129) e
  where
    by : (s t : Bool) → (s || t) ≡ false → cond s E280 (cond t E281 (front_of b)) ≡ front_of b
    by false false e = refl
    by true t e = absurd cc
    by false true e = absurd cc
anew E280 b e = refl
anew E281 b e = refl
anew F3 b e = rw e refl
anew F3A0 b e = by (b == 128) (b == 129) e
  where
    by : (s t : Bool) → (s || t) ≡ false → cond s F3A080 (cond t F3A081 (front_of b)) ≡ front_of b
    by false false e = refl
    by true t e = absurd cc
    by false true e = absurd cc
anew F3A080 b e = refl
anew F3A081 b e = refl

none_waits : (front : Front) (b : ℕ) → b < 128 → waits front b ≡ false
none_waits Empty b small = refl
none_waits C2 b small = refl
none_waits E2 b small = grind (arith, nat_tests, small)
none_waits E280 b small = refl
none_waits E281 b small = refl
none_waits F3 b small = grind (arith, nat_tests, small)
none_waits F3A0 b small = grind (arith, nat_tests, small)
none_waits F3A080 b small = refl
none_waits F3A081 b small = refl

-- one that is no first byte begins nothing
pub begins_none : (b : ℕ) → is_first b ≡ false → front_of b ≡ Empty
begins_none b e = by (b == 194) (b == 226) (b == 243) e
  where
    by : (x y z : Bool) → (x || (y || z)) ≡ false → cond x C2 (cond y E2 (cond z F3 Empty)) ≡ Empty
    by false false false e = refl
    by true y z e = absurd cc
    by false true z e = absurd cc
    by false false true e = absurd cc

-- a byte in front of what is clean, where it ends nothing and begins nothing
pub step : (front : Front) (b : ℕ) (rest : List ℕ) → is_control b ≡ false → ends front b ≡ false → is_clean_behind (next front b) rest ≡ true → is_clean_behind front (b ∷ rest) ≡ true
step front b rest own ended e = (λ i. not (own i) && (not (ended i) && is_clean_behind (next front b) rest)) ∙ e

to_empty : (front : Front) (b : ℕ) (rest : List ℕ) → waits front b ≡ false → is_first b ≡ false → is_clean_behind Empty rest ≡ true → is_clean_behind (next front b) rest ≡ true
to_empty front b rest waiting first e = subst (λ f. is_clean_behind f rest ≡ true) (sym (anew front b waiting ∙ begins_none b first)) e

-- one of ASCII that prints
pub plain : (front : Front) (b : ℕ) (rest : List ℕ) → 32 ≤ b → b < 127 → is_clean_behind Empty rest ≡ true → is_clean_behind front (b ∷ rest) ≡ true
plain front b rest low high e =
    let own : is_control b ≡ false = grind (arith, nat_tests, low, high) in
    let first : is_first b ≡ false = grind (arith, nat_tests, low, high) in
    step front b rest own (none_ends front b (omega (arith, high))) (to_empty front b rest (none_waits front b (omega (arith, high))) first e)

hex_prints : (d : ℕ) → d < 16 → (32 ≤ hex d) × (hex d < 127)
hex_prints d small = by (nat_lt d 10) refl
  where
    by : (t : Bool) → nat_lt d 10 ≡ t → (32 ≤ cond t (48 + d) (97 + (d - 10))) × (cond t (48 + d) (97 + (d - 10)) < 127)
    by true e = (omega arith, omega (arith, small))
    by false e = (omega arith, omega (arith, small))

-- two digits
clean_digits : (n : ℕ) (rest : List ℕ) → n < 256 → is_clean_behind Empty rest ≡ true → is_clean_behind Empty (hex (n / 16) ∷ hex (n % 16) ∷ rest) ≡ true
clean_digits n rest small e =
    let a = hex_prints (n / 16) (omega (arith, small)) in
    let b = hex_prints (n % 16) (omega arith) in
    plain Empty (hex (n / 16)) (hex (n % 16) ∷ rest) a.0 a.1 (plain Empty (hex (n % 16)) rest b.0 b.1 e)

-- a bracket, and what comes behind it
bracket : (front : Front) (rest : List ℕ) → is_clean_behind Empty rest ≡ true → is_clean_behind front (60 ∷ rest) ≡ true
bracket front rest e = plain front 60 rest (omega arith) (omega arith) e

numbered : (n : ℕ) (rest : List ℕ) → n < 256 → is_clean_behind Empty rest ≡ true → is_clean_behind Empty (hex (n / 16) ∷ hex (n % 16) ∷ 62 ∷ rest) ≡ true
numbered n rest small e = clean_digits n (62 ∷ rest) small (plain Empty 62 rest (omega arith) (omega arith) e)

clean_latin : (n : ℕ) (front : Front) (rest : List ℕ) → n < 256 → is_clean_behind Empty rest ≡ true → is_clean_behind front (control Caret Latin n ++ rest) ≡ true
clean_latin n front rest small e = by (nat_lt n 32) refl
  where
    past : (t : Bool) → is_clean_behind front (cond t (94 ∷ 63 ∷ []) (60 ∷ hex (n / 16) ∷ hex (n % 16) ∷ 62 ∷ []) ++ rest) ≡ true
    past true = plain front 94 (63 ∷ rest) (omega arith) (omega arith) (plain Empty 63 rest (omega arith) (omega arith) e)
    past false = bracket front (hex (n / 16) ∷ hex (n % 16) ∷ 62 ∷ rest) (numbered n rest small e)

    by : (t : Bool) → nat_lt n 32 ≡ t → is_clean_behind front (cond t (94 ∷ (n + 64) ∷ []) (cond (n == 127) (94 ∷ 63 ∷ []) (60 ∷ hex (n / 16) ∷ hex (n % 16) ∷ 62 ∷ [])) ++ rest) ≡ true
    by true t =
        let low : n < 32 = grind (arith, nat_tests, t) in
        plain front 94 ((n + 64) ∷ rest) (omega arith) (omega arith) (plain Empty (n + 64) rest (omega arith) (omega (arith, low)) e)
    by false t = past (n == 127)

clean_caret : (block : Block) (n : ℕ) (front : Front) (rest : List ℕ) → n < 256 → is_clean_behind Empty rest ≡ true → is_clean_behind front (control Caret block n ++ rest) ≡ true
clean_caret Latin n front rest small e = clean_latin n front rest small e
clean_caret Punctuation n front rest small e =
    bracket front (50 ∷ 48 ∷ hex (n / 16) ∷ hex (n % 16) ∷ 62 ∷ rest) (plain Empty 50 (48 ∷ hex (n / 16) ∷ hex (n % 16) ∷ 62 ∷ rest) (omega arith) (omega arith)
    (plain Empty 48 (hex (n / 16) ∷ hex (n % 16) ∷ 62 ∷ rest) (omega arith) (omega arith) (numbered n rest small e)))
clean_caret Tags n front rest small e =
    bracket front (101 ∷ 48 ∷ 48 ∷ hex (n / 16) ∷ hex (n % 16) ∷ 62 ∷ rest) (plain Empty 101 (48 ∷ 48 ∷ hex (n / 16) ∷ hex (n % 16) ∷ 62 ∷ rest) (omega arith) (omega arith)
    (plain Empty 48 (48 ∷ hex (n / 16) ∷ hex (n % 16) ∷ 62 ∷ rest) (omega arith) (omega arith)
    (plain Empty 48 (hex (n / 16) ∷ hex (n % 16) ∷ 62 ∷ rest) (omega arith) (omega arith) (numbered n rest small e))))

clean_json : (block : Block) (n : ℕ) (front : Front) (rest : List ℕ) → n < 256 → is_clean_behind Empty rest ≡ true → is_clean_behind front (control Json block n ++ rest) ≡ true
clean_json Latin n front rest small e =
    plain front 92 (117 ∷ 48 ∷ 48 ∷ hex (n / 16) ∷ hex (n % 16) ∷ rest) (omega arith) (omega arith)
    (plain Empty 117 (48 ∷ 48 ∷ hex (n / 16) ∷ hex (n % 16) ∷ rest) (omega arith) (omega arith)
    (plain Empty 48 (48 ∷ hex (n / 16) ∷ hex (n % 16) ∷ rest) (omega arith) (omega arith)
    (plain Empty 48 (hex (n / 16) ∷ hex (n % 16) ∷ rest) (omega arith) (omega arith) (clean_digits n rest small e))))
clean_json Punctuation n front rest small e =
    plain front 92 (117 ∷ 50 ∷ 48 ∷ hex (n / 16) ∷ hex (n % 16) ∷ rest) (omega arith) (omega arith)
    (plain Empty 117 (50 ∷ 48 ∷ hex (n / 16) ∷ hex (n % 16) ∷ rest) (omega arith) (omega arith)
    (plain Empty 50 (48 ∷ hex (n / 16) ∷ hex (n % 16) ∷ rest) (omega arith) (omega arith)
    (plain Empty 48 (hex (n / 16) ∷ hex (n % 16) ∷ rest) (omega arith) (omega arith) (clean_digits n rest small e))))
clean_json Tags n front rest small e =
    plain front 92 (117 ∷ 100 ∷ 98 ∷ 52 ∷ 48 ∷ 92 ∷ 117 ∷ 100 ∷ 99 ∷ hex (n / 16) ∷ hex (n % 16) ∷ rest) (omega arith) (omega arith)
    (plain Empty 117 (100 ∷ 98 ∷ 52 ∷ 48 ∷ 92 ∷ 117 ∷ 100 ∷ 99 ∷ hex (n / 16) ∷ hex (n % 16) ∷ rest) (omega arith) (omega arith)
    (plain Empty 100 (98 ∷ 52 ∷ 48 ∷ 92 ∷ 117 ∷ 100 ∷ 99 ∷ hex (n / 16) ∷ hex (n % 16) ∷ rest) (omega arith) (omega arith)
    (plain Empty 98 (52 ∷ 48 ∷ 92 ∷ 117 ∷ 100 ∷ 99 ∷ hex (n / 16) ∷ hex (n % 16) ∷ rest) (omega arith) (omega arith)
    (plain Empty 52 (48 ∷ 92 ∷ 117 ∷ 100 ∷ 99 ∷ hex (n / 16) ∷ hex (n % 16) ∷ rest) (omega arith) (omega arith)
    (plain Empty 48 (92 ∷ 117 ∷ 100 ∷ 99 ∷ hex (n / 16) ∷ hex (n % 16) ∷ rest) (omega arith) (omega arith)
    (plain Empty 92 (117 ∷ 100 ∷ 99 ∷ hex (n / 16) ∷ hex (n % 16) ∷ rest) (omega arith) (omega arith)
    (plain Empty 117 (100 ∷ 99 ∷ hex (n / 16) ∷ hex (n % 16) ∷ rest) (omega arith) (omega arith)
    (plain Empty 100 (99 ∷ hex (n / 16) ∷ hex (n % 16) ∷ rest) (omega arith) (omega arith)
    (plain Empty 99 (hex (n / 16) ∷ hex (n % 16) ∷ rest) (omega arith) (omega arith) (clean_digits n rest small e))))))))))

mark : (front : Front) (rest : List ℕ) → is_clean_behind Empty rest ≡ true → is_clean_behind front (63 ∷ rest) ≡ true
mark front rest e = plain front 63 rest (omega arith) (omega arith) e

clean_questions : (block : Block) (n : ℕ) (front : Front) (rest : List ℕ) → is_clean_behind Empty rest ≡ true → is_clean_behind front (control Question block n ++ rest) ≡ true
clean_questions Latin n front rest e = by (nat_lt n 128)
  where
    by : (t : Bool) → is_clean_behind front (cond t (63 ∷ []) (63 ∷ 63 ∷ []) ++ rest) ≡ true
    by true = mark front rest e
    by false = mark front (63 ∷ rest) (mark Empty rest e)
clean_questions Punctuation n front rest e = mark front (63 ∷ 63 ∷ rest) (mark Empty (63 ∷ rest) (mark Empty rest e))
clean_questions Tags n front rest e = mark front (63 ∷ 63 ∷ 63 ∷ rest) (mark Empty (63 ∷ 63 ∷ rest) (mark Empty (63 ∷ rest) (mark Empty rest e)))

clean_control : (escape : Escape) (block : Block) (n : ℕ) (front : Front) (rest : List ℕ) → n < 256 → is_clean_behind Empty rest ≡ true → is_clean_behind front (control escape block n ++ rest) ≡ true
clean_control Json block n front rest small e = clean_json block n front rest small e
clean_control Caret block n front rest small e = clean_caret block n front rest small e
clean_control Field block n front rest small e = plain front 32 rest (omega arith) (omega arith) e
clean_control Question block n front rest small e = clean_questions block n front rest e

-- a byte that stands, where it goes on with nothing
stands_here : (front : Front) (b : ℕ) (rest : List ℕ) → is_control b ≡ false → ends front b ≡ false → waits front b ≡ false → is_first b ≡ false → is_clean_behind Empty rest ≡ true →
    is_clean_behind front (b ∷ rest) ≡ true
stands_here front b rest own ended waiting first e = step front b rest own ended (to_empty front b rest waiting first e)

clean_other : (escape : Escape) (front : Front) (b : ℕ) (rest : List ℕ) → is_control b ≡ false → ends front b ≡ false → waits front b ≡ false → is_first b ≡ false → is_clean_behind Empty rest ≡ true →
    is_clean_behind front (other escape b ++ rest) ≡ true
clean_other Json front b rest own ended waiting first e = by ((b == 34) || (b == 92))
  where
    by : (t : Bool) → is_clean_behind front (cond t (92 ∷ b ∷ []) (b ∷ []) ++ rest) ≡ true
    by true = plain front 92 (b ∷ rest) (omega arith) (omega arith) (stands_here Empty b rest own refl refl first e)
    by false = stands_here front b rest own ended waiting first e
clean_other Caret front b rest own ended waiting first e = stands_here front b rest own ended waiting first e
clean_other Field front b rest own ended waiting first e = by (b == 44)
  where
    by : (t : Bool) → is_clean_behind front (cond t 59 b ∷ rest) ≡ true
    by true = plain front 59 rest (omega arith) (omega arith) e
    by false = stands_here front b rest own ended waiting first e
clean_other Question front b rest own ended waiting first e = stands_here front b rest own ended waiting first e

-- behind a first byte it doesn't matter what came before
behind_first : (front : Front) (rest : List ℕ) →
    (is_clean_behind front (194 ∷ rest) ≡ is_clean_behind C2 rest) × ((is_clean_behind front (226 ∷ rest) ≡ is_clean_behind E2 rest) × (is_clean_behind front (243 ∷ rest) ≡ is_clean_behind F3 rest))
behind_first Empty rest = (refl, (refl, refl))
behind_first C2 rest = (refl, (refl, refl))
behind_first E2 rest = (refl, (refl, refl))
behind_first E280 rest = (refl, (refl, refl))
behind_first E281 rest = (refl, (refl, refl))
behind_first F3 rest = (refl, (refl, refl))
behind_first F3A0 rest = (refl, (refl, refl))
behind_first F3A080 rest = (refl, (refl, refl))
behind_first F3A081 rest = (refl, (refl, refl))

-- nor behind what came of a character
behind_front : (front before : Front) (rest : List ℕ) → is_empty front ≡ false → is_clean_behind before (front_bytes front ++ rest) ≡ is_clean_behind front rest
behind_front Empty before rest e = absurd cc
behind_front C2 before rest e = (behind_first before rest).0
behind_front E2 before rest e = (behind_first before rest).1.0
behind_front E280 before rest e = (behind_first before (128 ∷ rest)).1.0
behind_front E281 before rest e = (behind_first before (129 ∷ rest)).1.0
behind_front F3 before rest e = (behind_first before rest).1.1
behind_front F3A0 before rest e = (behind_first before (160 ∷ rest)).1.1
behind_front F3A080 before rest e = (behind_first before (160 ∷ 128 ∷ rest)).1.1
behind_front F3A081 before rest e = (behind_first before (160 ∷ 129 ∷ rest)).1.1

-- the last byte of a character, and its place
pub ended : (front : Front) (b : ℕ) → ends front b ≡ true → (place front b < 256) × (next front b ≡ Empty)
ended Empty b e = absurd cc
ended C2 b e = (grind (arith, nat_tests, e), begins_none b (grind (arith, nat_tests, e)))
ended E2 b e = absurd cc
ended E280 b e = (let most : b < 175 = grind (arith, nat_tests, e) in omega (arith, most), begins_none b (grind (arith, nat_tests, e)))
ended E281 b e = (let most : b < 170 = grind (arith, nat_tests, e) in omega (arith, most), begins_none b (grind (arith, nat_tests, e)))
ended F3 b e = absurd cc
ended F3A0 b e = absurd cc
ended F3A080 b e = (let most : b < 192 = grind (arith, nat_tests, e) in omega (arith, most), begins_none b (grind (arith, nat_tests, e)))
ended F3A081 b e = (let most : b < 192 = grind (arith, nat_tests, e) in omega (arith, most), begins_none b (grind (arith, nat_tests, e)))

-- a byte that goes on leaves a front
goes_on : (front : Front) (b : ℕ) → waits front b ≡ true → is_empty (next front b) ≡ false
goes_on Empty b e = absurd cc
goes_on C2 b e = absurd cc
goes_on E2 b e = by (b == 128) (b == 129) e
  where
    by : (s t : Bool) → (s || t) ≡ true → is_empty (cond s E280 (cond t E281 (front_of b))) ≡ false
    by true t e = refl
    by false true e = refl
    by false false e = absurd cc
goes_on E280 b e = absurd cc
goes_on E281 b e = absurd cc
goes_on F3 b e = rw e refl
goes_on F3A0 b e = by (b == 128) (b == 129) e
  where
    by : (s t : Bool) → (s || t) ≡ true → is_empty (cond s F3A080 (cond t F3A081 (front_of b))) ≡ false
    by true t e = refl
    by false true e = refl
    by false false e = absurd cc
goes_on F3A080 b e = absurd cc
goes_on F3A081 b e = absurd cc

begins : (b : ℕ) → is_first b ≡ true → is_empty (front_of b) ≡ false
begins b e = by (b == 194) (b == 226) (b == 243) e
  where
    by : (x y z : Bool) → (x || (y || z)) ≡ true → is_empty (cond x C2 (cond y E2 (cond z F3 Empty))) ≡ false
    by true y z e = refl
    by false true z e = refl
    by false false true e = refl
    by false false false e = absurd cc

module _ (escape : Escape) where
  record Both (bytes : List ℕ) : Type 0 where
    free : is_clean_behind Empty (visible_behind escape Empty bytes) ≡ true
    held : (front before : Front) → is_empty front ≡ false → is_clean_behind before (visible_behind escape front bytes) ≡ true

  -- a byte that begins anew
  clean_single : (front : Front) (b : ℕ) (bytes : List ℕ) → ends front b ≡ false → waits front b ≡ false → Both bytes → is_clean_behind front (single escape b ++ visible_behind escape (next front b) bytes) ≡ true
  clean_single front b bytes ended waiting rest = subst (λ f. is_clean_behind front (single escape b ++ visible_behind escape f bytes) ≡ true) (sym (anew front b waiting)) (by (is_first b) refl)
    where
      own : (t : Bool) → is_control b ≡ t → is_first b ≡ false → is_clean_behind front (cond t (control escape Latin b) (other escape b) ++ visible_behind escape Empty bytes) ≡ true
      own true e first = let small : b < 256 = grind (arith, nat_tests, e) in clean_control escape Latin b front (visible_behind escape Empty bytes) small rest.free
      own false e first = clean_other escape front b (visible_behind escape Empty bytes) e ended waiting first rest.free

      by : (t : Bool) → is_first b ≡ t → is_clean_behind front (cond t [] (cond (is_control b) (control escape Latin b) (other escape b)) ++ visible_behind escape (front_of b) bytes) ≡ true
      by true e = rest.held (front_of b) front (begins b e)
      by false e = subst (λ f. is_clean_behind front (cond (is_control b) (control escape Latin b) (other escape b) ++ visible_behind escape f bytes) ≡ true) (sym (begins_none b e)) (own (is_control b) refl e)

  clean_held : (front before : Front) (b : ℕ) (bytes : List ℕ) → is_empty front ≡ false → Both bytes → is_clean_behind before (written escape front b ++ visible_behind escape (next front b) bytes) ≡ true
  clean_held front before b bytes some rest = by (ends front b) refl
    where
      more : (t : Bool) → waits front b ≡ t → ends front b ≡ false →
          is_clean_behind before (cond t [] (front_bytes front ++ single escape b) ++ visible_behind escape (next front b) bytes) ≡ true
      more true e isnt = rest.held (next front b) before (goes_on front b e)
      more false e isnt =
          subst (λ s. is_clean_behind before s ≡ true) (sym (append_assoc (front_bytes front) (single escape b) (visible_behind escape (next front b) bytes)))
          (behind_front front before (single escape b ++ visible_behind escape (next front b) bytes) some ∙ clean_single front b bytes isnt e rest)

      by : (t : Bool) → ends front b ≡ t →
          is_clean_behind before (cond t (control escape (block_of front) (place front b)) (cond (waits front b) [] (front_bytes front ++ single escape b)) ++ visible_behind escape (next front b) bytes) ≡ true
      by true e =
          let last = ended front b e in
          clean_control escape (block_of front) (place front b) before (visible_behind escape (next front b) bytes) last.0
          (subst (λ f. is_clean_behind Empty (visible_behind escape f bytes) ≡ true) (sym last.1) rest.free)
      by false e = more (waits front b) refl e

  -- the end, with bytes of a front
  clean_cut : (front before : Front) → is_empty front ≡ false → is_clean_behind before (cut escape front) ≡ true
  clean_cut Empty before e = absurd cc
  clean_cut C2 before e = clean_control escape Latin 194 before [] (omega arith) refl
  clean_cut E2 before e = clean_control escape Latin 226 before [] (omega arith) refl
  clean_cut E280 before e = clean_control escape Latin 226 before (control escape Latin 128 ++ []) (omega arith) (clean_control escape Latin 128 Empty [] (omega arith) refl)
  clean_cut E281 before e = clean_control escape Latin 226 before (control escape Latin 129 ++ []) (omega arith) (clean_control escape Latin 129 Empty [] (omega arith) refl)
  clean_cut F3 before e = clean_control escape Latin 243 before [] (omega arith) refl
  clean_cut F3A0 before e = clean_control escape Latin 243 before (control escape Latin 160 ++ []) (omega arith) (clean_control escape Latin 160 Empty [] (omega arith) refl)
  clean_cut F3A080 before e =
      clean_control escape Latin 243 before (control escape Latin 160 ++ (control escape Latin 128 ++ [])) (omega arith)
      (clean_control escape Latin 160 Empty (control escape Latin 128 ++ []) (omega arith) (clean_control escape Latin 128 Empty [] (omega arith) refl))
  clean_cut F3A081 before e =
      clean_control escape Latin 243 before (control escape Latin 160 ++ (control escape Latin 129 ++ [])) (omega arith)
      (clean_control escape Latin 160 Empty (control escape Latin 129 ++ []) (omega arith) (clean_control escape Latin 129 Empty [] (omega arith) refl))

  both : (bytes : List ℕ) → Both bytes
  both [] = record {
    free = refl;
    held = clean_cut;
  }
  both (b ∷ bytes) = record {
    free = clean_single Empty b bytes refl refl (both bytes);
    held = λ front before some. clean_held front before b bytes some (both bytes);
  }

pub visible_is_clean : VisibleIsClean
unfolding visible
visible_is_clean escape text = (both escape text).free

pub not_empty : (front : Front) → is_empty front ≡ true → front ≡ Empty
not_empty Empty e = refl
not_empty C2 e = absurd cc
not_empty E2 e = absurd cc
not_empty E280 e = absurd cc
not_empty E281 e = absurd cc
not_empty F3 e = absurd cc
not_empty F3A0 e = absurd cc
not_empty F3A080 e = absurd cc
not_empty F3A081 e = absurd cc

append_at : (front : Front) (a b : List ℕ) → is_clean_behind front a ≡ true → is_clean_behind Empty b ≡ true → is_clean_behind front (a ++ b) ≡ true
append_at front [] b e h = subst (λ f. is_clean_behind f b ≡ true) (sym (not_empty front e)) h
append_at front (x ∷ xs) b e h =
    let own = and_parts (not (is_control x)) (not (ends front x) && is_clean_behind (next front x) xs) e in
    let rest = and_parts (not (ends front x)) (is_clean_behind (next front x) xs) own.1 in
    (λ i. own.0 i && (rest.0 i && append_at (next front x) xs b rest.1 h i))

pub clean_append : (a b : List ℕ) → IsClean a → IsClean b → IsClean (a ++ b)
clean_append a b = append_at Empty a b

-- a byte of ASCII that prints, in front of what is clean and alone
pub clean_front : (byte : ℕ) (bytes : List ℕ) → 32 ≤ byte → byte < 127 → IsClean bytes → IsClean (byte ∷ bytes)
clean_front byte bytes low high e = plain Empty byte bytes low high e

pub clean_byte : (byte : ℕ) → 32 ≤ byte → byte < 127 → IsClean (byte ∷ [])
clean_byte byte low high = plain Empty byte [] low high refl
