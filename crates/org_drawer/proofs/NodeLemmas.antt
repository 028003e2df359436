-- The words of node lines, spelled.
use Rattle.std.proofs.Common.{◌≡◌, ℕ, zero, suc, ◌+◌, ◌-◌, ◌<◌, ◌≤◌, Bool, true, false, cond, ◌&&◌, not, ◌==◌, nat_lt, nat_le, List, [], ◌∷◌, ◌++◌, length, take, drop, get_or, Some, None, refl, ap, sym, ◌∙◌, arith, drop-cons, length-append, length-take-le}
use Rattle.std.proofs.Math.ListN.{drop_of_length-le, get_or-append}
use Rattle.std.proofs.Math.Seq.{get_or-append_seam, take-append_seam}
use Rattle.std.proofs.lemmas.Bool.Decides.{nat_tests}
use Rattle.std.proofs.lemmas.List.{take-append-drop, get_or-append-add, get_or-take}
use Rattle.org_base.specs.Properties.{Given}
use Rattle.org_base.specs.Words.{trim_start, trimmed, first_word}
use Rattle.org_drawer.specs.Laws.{NodesAreSpelled}
use Rattle.org_drawer.specs.Node.{has_plus, name_len, is_node_word, is_node, given, given_of, is_name, node_word}

-- the tests of a node word, one by one
pub record IsNodeWord (w : List ℕ) : Type 0 where
  pub long : 3 ≤ length w
  pub first : get_or w 0 0 ≡ 58
  pub last : get_or w (length w - 1) 0 ≡ 58
  pub some : 0 < name_len w
  pub plain : (get_or w (name_len w) 0 == 43) ≡ false

five : (a b c d e : Bool) → (a && b && c && d && not e) ≡ true → (a ≡ true) × (b ≡ true) × (c ≡ true) × (d ≡ true) × (e ≡ false)
five true true true true false h = (refl, refl, refl, refl, refl)
five true true true true true h = absurd cc
five true true true false e h = absurd cc
five true true false d e h = absurd cc
five true false c d e h = absurd cc
five false b c d e h = absurd cc

is_word : (w : List ℕ) → is_node_word w ≡ true → IsNodeWord w
is_word w h =
    let t = five (nat_le 3 (length w)) (get_or w 0 0 == 58) (get_or w (length w - 1) 0 == 58) (nat_lt 0 (name_len w)) (get_or w (name_len w) 0 == 43) h in
    record { long = grind (arith, nat_tests, t.0); first = grind (arith, nat_tests, t.1); last = grind (arith, nat_tests, t.2); some = grind (arith, nat_tests, t.3); plain = t.4 }

-- one byte, and two, at the end
one_left : (xs : List ℕ) (k : ℕ) → length xs ≡ k + 1 → drop k xs ≡ get_or xs k 0 ∷ []
one_left xs k e = drop-cons xs k 0 (omega (arith, e)) ∙ ap (λ ys. get_or xs k 0 ∷ ys) (drop_of_length-le xs {i = suc k} (omega (arith, e)))

two_left : (xs : List ℕ) (k : ℕ) → length xs ≡ k + 2 → drop k xs ≡ get_or xs k 0 ∷ get_or xs (suc k) 0 ∷ []
two_left xs k e = drop-cons xs k 0 (omega (arith, e)) ∙ ap (λ ys. get_or xs k 0 ∷ ys) (one_left xs (suc k) (omega (arith, e)))

-- a node word is that of its name
spelled : (w : List ℕ) → IsNodeWord w → w ≡ node_word (take (name_len w) (drop 1 w)) (has_plus w)
spelled [] h = absurd (omega (arith, h.long))
spelled (x ∷ xs) h = by (has_plus (x ∷ xs)) refl
  where
    by : (t : Bool) → has_plus (x ∷ xs) ≡ t → x ∷ xs ≡ node_word (take (cond t (length (x ∷ xs) - 3) (length (x ∷ xs) - 2)) xs) t
    by true e =
        let k = suc (length xs) - 3 in
        let at_plus : suc (length xs) - 2 ≡ suc k = omega (arith, h.long) in
        let at_last : suc (length xs) - 1 ≡ suc (suc k) = omega (arith, h.long) in
        let is_plus : get_or (x ∷ xs) (suc (length xs) - 2) 0 ≡ 43 = grind (arith, nat_tests, e) in
        let plus : get_or xs k 0 ≡ 43 = ap (λ i. get_or (x ∷ xs) i 0) (sym at_plus) ∙ is_plus in
        let last : get_or xs (suc k) 0 ≡ 58 = ap (λ i. get_or (x ∷ xs) i 0) (sym at_last) ∙ h.last in
        ap (λ y. y ∷ xs) h.first
        ∙ ap (λ ys. 58 ∷ ys) (sym (take-append-drop k xs)
        ∙ ap (λ ys. take k xs ++ ys) (two_left xs k (omega (arith, h.long)) ∙ (ap (λ y. y ∷ get_or xs (suc k) 0 ∷ []) plus ∙ ap (λ y. 43 ∷ y ∷ []) last)))
    by false e =
        let k = suc (length xs) - 2 in
        let at_last : suc (length xs) - 1 ≡ suc k = omega (arith, h.long) in
        let last : get_or xs k 0 ≡ 58 = ap (λ i. get_or (x ∷ xs) i 0) (sym at_last) ∙ h.last in
        ap (λ y. y ∷ xs) h.first
        ∙ ap (λ ys. 58 ∷ ys) (sym (take-append-drop k xs)
        ∙ ap (λ ys. take k xs ++ ys) (one_left xs k (omega (arith, h.long)) ∙ ap (λ y. y ∷ []) last))

-- its name is a name
front_is_name : (x : ℕ) (xs : List ℕ) (k : ℕ) → 0 < k → k ≤ length xs → (get_or (x ∷ xs) k 0 == 43) ≡ false → is_name (take k xs) ≡ true
front_is_name x xs zero some within plain = absurd (omega (arith, some))
front_is_name x xs (suc j) some within plain =
    let len : length (take (suc j) xs) ≡ suc j = length-take-le (suc j) xs within in
    let last : suc j - 1 ≡ j = omega arith in
    let same : get_or (take (suc j) xs) j 0 ≡ get_or xs j 0 = get_or-take (suc j) xs j 0 (omega arith) in
    let has_some : nat_lt 0 (suc j) ≡ true = grind (arith, nat_tests, some) in
    rw (len, last, same, plain, has_some) refl

name_within : (w : List ℕ) → 3 ≤ length w → name_len w + 1 ≤ length w
name_within w h = by (has_plus w)
  where
    by : (t : Bool) → cond t (length w - 3) (length w - 2) + 1 ≤ length w
    by true = omega (arith, h)
    by false = omega (arith, h)

named : (w : List ℕ) → IsNodeWord w → is_name (take (name_len w) (drop 1 w)) ≡ true
named [] h = absurd (omega (arith, h.long))
named (x ∷ xs) h = front_is_name x xs (name_len (x ∷ xs)) h.some (omega (arith, name_within (x ∷ xs) h.long)) h.plain

-- the word of a name is a node word and gives that name
pub record IsWordOf (name : List ℕ) (appends : Bool) (w : List ℕ) : Type 0 where
  pub word : is_node_word w ≡ true
  pub plus : has_plus w ≡ appends
  pub front : take (name_len w) (drop 1 w) ≡ name

two : (a b : Bool) → (a && not b) ≡ true → (a ≡ true) × (b ≡ false)
two true false h = (refl, refl)
two true true h = absurd cc
two false b h = absurd cc

all_five : (a b c d e : Bool) → a ≡ true → b ≡ true → c ≡ true → d ≡ true → e ≡ false → (a && b && c && d && not e) ≡ true
all_five a b c d e p q r s t = rw (p, q, r, s, t) refl

-- a word with these parts, whose name has k bytes and ends before the plus or the last colon
with_parts : (appends : Bool) (xs : List ℕ) (k : ℕ) → 0 < k → has_plus (58 ∷ xs) ≡ appends → k ≡ cond appends (suc (length xs) - 3) (suc (length xs) - 2) →
    3 ≤ suc (length xs) → get_or (58 ∷ xs) (suc (length xs) - 1) 0 ≡ 58 → (get_or (58 ∷ xs) k 0 == 43) ≡ false →
    (name : List ℕ) → take k xs ≡ name → IsWordOf name appends (58 ∷ xs)
with_parts appends xs k some plus len long last plain name is =
    let at : name_len (58 ∷ xs) ≡ k = ap (λ t. cond t (suc (length xs) - 3) (suc (length xs) - 2)) plus ∙ sym len in
    let is_long : nat_le 3 (suc (length xs)) ≡ true = grind (arith, nat_tests, long) in
    let is_last : (get_or (58 ∷ xs) (suc (length xs) - 1) 0 == 58) ≡ true = grind (arith, nat_tests, last) in
    let has_some : nat_lt 0 k ≡ true = grind (arith, nat_tests, some) in
    record {
      word = all_five (nat_le 3 (suc (length xs))) true (get_or (58 ∷ xs) (suc (length xs) - 1) 0 == 58) (nat_lt 0 (name_len (58 ∷ xs))) (get_or (58 ∷ xs) (name_len (58 ∷ xs)) 0 == 43)
          is_long refl is_last (ap (λ n. nat_lt 0 n) at ∙ has_some) (ap (λ n. get_or (58 ∷ xs) n 0 == 43) at ∙ plain);
      plus = plus;
      front = ap (λ n. take n xs) at ∙ is;
    }

-- the last byte of a name with more after it
last_byte : (name more : List ℕ) (j : ℕ) → length name ≡ suc j → (get_or name (length name - 1) 0 == 43) ≡ false → (get_or (name ++ more) j 0 == 43) ≡ false
last_byte name more j e plain =
    let at : length name - 1 ≡ j = omega (arith, e) in
    let same : get_or (name ++ more) j 0 ≡ get_or name j 0 = get_or-append name more 0 j (omega (arith, e)) in
    rw same (rw at at plain)

word_of : (name : List ℕ) (appends : Bool) → is_name name ≡ true → IsWordOf name appends (node_word name appends)
word_of name appends h =
    let facts = two (nat_lt 0 (length name)) (get_or name (length name - 1) 0 == 43) h in
    by appends (length name) refl (grind (arith, nat_tests, facts.0)) facts.1
  where
    by : (a : Bool) (n : ℕ) → length name ≡ n → 0 < n → (get_or name (length name - 1) 0 == 43) ≡ false → IsWordOf name a (node_word name a)
    by a zero e some plain = absurd (omega (arith, some))
    by true (suc j) e some plain =
        let xs = name ++ 43 ∷ 58 ∷ [] in
        let len : length xs ≡ suc j + 2 = length-append name (43 ∷ 58 ∷ []) ∙ ap (λ n. n + 2) e in
        let at_plus : suc (length xs) - 2 ≡ suc (length name) = omega (arith, len, e) in
        let at_last : suc (length xs) - 1 ≡ suc (length name + 1) = omega (arith, len, e) in
        let plus : get_or (58 ∷ xs) (suc (length xs) - 2) 0 ≡ 43 = ap (λ i. get_or (58 ∷ xs) i 0) at_plus ∙ get_or-append_seam name 43 (58 ∷ []) 0 in
        let last : get_or (58 ∷ xs) (suc (length xs) - 1) 0 ≡ 58 = ap (λ i. get_or (58 ∷ xs) i 0) at_last ∙ get_or-append-add name (43 ∷ 58 ∷ []) 1 0 in
        with_parts true xs (suc j) (omega arith) (grind (arith, nat_tests, plus)) (omega (arith, len)) (omega (arith, len)) last
        (last_byte name (43 ∷ 58 ∷ []) j e plain) name (ap (λ n. take n xs) (sym e) ∙ take-append_seam name (43 ∷ 58 ∷ []))
    by false (suc j) e some plain =
        let xs = name ++ 58 ∷ [] in
        let len : length xs ≡ suc j + 1 = length-append name (58 ∷ []) ∙ ap (λ n. n + 1) e in
        let at_name : suc (length xs) - 2 ≡ suc j = omega (arith, len) in
        let at_last : suc (length xs) - 1 ≡ suc (length name) = omega (arith, len, e) in
        let before = last_byte name (58 ∷ []) j e plain in
        let plus : (get_or (58 ∷ xs) (suc (length xs) - 2) 0 == 43) ≡ false = ap (λ i. get_or (58 ∷ xs) i 0 == 43) at_name ∙ before in
        let last : get_or (58 ∷ xs) (suc (length xs) - 1) 0 ≡ 58 = ap (λ i. get_or (58 ∷ xs) i 0) at_last ∙ get_or-append_seam name 58 [] 0 in
        with_parts false xs (suc j) (omega arith) plus (omega (arith, len)) (omega (arith, len)) last
        before name (ap (λ n. take n xs) (sym e) ∙ take-append_seam name (58 ∷ []))

-- what the line gives is spelled by it
forth : (line : List ℕ) (g : Given) → given_of line ≡ Some g →
    (first_word line ≡ node_word g.name g.appends) × (is_name g.name ≡ true) × (g.value ≡ trimmed (drop (length (first_word line)) (trim_start line)))
forth line g e = by (is_node line) refl e
  where
    by : (t : Bool) → is_node line ≡ t → cond t (Some (given (first_word line) (trim_start line))) None ≡ Some g →
        (first_word line ≡ node_word g.name g.appends) × (is_name g.name ≡ true) × (g.value ≡ trimmed (drop (length (first_word line)) (trim_start line)))
    by true t e =
        let same : given (first_word line) (trim_start line) ≡ g = cc in
        let w = is_word (first_word line) t in
        rw (sym same) (spelled (first_word line) w, named (first_word line) w, refl)
    by false t e = absurd cc

-- what is spelled by the line is what it gives
back : (line : List ℕ) (g : Given) → first_word line ≡ node_word g.name g.appends → is_name g.name ≡ true →
    g.value ≡ trimmed (drop (length (first_word line)) (trim_start line)) → given_of line ≡ Some g
back line g word name value =
    let b = word_of g.name g.appends name in
    let is : is_node line ≡ true = ap is_node_word word ∙ b.word in
    let plus : has_plus (first_word line) ≡ g.appends = ap has_plus word ∙ b.plus in
    let same : take (name_len (first_word line)) (drop 1 (first_word line)) ≡ g.name = ap (λ w. take (name_len w) (drop 1 w)) word ∙ b.front in
    ap (λ t. cond t (Some (given (first_word line) (trim_start line))) None) is
    ∙ ap Some (made (take (name_len (first_word line)) (drop 1 (first_word line))) g.name (has_plus (first_word line)) g.appends _ g.value same plus (sym value))
  where
    made : (n m : List ℕ) (a b : Bool) (v u : List ℕ) → n ≡ m → a ≡ b → v ≡ u → ◌≡◌ {A = Given} (record { name = n; appends = a; value = v }) (record { name = m; appends = b; value = u })
    made n m a b v u p q r = rw (p, q, r) refl

pub nodes_are_spelled : NodesAreSpelled
nodes_are_spelled line g = (forth line g, λ h. back line g h.0 h.1 h.2)
