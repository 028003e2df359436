-- An effort is small, and its line has at least ten bytes.
use Rattle.std.proofs.Common.{◌≡◌, ◌∙◌, ℕ, suc, ◌+◌, ◌-◌, ◌*◌, ◌^◌, ◌<◌, ◌≤◌, ◌==◌, Bool, true, false, cond, ◌&&◌, not, nat_lt, nat_le, List, [], ◌∷◌, ◌++◌, length, drop, take, map, refl, sym, ap, arith, length-drop, length-append}
use Rattle.std.specs.Prelude.{Option, Some, None, IfSome, codes, bytes_eq}
use Rattle.std.specs.Char.{is_ascii_digit, to_ascii_lowercase}
use Rattle.std.specs.List.{concat, cons_option, filter_map, list_any, prefix_len, suffix_len, take_while}
use Rattle.std.specs.Option.{option_and_then, option_map, option_to_list}
use Rattle.std.specs.Str.Parse.{AllDigits, digits_value}
use Rattle.std.proofs.lemmas.Bool.Decides.{nat_tests}
use Rattle.std.proofs.lemmas.List.Sums.{take_while-cons}
use Rattle.std.proofs.lemmas.Slice.Eq.{bytes_eq-Decides}
use Rattle.org_base.proofs.ValueLemmas.{values_are_of_their_names}
use Rattle.org_base.specs.Properties.{Given, appended_values, gives, joined, plain_value, spaced, value_in}
use Rattle.org_base.specs.Words.{first_word, is_gap, is_letter, trim_start, trimmed}
use Rattle.org_cal.specs.Texts.{two_digits}
use Rattle.org_drawer.proofs.EffortLemmas.{digits_before, digits_below, product_below}
use Rattle.org_drawer.proofs.NodeLemmas.{nodes_are_spelled}
use Rattle.org_drawer.specs.Effort.{after_digits, effort_of, hours, number_of, sixtieths, unit_minutes, units}
use Rattle.org_drawer.specs.Node.{drawer_of, given_of, node_word}
use Rattle.org_stamp.specs.Pair.{past_spaces}
use Rattle.org_sum.proofs.StampSizes.{length-take-most}

-- the effort is at most 9,999 years
abbrev IsSmall : Option ℕ → Type 0
IsSmall effort = IfSome effort (λ m. m ≤ 5_259_074_040)

number_small : (most : ℕ) (ds : List ℕ) → AllDigits 10 ds → IfSome (number_of most ds) (λ n. n < 10 ^ most)
number_small most ds h = by (nat_le (length ds) most) refl
  where
    by : (t : Bool) → nat_le (length ds) most ≡ t → IfSome (cond t (Some (digits_value 10 ds)) None) (λ n. n < 10 ^ most)
    by true e = digits_below most ds h (grind (arith, nat_tests, e))
    by false e = tt

below_sixty : (o : Option ℕ) → IfSome (option_and_then (λ n. cond (nat_lt n 60) (Some n) None) o) (λ n. n < 60)
below_sixty None = tt
below_sixty (Some n) = by (nat_lt n 60) refl
  where
    by : (t : Bool) → nat_lt n 60 ≡ t → IfSome (cond t (Some n) None) (λ n. n < 60)
    by true e = grind (arith, nat_tests, e)
    by false e = tt

sixtieths_small : (rest : List ℕ) → IfSome (sixtieths rest) (λ n. n < 60)
sixtieths_small [] = tt
sixtieths_small (a ∷ []) = tt
sixtieths_small (a ∷ b ∷ []) = below_sixty (two_digits a b)
sixtieths_small (a ∷ b ∷ c ∷ ds) = tt

picked : (t : Bool) (k : ℕ) (o : Option ℕ) → k ≤ 525_960 → IfSome o (λ n. n ≤ 525_960) → IfSome (cond t (Some k) o) (λ n. n ≤ 525_960)
picked true k o h rest = h
picked false k o h rest = rest

unit_small : (u : List ℕ) → IfSome (unit_minutes u) (λ n. n ≤ 525_960)
unit_small u =
    picked (bytes_eq u (codes "min")) 1 _ (omega arith)
    (picked (bytes_eq u (codes "h")) 60 _ (omega arith)
    (picked (bytes_eq u (codes "d")) 1440 _ (omega arith)
    (picked (bytes_eq u (codes "w")) 10_080 _ (omega arith)
    (picked (bytes_eq u (codes "m")) 43_200 _ (omega arith)
    (picked (bytes_eq u (codes "y")) 525_960 None (omega arith) tt)))))

hours_by : (o p : Option ℕ) → IfSome o (λ n. n < 10 ^ 6) → IfSome p (λ n. n < 60) → IsSmall (option_and_then (λ hour. option_map (λ n. hour * 60 + n) p) o)
hours_by None p h k = tt
hours_by (Some a) None h k = tt
hours_by (Some a) (Some b) h k = omega (arith, h, k)

units_by : (o p : Option ℕ) → IfSome o (λ n. n < 10 ^ 4) → IfSome p (λ n. n ≤ 525_960) → IsSmall (option_and_then (λ n. option_map (λ minutes. n * minutes) p) o)
units_by None p h k = tt
units_by (Some a) None h k = tt
units_by (Some a) (Some b) h k = product_below a b (omega (arith, h)) k

whole_by : (o : Option ℕ) → IfSome o (λ n. n < 10 ^ 6) → IsSmall o
whole_by None h = tt
whole_by (Some a) h = omega (arith, h)

after_small : (ds rest : List ℕ) → AllDigits 10 ds → IsSmall (after_digits ds rest)
after_small ds [] h = whole_by (number_of 6 ds) (number_small 6 ds h)
after_small ds (b ∷ rest) h = by (b == 58)
  where
    by : (t : Bool) → IsSmall (cond t (hours ds rest) (units ds (b ∷ rest)))
    by true = hours_by (number_of 6 ds) (sixtieths rest) (number_small 6 ds h) (sixtieths_small rest)
    by false = units_by (number_of 4 ds) (unit_minutes (past_spaces (b ∷ rest))) (number_small 4 ds h) (unit_small (past_spaces (b ∷ rest)))

-- an effort is small
pub effort_small : (text : List ℕ) → IsSmall (effort_of text)
effort_small text = by (prefix_len is_ascii_digit text == 0)
  where
    by : (t : Bool) → IsSmall (cond t None (after_digits (take (prefix_len is_ascii_digit text) text) (drop (prefix_len is_ascii_digit text) text)))
    by true = tt
    by false = after_small (take (prefix_len is_ascii_digit text) text) (drop (prefix_len is_ascii_digit text) text) (digits_before text)

-- of what begins with a gap, that gap goes
trimmed_gap : (b : ℕ) (bs : List ℕ) → is_gap b ≡ true → length (trimmed (b ∷ bs)) ≤ length bs
trimmed_gap b bs gap =
    let front : prefix_len is_gap (b ∷ bs) ≡ 1 + prefix_len is_gap bs = ap (λ v. cond v (1 + prefix_len is_gap bs) 0) gap in
    omega (arith, front, length-drop (prefix_len is_gap (b ∷ bs)) (b ∷ bs), length-take-most (length (trim_start (b ∷ bs)) - suffix_len is_gap (trim_start (b ∷ bs))) (trim_start (b ∷ bs)))

gap_of : (b : ℕ) → is_letter b ≡ false → is_gap b ≡ true
gap_of b h = by (is_gap b) h
  where
    by : (t : Bool) → not t ≡ false → t ≡ true
    by true e = refl
    by false e = absurd cc

-- where something stands after the first word, a gap stands between
behind_word : (rest : List ℕ) → 1 ≤ length (trimmed (drop (length (take_while is_letter rest)) rest)) → length (take_while is_letter rest) + 2 ≤ length rest
behind_word [] h = absurd (omega (arith, h))
behind_word (b ∷ bs) h = by (is_letter b) refl (behind_word bs)
  where
    word : (t : Bool) → is_letter b ≡ t → take_while is_letter (b ∷ bs) ≡ cond t (b ∷ take_while is_letter bs) []
    word t e = take_while-cons is_letter b bs ∙ ap (λ v. cond v (b ∷ take_while is_letter bs) []) e

    by : (t : Bool) → is_letter b ≡ t → (1 ≤ length (trimmed (drop (length (take_while is_letter bs)) bs)) → length (take_while is_letter bs) + 2 ≤ length bs) →
        length (take_while is_letter (b ∷ bs)) + 2 ≤ suc (length bs)
    by true e next =
        let n : length (take_while is_letter (b ∷ bs)) ≡ suc (length (take_while is_letter bs)) = ap length (word true e) in
        let same : length (trimmed (drop (length (take_while is_letter (b ∷ bs))) (b ∷ bs))) ≡ length (trimmed (drop (length (take_while is_letter bs)) bs)) = ap (λ k. length (trimmed (drop k (b ∷ bs)))) n in
        omega (arith, n, next (omega (arith, h, same)))
    by false e next =
        let n : length (take_while is_letter (b ∷ bs)) ≡ 0 = ap length (word false e) in
        let same : length (trimmed (drop (length (take_while is_letter (b ∷ bs))) (b ∷ bs))) ≡ length (trimmed (b ∷ bs)) = ap (λ k. length (trimmed (drop k (b ∷ bs)))) n in
        omega (arith, n, h, same, trimmed_gap b bs (gap_of b e))

word_long : (name : List ℕ) (appends : Bool) → length name + 2 ≤ length (node_word name appends)
word_long name true = omega (arith, length-append name (43 ∷ 58 ∷ []))
word_long name false = omega (arith, length-append name (58 ∷ []))

-- a line that gives a name of six bytes a value has ten bytes: the name, its colons, a gap and the value
value_long : (line : List ℕ) (g : Given) → given_of line ≡ Some g → length g.name ≡ 6 → 1 ≤ length g.value → 10 ≤ length line
value_long line g is six some =
    let f = (nodes_are_spelled line g).0 is in
    let value : length g.value ≡ length (trimmed (drop (length (first_word line)) (trim_start line))) = ap length f.2 in
    omega (arith, ap length f.0, word_long g.name g.appends, six, behind_word (trim_start line) (omega (arith, value, some)), length-drop (prefix_len is_gap line) line)

name_len : (g : Given) → gives (codes "EFFORT") g ≡ true → length g.name ≡ 6
name_len g h =
    let same : map to_ascii_lowercase g.name ≡ map to_ascii_lowercase (codes "EFFORT") = (bytes_eq-Decides (map to_ascii_lowercase g.name) (map to_ascii_lowercase (codes "EFFORT"))).0 h in
    sym (length-mapped g.name) ∙ ap length same
  where
    length-mapped : (xs : List ℕ) → length (map to_ascii_lowercase xs) ≡ length xs
    length-mapped [] = refl
    length-mapped (x ∷ xs) = ap suc (length-mapped xs)

abbrev name : List ℕ
name = codes "EFFORT"

abbrev given : List (List ℕ) → List Given
given lines = filter_map given_of lines

both : (a b : Bool) → (a && b) ≡ true → a ≡ true
both true b h = refl
both false b h = absurd cc

plain_long : (lines : List (List ℕ)) (v : List ℕ) → plain_value name (given lines) ≡ Some v → 1 ≤ length v → 10 ≤ length (concat lines)
plain_long [] v h some = absurd cc
plain_long (l ∷ ls) v h some = by (λ k. plain_long ls v k some) (given_of l) refl h
  where
    more : 10 ≤ length l → 10 ≤ length (l ++ concat ls)
    more long = omega (arith, long, length-append l (concat ls))

    rest : (plain_value name (given ls) ≡ Some v → 10 ≤ length (concat ls)) → plain_value name (given ls) ≡ Some v → 10 ≤ length (l ++ concat ls)
    rest next k = omega (arith, next k, length-append l (concat ls))

    here : (plain_value name (given ls) ≡ Some v → 10 ≤ length (concat ls)) → (g : Given) (t : Bool) → given_of l ≡ Some g → (gives name g && not g.appends) ≡ t → cond t (Some g.value) (plain_value name (given ls)) ≡ Some v → 10 ≤ length (l ++ concat ls)
    here next g true is t k = let e : g.value ≡ v = cc in more (value_long l g is (name_len g (both (gives name g) (not g.appends) t)) (omega (arith, some, ap length e)))
    here next g false is t k = rest next k

    by : (plain_value name (given ls) ≡ Some v → 10 ≤ length (concat ls)) → (o : Option Given) → given_of l ≡ o → plain_value name (given (l ∷ ls)) ≡ Some v → 10 ≤ length (l ++ concat ls)
    by next None is k = rest next (ap (λ (p : Option Given). plain_value name (cons_option p (given ls))) (sym is) ∙ k)
    by next (Some g) is k = here next g (gives name g && not g.appends) is refl (ap (λ (p : Option Given). plain_value name (cons_option p (given ls))) (sym is) ∙ k)

appended_long : (lines : List (List ℕ)) (v : List ℕ) (vs : List (List ℕ)) → appended_values name (given lines) ≡ v ∷ vs → 1 ≤ length v → 10 ≤ length (concat lines)
appended_long [] v vs h some = absurd cc
appended_long (l ∷ ls) v vs h some = by (λ k. appended_long ls v vs k some) (given_of l) refl h
  where
    more : 10 ≤ length l → 10 ≤ length (l ++ concat ls)
    more long = omega (arith, long, length-append l (concat ls))

    rest : (appended_values name (given ls) ≡ v ∷ vs → 10 ≤ length (concat ls)) → appended_values name (given ls) ≡ v ∷ vs → 10 ≤ length (l ++ concat ls)
    rest next k = omega (arith, next k, length-append l (concat ls))

    here : (appended_values name (given ls) ≡ v ∷ vs → 10 ≤ length (concat ls)) → (g : Given) (t : Bool) → given_of l ≡ Some g → (gives name g && g.appends) ≡ t → cond t (g.value ∷ appended_values name (given ls)) (appended_values name (given ls)) ≡ v ∷ vs → 10 ≤ length (l ++ concat ls)
    here next g true is t k = let e : g.value ≡ v = cc in more (value_long l g is (name_len g (both (gives name g) g.appends t)) (omega (arith, some, ap length e)))
    here next g false is t k = rest next k

    by : (appended_values name (given ls) ≡ v ∷ vs → 10 ≤ length (concat ls)) → (o : Option Given) → given_of l ≡ o → appended_values name (given (l ∷ ls)) ≡ v ∷ vs → 10 ≤ length (l ++ concat ls)
    by next None is k = rest next (ap (λ (p : Option Given). appended_values name (cons_option p (given ls))) (sym is) ∙ k)
    by next (Some g) is k = here next g (gives name g && g.appends) is refl (ap (λ (p : Option Given). appended_values name (cons_option p (given ls))) (sym is) ∙ k)

-- the first of several values begins an effort, so it isn't empty
first_long : (v : List ℕ) (vs : List (List ℕ)) (m : ℕ) → effort_of (v ++ spaced vs) ≡ Some m → 1 ≤ length v
first_long [] [] m h = absurd cc
first_long [] (u ∷ us) m h = absurd cc
first_long (b ∷ bs) vs m h = omega arith

joined_long : (lines : List (List ℕ)) (m : ℕ) → effort_of (joined (option_to_list (plain_value name (given lines)) ++ appended_values name (given lines))) ≡ Some m → 10 ≤ length (concat lines)
joined_long lines m h = by (plain_value name (given lines)) (appended_values name (given lines)) refl refl h
  where
    by : (p : Option (List ℕ)) (vs : List (List ℕ)) → plain_value name (given lines) ≡ p → appended_values name (given lines) ≡ vs →
        effort_of (joined (option_to_list p ++ vs)) ≡ Some m → 10 ≤ length (concat lines)
    by (Some v) vs e f k = plain_long lines v e (first_long v vs m k)
    by None [] e f k = absurd cc
    by None (v ∷ vs) e f k = appended_long lines v vs f (first_long v vs m k)

-- where lines give an effort they have ten bytes
pub effort_long : (lines : List (List ℕ)) (m : ℕ) → option_and_then effort_of (value_in (drawer_of lines) name) ≡ Some m → 10 ≤ length (concat lines)
effort_long lines m h = by (list_any (gives name) (given lines)) (sym (ap (option_and_then effort_of) (values_are_of_their_names (given lines) name)) ∙ h)
  where
    by : (t : Bool) → option_and_then effort_of (cond t (Some (joined (option_to_list (plain_value name (given lines)) ++ appended_values name (given lines)))) None) ≡ Some m → 10 ≤ length (concat lines)
    by true k = joined_long lines m k
    by false k = absurd cc
