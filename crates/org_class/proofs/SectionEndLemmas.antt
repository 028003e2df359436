-- The first section of a text, and the others.
use Rattle.std.proofs.Common.{◌≡◌, ◌∙◌, inl, inr, ℕ, zero, suc, ◌+◌, ◌-◌, ◌<◌, ◌≤◌, Bool, true, false, ◌&&◌, ◌==◌, List, [], ◌∷◌, ◌++◌, length, take, drop, get_or, slice_index, refl, sym, ap, subst, ltb, arith, length-take, length-drop, append-nil, append_assoc}
use Rattle.std.specs.List.{slice_range}
use Rattle.std.proofs.lemmas.Bool.{cases_Bool, cases_lt, eqb-true, ne_eqb, le-ltb}
use Rattle.std.proofs.Math.Seq.{take-length}
use Rattle.std.proofs.lemmas.List.{drop-drop, drop-take, take-take, get_or-take, get_or-drop}
use Rattle.memchr.specs.Find.{Nowhere, Passes, is_byte}
use Rattle.org_base.specs.declared.span.Span.{Span}
use Rattle.org_settings.specs.Pieces.{put_before}
use Rattle.org_class.specs.Heading.{begins_heading, stars}
use Rattle.org_class.specs.SectionEnds.{ends_before, IsSectionEnd, begins_line, has_line_star}
use Rattle.org_class.specs.Sections.{sections, spans_from}
use Rattle.org_class.proofs.HeadingWords.{is_star}
use Rattle.org_class.proofs.SectionsWords.{ends_section}
use Rattle.org_class.proofs.AtLemmas.{IsPiece, AreStars, stars_end}

-- a text's first section ends where one ends first
first_section : (t : List ℕ) (m : ℕ) → m < length t → ((k : ℕ) → k < m → ends_section (slice_index t k) (drop (suc k) t) ≡ false) → (suc m < length t → ends_section (slice_index t m) (drop (suc m) t) ≡ true) → sections t ≡ take (suc m) t ∷ sections (drop (suc m) t)
first_section [] m lt none ends = absurd (omega arith)
first_section (b ∷ []) zero lt none ends = elim (ends_section b []) as (λ v. put_before v b [] ≡ (b ∷ []) ∷ []) [ true ↦ refl | false ↦ refl ]
first_section (b ∷ c ∷ cs) zero lt none ends = ap (λ v. put_before v b (sections (c ∷ cs))) (ends (omega arith))
first_section (b ∷ bs) (suc m) lt none ends =
    ap (λ v. put_before v b (sections bs)) (none 0 (omega arith)) ∙ ap (put_before false b) (first_section bs m (omega arith) (λ k h. none (suc k) (omega arith)) (λ h. ends (omega arith)))

-- parts of a range
range_drop : (t : List ℕ) (end at k : ℕ) → at + k ≤ end → drop k (slice_range t at end) ≡ slice_range t (at + k) end
range_drop t end at k le =
    let rest : ℕ = end - (at + k) in
    let e : end - at ≡ k + rest = omega (arith, le) in
    ap (λ n. drop k (take n (drop at t))) e ∙ (drop-take k rest (drop at t) ∙ ap (take rest) (drop-drop k at t))

range_take : (t : List ℕ) (end at place : ℕ) → place ≤ end → take (place - at) (slice_range t at end) ≡ slice_range t at place
range_take t end at place le = take-take (place - at) (end - at) (drop at t) (omega (arith, le))

range_get : (t : List ℕ) (end at k : ℕ) → at + k < end → slice_index (slice_range t at end) k ≡ slice_index t (at + k)
range_get t end at k lt = get_or-take (end - at) (drop at t) k 0 (omega (arith, lt)) ∙ get_or-drop at t k 0

range_length : (t : List ℕ) (end at : ℕ) → at ≤ end → end ≤ length t → length (slice_range t at end) ≡ end - at
range_length t end at order within = omega (arith, length-take (end - at) (drop at t), length-drop at t, order, within)

-- a section ends in a range where it ends in the text up to the range's end
ends_same : (t : List ℕ) (end at k : ℕ) → at + k < end → ends_section (slice_index (slice_range t at end) k) (drop (suc k) (slice_range t at end)) ≡ ends_before t end (at + suc k)
ends_same t end at k lt =
    let before : at + k ≡ at + suc k - 1 = omega arith in
    ap (λ b. ends_section b (drop (suc k) (slice_range t at end))) (range_get t end at k lt)
    ∙ ap (λ bs. ends_section (slice_index t (at + k)) bs) (range_drop t end at (suc k) (omega (arith, lt)))
    ∙ ap (λ i. ends_section (slice_index t i) (slice_range t (at + suc k) end)) before

pub section_range : (t : List ℕ) (end at place : ℕ) → end ≤ length t → IsSectionEnd t end at place → sections (slice_range t at end) ≡ slice_range t at place ∷ sections (slice_range t place end)
section_range t end at place inside e =
    let all : List ℕ = slice_range t at end in
    let m : ℕ = place - at - 1 in
    let next : suc m ≡ place - at = omega (arith, e.after) in
    let there : at + suc m ≡ place = omega (arith, e.after) in
    let len : length all ≡ end - at = range_length t end at (omega (arith, e.after, e.within)) inside in
    let none : (k : ℕ) → k < m → ends_section (slice_index all k) (drop (suc k) all) ≡ false =
    λ k h. ends_same t end at k (omega (arith, h, e.within, next)) ∙ e.none (at + suc k) (omega arith) (omega (arith, h, there)) in
    let ends : suc m < length all → ends_section (slice_index all m) (drop (suc m) all) ≡ true =
    λ h. ends_same t end at m (omega (arith, h, len)) ∙ (ap (ends_before t end) there ∙ e.ends (omega (arith, h, len, there))) in
    let front : take (suc m) all ≡ slice_range t at place = ap (λ n. take n all) next ∙ range_take t end at place e.within in
    let back : drop (suc m) all ≡ slice_range t place end = range_drop t end at (suc m) (omega (arith, there, e.within)) ∙ ap (λ k. slice_range t k end) there in
    first_section all m (omega (arith, len, e.after, e.within, next)) none ends
    ∙ ap (λ s. s ∷ sections (drop (suc m) all)) front
    ∙ ap (λ bs. slice_range t at place ∷ sections bs) back

-- the places of the sections so far and of those that are left, one section further
pub spans_more : (t : List ℕ) (done new all : List Span) (end at place : ℕ) → end ≤ length t → IsSectionEnd t end at place → new ≡ done ++ record { at = at; len = place - at } ∷ [] → done ++ spans_from at (sections (slice_range t at end)) ≡ all → new ++ spans_from place (sections (slice_range t place end)) ≡ all
spans_more t done new all end at place inside e pushed so_far =
    let rest : List (List ℕ) = sections (slice_range t place end) in
    let len : length (slice_range t at place) ≡ place - at = range_length t place at (omega (arith, e.after)) (omega (arith, e.within, inside)) in
    let there : at + (place - at) ≡ place = omega (arith, e.after) in
    let first : spans_from at (sections (slice_range t at end)) ≡ record { at = at; len = place - at } ∷ spans_from place rest =
    ap (spans_from at) (section_range t end at place inside e)
    ∙ ap (λ n. record { at = at; len = n } ∷ spans_from (at + n) rest) len
    ∙ ap (λ n. record { at = at; len = place - at } ∷ spans_from n rest) there in
    ap (λ ss. ss ++ spans_from place rest) pushed
    ∙ append_assoc done (record { at = at; len = place - at } ∷ []) (spans_from place rest)
    ∙ ap (λ ss. done ++ ss) (sym first)
    ∙ so_far

-- no section is left at the end
pub spans_done : (t : List ℕ) (done all : List Span) (end at : ℕ) → end ≤ at → done ++ spans_from at (sections (slice_range t at end)) ≡ all → done ≡ all
spans_done t done all end at past so_far =
    let none : end - at ≡ 0 = omega (arith, past) in
    sym (append-nil done) ∙ (ap (λ n. done ++ spans_from at (sections (take n (drop at t)))) (sym none) ∙ so_far)

take-self : (m : ℕ) (xs : List ℕ) → take m xs ≡ take (length (take m xs)) xs
take-self zero xs = refl
take-self (suc m) [] = refl
take-self (suc m) (x ∷ xs) = ap (λ ys. x ∷ ys) (take-self m xs)

-- a run of the text from a place on, and its front
pub run_of : (t piece : List ℕ) (here m : ℕ) → IsPiece t here piece → IsPiece t here (take m piece)
run_of t piece here m is =
    let n : length (take m piece) ≤ length piece = omega (arith, length-take m piece) in
    take-self m piece ∙ (ap (take (length (take m piece))) is ∙ take-take (length (take m piece)) (length piece) (drop here t) n)

run_byte : (t run : List ℕ) (here k : ℕ) → IsPiece t here run → k < length run → slice_index run k ≡ slice_index t (here + k)
run_byte t run here k is lt = ap (λ q. get_or q k 0) is ∙ (get_or-take (length run) (drop here t) k 0 lt ∙ get_or-drop here t k 0)

-- whether a line feed stands before a place of a run
line_begins : (t run : List ℕ) (here k : ℕ) (at_front : Bool) → IsPiece t here run → 0 < here → k < length run → at_front ≡ (slice_index t (here - 1) == 10) → begins_line at_front run k ≡ (slice_index t (here + k - 1) == 10)
line_begins t run here zero at_front is some lt front = front ∙ ap (λ i. slice_index t i == 10) (let e : here - 1 ≡ here + 0 - 1 = omega arith in e)
line_begins t run here (suc k) at_front is some lt front =
    let last : suc k - 1 ≡ k = omega arith in
    let same : here + k ≡ here + suc k - 1 = omega arith in
    rw (ne_eqb (suc k) 0 (λ e. omega (arith, e))) (ap (λ i. slice_index run i == 10) last ∙ (ap (λ b. b == 10) (run_byte t run here k is (omega (arith, lt))) ∙ ap (λ i. slice_index t i == 10) same))

heading_star : (xs : List ℕ) → begins_heading xs ≡ true → is_star (get_or xs 0 0) ≡ true
heading_star [] h = absurd cc
heading_star (b ∷ bs) h = elim (cases_Bool (b == 42)) [
  | inl e ↦ e
  | inr e ↦ absurd (let both : false ≡ true = sym (rw e refl) ∙ h in cc)
]

and_no : (b : Bool) → (b && false) ≡ false
and_no true = refl
and_no false = refl

and_left : (a b : Bool) → (a && b) ≡ false → b ≡ true → a ≡ false
and_left true b h e = absurd (let both : true ≡ false = sym e ∙ h in cc)
and_left false b h e = refl

and_both : (a b : Bool) → (a && b) ≡ true → a ≡ true
and_both true b h = refl
and_both false b h = absurd cc

-- where no line begins at a star, no section ends
pub no_end : (t run : List ℕ) (end here k : ℕ) (at_front : Bool) → IsPiece t here run → 0 < here → here + length run ≤ end → k < length run → at_front ≡ (slice_index t (here - 1) == 10) → has_line_star at_front run k ≡ false → ends_before t end (here + k) ≡ false
no_end t run end here k at_front is some inside lt front none =
    let bs : List ℕ = slice_range t (here + k) end in
    let b : ℕ = slice_index t (here + k - 1) in
    elim (cases_Bool (begins_heading bs)) [
      | inl h ↦
          let at : slice_index bs 0 ≡ slice_index run k =
          range_get t end (here + k) 0 (omega (arith, lt, inside)) ∙ (ap (slice_index t) (let e : here + k + 0 ≡ here + k = omega arith in e) ∙ sym (run_byte t run here k is lt)) in
          let star : is_star (slice_index run k) ≡ true = ap is_star (sym at) ∙ heading_star bs h in
          let other : (b == 10) ≡ false = sym (line_begins t run here k at_front is some lt front) ∙ and_left (begins_line at_front run k) (is_star (slice_index run k)) none star in
          ap (λ v. v && begins_heading bs) other
      | inr h ↦ ap (λ v. (b == 10) && v) h ∙ and_no (b == 10)
    ]

-- where a line begins at a star, a section ends if a heading line begins there
pub star_end : (t run : List ℕ) (end here k : ℕ) (at_front : Bool) → IsPiece t here run → 0 < here → k < length run → at_front ≡ (slice_index t (here - 1) == 10) → has_line_star at_front run k ≡ true → ends_before t end (here + k) ≡ begins_heading (slice_range t (here + k) end)
star_end t run end here k at_front is some lt front all =
    let feed : (slice_index t (here + k - 1) == 10) ≡ true = sym (line_begins t run here k at_front is some lt front) ∙ and_both (begins_line at_front run k) (is_star (slice_index run k)) all in
    ap (λ v. v && begins_heading (slice_range t (here + k) end)) feed

-- no section ends among places where no line begins at a star
pub ends_further : (t run : List ℕ) (end at here n : ℕ) (at_front : Bool) → IsPiece t here run → at < here → here + length run ≤ end → n ≤ length run → at_front ≡ (slice_index t (here - 1) == 10) → ((k : ℕ) → k < n → has_line_star at_front run k ≡ false) → ((k : ℕ) → at < k → k < here → ends_before t end k ≡ false) → (k : ℕ) → at < k → k < here + n → ends_before t end k ≡ false
ends_further t run end at here n at_front is order inside most front none before k lo hi = elim (cases_lt k here) [
  | inl lt ↦ before k lo lt
  | inr ge ↦
      let same : here + (k - here) ≡ k = omega (arith, ge) in
      ap (ends_before t end) (sym same) ∙ no_end t run end here (k - here) at_front is (omega (arith, order)) inside (omega (arith, ge, hi, most)) front (none (k - here) (omega (arith, ge, hi)))
]

-- one place further
pub one_further : (P : ℕ → Type 0) (n : ℕ) → P n → ((k : ℕ) → k < n → P k) → (k : ℕ) → k < n + 1 → P k
one_further P n here before k hi = elim (cases_lt k n) [
  | inl lt ↦ before k lt
  | inr ge ↦ subst P (let e : n ≡ k = omega (arith, ge, hi) in e) here
]

-- a line begins at no star before the first star after a place
pub no_star_further : (at_front : Bool) (run behind : List ℕ) (from n : ℕ) → behind ≡ drop from run → ((k : ℕ) → k < from → has_line_star at_front run k ≡ false) → Nowhere (Passes (is_byte 42) behind) 0 n → (k : ℕ) → k < from + n → has_line_star at_front run k ≡ false
no_star_further at_front run behind from n rest before nowhere k hi = elim (cases_lt k from) [
  | inl lt ↦ before k lt
  | inr ge ↦
      let same : from + (k - from) ≡ k = omega (arith, ge) in
      let byte : slice_index (drop from run) (k - from) ≡ slice_index run k = get_or-drop from run (k - from) 0 ∙ ap (slice_index run) same in
      elim (cases_Bool (is_star (slice_index run k))) [
        | inl e ↦ absurd (nowhere (k - from) (omega arith) (omega (arith, ge, hi)) (ap is_star (ap (λ q. get_or q (k - from) 0) rest ∙ byte) ∙ e))
        | inr e ↦ ap (λ v. begins_line at_front run k && v) e ∙ and_no (begins_line at_front run k)
      ]
]

pub star_byte : (run behind : List ℕ) (from i : ℕ) → behind ≡ drop from run → Passes (is_byte 42) behind i → is_star (slice_index run (from + i)) ≡ true
star_byte run behind from i rest is = ap is_star (sym (ap (λ q. get_or q i 0) rest ∙ get_or-drop from run i 0)) ∙ is

pub and_true : (a b : Bool) → a ≡ true → b ≡ true → (a && b) ≡ true
and_true a b one two = ap (λ v. v && b) one ∙ two

and_right : (a b : Bool) → (a && b) ≡ true → b ≡ true
and_right true b h = h
and_right false b h = absurd cc

-- a star is no line feed
pub star_ends_no_line : (t run : List ℕ) (here k : ℕ) (at_front : Bool) → IsPiece t here run → k < length run → has_line_star at_front run k ≡ true → false ≡ (slice_index t (here + k + 1 - 1) == 10)
star_ends_no_line t run here k at_front is lt star =
    let byte : slice_index run k ≡ 42 = eqb-true (slice_index run k) 42 (and_right (begins_line at_front run k) (is_star (slice_index run k)) star) in
    let same : here + k ≡ here + k + 1 - 1 = omega arith in
    ap (λ b. b == 10) (sym byte ∙ (run_byte t run here k is lt ∙ ap (slice_index t) same))

-- whether a run ends with a line feed
pub run_ends_line : (t run : List ℕ) (here : ℕ) → IsPiece t here run → 0 < length run → (slice_index run (length run - 1) == 10) ≡ (slice_index t (here + length run - 1) == 10)
run_ends_line t run here is some =
    let same : here + (length run - 1) ≡ here + length run - 1 = omega (arith, some) in
    ap (λ b. b == 10) (run_byte t run here (length run - 1) is (omega (arith, some)) ∙ ap (slice_index t) same)

-- a range is the end of the text up to its own end
pub range_is_drop : (t : List ℕ) (end at : ℕ) → at ≤ end → slice_range t at end ≡ drop at (take end t)
range_is_drop t end at le =
    let sum : at + (end - at) ≡ end = omega (arith, le) in
    sym (ap (λ n. drop at (take n t)) (sym sum) ∙ drop-take at (end - at) t)

pub whole_range : (t : List ℕ) (at : ℕ) → at ≤ length t → slice_range t at (length t) ≡ drop at t
whole_range t at le = range_is_drop t (length t) at le ∙ ap (drop at) (take-length t)

-- a run of a text is one of the text up to an end
pub run_before : (t piece : List ℕ) (end here m : ℕ) → IsPiece t here piece → here ≤ end → here + length (take m piece) ≤ end → IsPiece (take end t) here (take m piece)
run_before t piece end here m is le inside =
    let n : ℕ = length (take m piece) in
    run_of t piece here m is
    ∙ sym (ap (take n) (sym (range_is_drop t end here le)) ∙ take-take n (end - here) (drop here t) (omega (arith, inside)))

-- no star stands there
pub no_stars : (t : List ℕ) (at place : ℕ) (piece : List ℕ) (n : ℕ) → AreStars t at place → IsPiece t place piece → n ≡ stars piece → n < length piece → place + n ≤ at → ltb at (place + n) ≡ begins_heading (drop at t)
no_stars t at place piece n h is count less none =
    let no : ltb at (place + n) ≡ false = le-ltb at (place + n) none in
    no ∙ sym (ap (λ b. b && (get_or piece n 0 == 32)) no) ∙ stars_end t at place piece n h is count less

pub no_end_behind : (P : ℕ → Type 0) (at n : ℕ) → P n → ((k : ℕ) → at < k → k < n → P k) → (k : ℕ) → at < k → k < n + 1 → P k
no_end_behind P at n here before k lo hi = elim (cases_lt k n) [
  | inl lt ↦ before k lo lt
  | inr ge ↦ subst P (let e : n ≡ k = omega (arith, ge, hi) in e) here
]
