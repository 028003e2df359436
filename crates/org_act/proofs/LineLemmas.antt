-- Lines of a text, one after the other.
use Rattle.std.proofs.Common.{◌≡◌, ◌≢◌, ◌∙◌, ℕ, ◌+◌, ◌-◌, ◌<◌, ◌≤◌, Bool, true, false, ◌==◌, inl, inr, List, [], ◌∷◌, length, drop, get_or, refl, sym, ap, arith, length-drop, take, subst}
use Rattle.std.specs.Prelude.{Option, None, if◌then◌else◌, ◌&&◌, nat_le}
use Rattle.std.proofs.lemmas.List.{drop-drop, drop_all, take_all}
use Rattle.std.proofs.lemmas.Bool.{cases_Bool}
use Rattle.std.proofs.lemmas.Bool.Decides.{nat_tests}
use Rattle.org_act.specs.Lines.{first_line, heading_from, if_heading, subtree_end}
use Rattle.org_class.specs.Heading.{begins_heading, stars}
use Rattle.org_class.proofs.LineLemmas.{first_line as split_line}
use Rattle.org_lines.specs.Cuts.{lines}
use Rattle.std.specs.List.{onto_first}

-- a text that isn't empty is its first line and the lines behind it

pub record Parts (text : List ℕ) : Type 0 where
  pub some : 0 < length (first_line text)
  pub within : length (first_line text) ≤ length text
  pub lines_are : lines text ≡ first_line text ∷ lines (drop (length (first_line text)) text)

some_lines : (b : ℕ) (bs : List ℕ) → (first : List ℕ) × (rest : List (List ℕ)) × (lines (b ∷ bs) ≡ first ∷ rest)
some_lines b bs = elim (cases_Bool (b == 10)) [
  | inl e ↦ (b ∷ [], lines bs, rw e refl)
  | inr e ↦ by (lines bs) (rw e refl)
]
  where
    by : (ls : List (List ℕ)) → lines (b ∷ bs) ≡ onto_first b ls → (first : List ℕ) × (rest : List (List ℕ)) × (lines (b ∷ bs) ≡ first ∷ rest)
    by [] e = (b ∷ [], [], e)
    by (l ∷ ls) e = (b ∷ l, ls, e)

pub parts : (text : List ℕ) → 0 < length text → Parts text
parts [] h = absurd (omega (arith, h))
parts (b ∷ bs) h =
    let some = some_lines b bs in
    let first : first_line (b ∷ bs) ≡ some.0 = ap (λ ls. get_or ls 0 []) some.2 in
    let line = split_line (b ∷ bs) some.0 some.1 some.2 in
    let size : length (first_line (b ∷ bs)) ≡ length some.0 = ap length first in
    record {
      some = omega (arith, size, line.some);
      within = omega (arith, size, line.within);
      lines_are = some.2 ∙ (ap (λ ls. some.0 ∷ ls) (sym line.behind) ∙ (ap (λ l. l ∷ lines (drop (length some.0) (b ∷ bs))) (sym first)
          ∙ ap (λ n. first_line (b ∷ bs) ∷ lines (drop n (b ∷ bs))) (sym size)));
    }

-- one line further

pub heading_more : (number at : ℕ) (text : List ℕ) (line : List ℕ) (whole : Option ℕ) → at < length text → line ≡ first_line (drop at text) → heading_from number at (lines (drop at text)) ≡ whole →
    (if number == 1 then if_heading line at else heading_from (number - 1) (at + length line) (lines (drop (at + length line) text))) ≡ whole
unfolding heading_from
heading_more number at text line whole lt is all =
    let rest = drop at text in
    let p = parts rest (omega (arith, length-drop at text, lt)) in
    let behind : drop (length (first_line rest)) rest ≡ drop (at + length (first_line rest)) text = drop-drop (length (first_line rest)) at text in
    ap (λ l. if number == 1 then if_heading l at else heading_from (number - 1) (at + length l) (lines (drop (at + length l) text))) is
    ∙ (ap (λ b. if number == 1 then if_heading (first_line rest) at else heading_from (number - 1) (at + length (first_line rest)) (lines b)) (sym behind)
    ∙ (sym (ap (heading_from number at) p.lines_are) ∙ all))

pub heading_none : (number at : ℕ) (text : List ℕ) (whole : Option ℕ) → length text ≤ at → heading_from number at (lines (drop at text)) ≡ whole → None ≡ whole
unfolding heading_from
heading_none number at text whole le all = sym (ap (λ b. heading_from number at (lines b)) (drop_all at text le)) ∙ all

-- by a test

pub if_true : {A : Type 0} (b : Bool) (x y whole : A) → b ≡ true → (if b then x else y) ≡ whole → x ≡ whole
if_true true x y whole h e = e
if_true false x y whole h e = absurd cc

pub if_false : {A : Type 0} (b : Bool) (x y whole : A) → b ≡ false → (if b then x else y) ≡ whole → y ≡ whole
if_false false x y whole h e = e
if_false true x y whole h e = absurd cc

pub is_one : (n : ℕ) → n ≡ 1 → (n == 1) ≡ true
is_one n e = grind (arith, nat_tests)

pub is_other : (n : ℕ) → n ≢ 1 → (n == 1) ≡ false
is_other n e = grind (arith, nat_tests)

pub subtree_more : (level at : ℕ) (text line : List ℕ) (whole : ℕ) → at < length text → line ≡ first_line (drop at text) → subtree_end level at (lines (drop at text)) ≡ whole →
    (if begins_heading line && nat_le (stars line) level then at else subtree_end level (at + length line) (lines (drop (at + length line) text))) ≡ whole
unfolding subtree_end
subtree_more level at text line whole lt is all =
    let rest = drop at text in
    let p = parts rest (omega (arith, length-drop at text, lt)) in
    let behind : drop (length (first_line rest)) rest ≡ drop (at + length (first_line rest)) text = drop-drop (length (first_line rest)) at text in
    ap (λ l. if begins_heading l && nat_le (stars l) level then at else subtree_end level (at + length l) (lines (drop (at + length l) text))) is
    ∙ (ap (λ b. if begins_heading (first_line rest) && nat_le (stars (first_line rest)) level then at else subtree_end level (at + length (first_line rest)) (lines b)) (sym behind)
    ∙ (sym (ap (subtree_end level at) p.lines_are) ∙ all))

pub subtree_none : (level at : ℕ) (text : List ℕ) (whole : ℕ) → length text ≤ at → subtree_end level at (lines (drop at text)) ≡ whole → at ≡ whole
unfolding subtree_end
subtree_none level at text whole le all = sym (ap (λ b. subtree_end level at (lines b)) (drop_all at text le)) ∙ all

pub within_level : (b : Bool) (s level : ℕ) → b ≡ true → s ≤ level → (b && nat_le s level) ≡ true
within_level b s level is le = rw is (small s level le)
  where
    small : (s level : ℕ) → s ≤ level → nat_le s level ≡ true
    small s level le = grind (arith, nat_tests)

pub above_level : (b : Bool) (s level : ℕ) → b ≡ true → level < s → (b && nat_le s level) ≡ false
above_level b s level is lt = rw is (large s level lt)
  where
    large : (s level : ℕ) → level < s → nat_le s level ≡ false
    large s level lt = grind (arith, nat_tests)

pub no_heading_line : (b : Bool) (s level : ℕ) → b ≡ false → (b && nat_le s level) ≡ false
no_heading_line b s level is = rw is refl

-- what a slice from a place on has

pub rest_is : (at : ℕ) (text l : List ℕ) → l ≡ first_line (take (length text - at) (drop at text)) → l ≡ first_line (drop at text)
rest_is at text l h = h ∙ ap first_line (take_all (length text - at) (drop at text) (omega (arith, length-drop at text)))

pub rest_within : (at : ℕ) (text l : List ℕ) → length l ≤ length (take (length text - at) (drop at text)) → length l ≤ length (drop at text)
rest_within at text l h = subst (λ (t : List ℕ). length l ≤ length t) (take_all (length text - at) (drop at text) (omega (arith, length-drop at text))) h
