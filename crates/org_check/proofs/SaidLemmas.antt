-- What findings say of marks, one by one.
use Rattle.std.proofs.Common.{◌≡◌, ◌⊎◌, ℕ, zero, suc, ◌+◌, ◌-◌, ◌<◌, ◌≤◌, inl, inr, List, [], ◌∷◌, ◌++◌, map, length, drop, refl, sym, ap, ◌∙◌, subst, arith, append_assoc, append-nil}
use Rattle.std.specs.Cow.{cow_slice_items}
use Rattle.std.specs.Prelude.{Option, Some, None, Contains, slice_get, slice_index_or}
use Rattle.std.specs.List.{position_or_len}
use Rattle.std.specs.List.Sorted.{IsPermutation}
use Rattle.std.proofs.lemmas.Bool.{cases_Bool}
use Rattle.std.proofs.lemmas.List.Sorted.{Contains-permutation, IsPermutation-sym}
use Rattle.org_class.specs.declared.class.Class.{Class}
use Rattle.org_lines.specs.Cuts.{Cut, cuts}
use Rattle.org_lines.specs.declared.lines.Line.{Line}
use Rattle.org_stamp.specs.Stamp.{is_close}
use Rattle.org_stamp.proofs.LineLemmas.{close_later}
use Rattle.org_check.specs.Marked.{IsMarkOf}
use Rattle.org_check.specs.Marks.{cut_marks, line_marks, mark_at, mark_if, marks_if, marks_in_line, unread_marks}
use Rattle.org_check.specs.Said.{AreSaid, mark_of, option_list, said}
use Rattle.org_check.specs.UnreadStamps.{is_unread, unread_from}
use Rattle.org_check.specs.declared.finding.Finding.{Finding}
use Rattle.org_check.specs.declared.look.Look.TheVariants as look
use Rattle.org_check.specs.declared.look.Mark.{Mark}
use Rattle.org_check.proofs.UnreadLemmas.{none_here, none_left, one_here}

-- findings after findings
said_both : (a b : List Finding) → said (a ++ b) ≡ said a ++ said b
said_both [] b = refl
said_both (f ∷ a) b =
    ap (λ ms. option_list (mark_of f) ++ ms) (said_both a b)
    ∙ sym (append_assoc (option_list (mark_of f)) (said a) (said b))

-- in a line in which nothing looks like a stamp nothing is unread
pub no_looks : (old : List Mark) (at : ℕ) (line : List ℕ) → unread_from (drop 0 line) 0 ≡ [] → old ≡ old ++ unread_marks at line
no_looks old at line none = sym (append-nil old) ∙ ap (λ ps. old ++ map (mark_at look.Stamp at) ps) (sym none)

-- one finding more
pub said_more : (fs : List Finding) (f : Finding) → said (fs ++ f ∷ []) ≡ said fs ++ option_list (mark_of f)
said_more fs f = said_both fs (f ∷ []) ∙ ap (λ ms. said fs ++ ms) (append-nil (option_list (mark_of f)))

-- what explains nothing adds nothing
pub says_nothing : (old new : List Mark) → new ≡ old ++ [] → new ≡ old
says_nothing old new is = is ∙ append-nil old

in_front : (m : Mark) (a b : List Mark) → IsMarkOf m a → IsMarkOf m (a ++ b)
in_front m [] b has = absurd has
in_front m (n ∷ a) b (inl is) = inl is
in_front m (n ∷ a) b (inr has) = inr (in_front m a b has)

in_back : (m : Mark) (a b : List Mark) → IsMarkOf m b → IsMarkOf m (a ++ b)
in_back m [] b has = has
in_back m (n ∷ a) b has = inr (in_back m a b has)

in_either : (m : Mark) (a b : List Mark) → IsMarkOf m (a ++ b) → IsMarkOf m a ⊎ IsMarkOf m b
in_either m [] b has = inr has
in_either m (n ∷ a) b (inl is) = inl (inl is)
in_either m (n ∷ a) b (inr has) = elim (in_either m a b has) [ inl here ↦ inl (inr here) | inr there ↦ inr there ]

only_one : (m : Mark) (o : Option Mark) → IsMarkOf m (option_list o) → o ≡ Some m
only_one m None has = absurd has
only_one m (Some n) (inl is) = ap Some (sym is)
only_one m (Some n) (inr has) = absurd has

one_only : (m : Mark) (o : Option Mark) → o ≡ Some m → IsMarkOf m (option_list o)
one_only m o is = subst (λ (x : Option Mark). IsMarkOf m (option_list x)) (sym is) (inl refl)

-- the finding of a mark, by its place
abbrev Explained : Mark → List Finding → Type 0
Explained m fs = (f : Finding) × Contains fs f × (mark_of f ≡ Some m)

explained : (m : Mark) (fs : List Finding) → IsMarkOf m (said fs) → Explained m fs
explained m [] has = absurd has
explained m (f ∷ fs) has =
    elim (in_either m (option_list (mark_of f)) (said fs) has) [
      | inl here ↦ (f, (0, (let lt : 0 < length (f ∷ fs) = omega arith in lt), refl), only_one m (mark_of f) here)
      | inr later ↦
          let found = explained m fs later in
          (found.0, (suc found.1.0, (let lt : suc found.1.0 < length (f ∷ fs) = omega (arith, found.1.1) in lt), found.1.2), found.2)
    ]

explains : (m : Mark) (fs : List Finding) (f : Finding) (k : ℕ) → k < length fs → slice_index_or fs k f ≡ f → mark_of f ≡ Some m → IsMarkOf m (said fs)
explains m [] f k lt at is = absurd (omega (arith, lt))
explains m (g ∷ fs) f zero lt at is = in_front m (option_list (mark_of g)) (said fs) (one_only m (mark_of g) (ap mark_of at ∙ is))
explains m (g ∷ fs) f (suc k) lt at is = in_back m (option_list (mark_of g)) (said fs) (explains m fs f k (omega (arith, lt)) at is)

moved : (m : Mark) (xs ys : List Finding) → IsPermutation xs ys → IsMarkOf m (said xs) → IsMarkOf m (said ys)
moved m xs ys same has =
    let found = explained m xs has in
    let there = Contains-permutation xs ys found.0 same found.1 in
    explains m ys found.0 there.0 there.1 there.2 found.2

-- findings that explain just some marks explain them in any order
pub said_in_order : (marks : List Mark) (start fs gs : List Finding) → start ≡ [] → said fs ≡ said start ++ marks → IsPermutation fs gs → AreSaid marks gs
said_in_order marks start fs gs empty is same =
    let all : said fs ≡ marks = is ∙ ap (λ x. said x ++ marks) empty in
    λ m. ((λ has. moved m fs gs same (subst (IsMarkOf m) (sym all) has)), (λ has. subst (IsMarkOf m) all (moved m gs fs (IsPermutation-sym fs gs same) has)))

no_classes : (ls : List Cut) → cut_marks ls [] ≡ []
no_classes [] = refl
no_classes (l ∷ ls) = refl

-- marks don't depend on how a text lends its lines
pub same_marks : (run : ℕ → ℕ) (at : ℕ) (ls : List (List ℕ)) (cs : List Class) → cut_marks (cuts run at ls) cs ≡ cut_marks (cuts (λ a. 0) at ls) cs
same_marks run at [] cs = refl
same_marks run at (l ∷ ls) [] = refl
same_marks run at (l ∷ ls) (c ∷ cs) = ap (λ ms. line_marks c at l ++ ms) (same_marks run (at + length l) ls cs)

-- the first line, by the class at its place, and the others
first_marks : (cs : List Class) (n : ℕ) (l : Cut) (ls : List Cut) → cut_marks (l ∷ ls) (drop n cs) ≡ marks_if (slice_get cs n) l.at l.bytes ++ cut_marks ls (drop (suc n) cs)
first_marks [] zero l ls = sym (no_classes ls)
first_marks [] (suc n) l ls = sym (no_classes ls)
first_marks (c ∷ cs) zero l ls = refl
first_marks (c ∷ cs) (suc n) l ls = first_marks cs n l ls

-- one line more
pub marks_more : (cs : List Class) (n : ℕ) (done new all : List Mark) (s t : List Cut) (cut : Cut) (line : Line) (class : Option Class) → s ≡ cut ∷ t → line.span.at ≡ cut.at → cow_slice_items line.bytes ≡ cut.bytes → class ≡ slice_get cs n → new ≡ done ++ marks_in_line class line → done ++ cut_marks s (drop n cs) ≡ all → new ++ cut_marks t (drop (n + 1) cs) ≡ all
marks_more cs n done new all s t cut line class first at is place pushed so_far =
    let next : n + 1 ≡ suc n = omega arith in
    let here : marks_in_line class line ≡ marks_if (slice_get cs n) cut.at cut.bytes =
    ap (λ c. marks_if c line.span.at (cow_slice_items line.bytes)) place
    ∙ ap (λ a. marks_if (slice_get cs n) a (cow_slice_items line.bytes)) at
    ∙ ap (marks_if (slice_get cs n) cut.at) is in
    ap (λ x. x ++ cut_marks t (drop (n + 1) cs)) (pushed ∙ ap (λ x. done ++ x) here)
    ∙ append_assoc done (marks_if (slice_get cs n) cut.at cut.bytes) (cut_marks t (drop (n + 1) cs))
    ∙ ap (λ m. done ++ (marks_if (slice_get cs n) cut.at cut.bytes ++ cut_marks t (drop m cs))) next
    ∙ ap (λ x. done ++ x) (sym (first_marks cs n cut t))
    ∙ ap (λ x. done ++ cut_marks x (drop n cs)) (sym first)
    ∙ so_far

-- no line is left
pub marks_end : (cs : List Class) (n : ℕ) (done all : List Mark) (s : List Cut) → s ≡ [] → done ++ cut_marks s (drop n cs) ≡ all → done ≡ all
marks_end cs n done all s none so_far = sym (append-nil done) ∙ ap (λ x. done ++ cut_marks x (drop n cs)) (sym none) ∙ so_far

-- one place more that looks like a stamp, and has a mark if it is none
pub stamp_step : (done new all : List Mark) (at from p : ℕ) (line : List ℕ) → p < length line → new ≡ done ++ mark_if (is_unread (drop p line)) look.Stamp at p → unread_from (drop from line) from ≡ unread_from (drop p line) p → done ++ map (mark_at look.Stamp at) (unread_from (drop from line) from) ≡ all → new ++ map (mark_at look.Stamp at) (unread_from (drop (p + 1) line) (p + 1)) ≡ all
stamp_step done new all at from p line lt pushed skipped so_far =
    let later = map (mark_at look.Stamp at) (unread_from (drop (p + 1) line) (p + 1)) in
    elim (cases_Bool (is_unread (drop p line))) [
      | inl is ↦
          ap (λ x. x ++ later) (pushed ∙ ap (λ t. done ++ mark_if t look.Stamp at p) is)
          ∙ append_assoc done (mark_at look.Stamp at p ∷ []) later
          ∙ ap (λ x. done ++ map (mark_at look.Stamp at) x) (sym (one_here line p lt is))
          ∙ ap (λ x. done ++ map (mark_at look.Stamp at) x) (sym skipped)
          ∙ so_far
      | inr isnt ↦
          ap (λ x. x ++ later) (pushed ∙ ap (λ t. done ++ mark_if t look.Stamp at p) isnt ∙ append-nil done)
          ∙ ap (λ x. done ++ map (mark_at look.Stamp at) x) (sym (none_here line p lt isnt))
          ∙ ap (λ x. done ++ map (mark_at look.Stamp at) x) (sym skipped)
          ∙ so_far
    ]

-- none is left
pub stamps_end : (done all : List Mark) (at from : ℕ) (line : List ℕ) → unread_from (drop from line) from ≡ [] → done ++ map (mark_at look.Stamp at) (unread_from (drop from line) from) ≡ all → done ≡ all
stamps_end done all at from line none so_far =
    sym (append-nil done) ∙ ap (λ x. done ++ map (mark_at look.Stamp at) x) (sym none) ∙ so_far

pub stamps_past : (done all : List Mark) (at from : ℕ) (line : List ℕ) → length line ≤ from → done ++ map (mark_at look.Stamp at) (unread_from (drop from line) from) ≡ all → done ≡ all
stamps_past done all at from line past so_far = stamps_end done all at from line (none_left line from past) so_far

-- a closing bracket that is known from one place on is known from a later place on
pub close_from : (line : List ℕ) (from place close : ℕ) → from ≤ place → (from ≤ close → close ≡ from + position_or_len is_close (drop from line)) → place ≤ close → close ≡ place + position_or_len is_close (drop place line)
close_from line from place close le known far =
    let k = place - from in
    let same : from + k ≡ place = omega (arith, le) in
    subst (λ (p : ℕ). close ≡ p + position_or_len is_close (drop p line)) same (close_later line from k close (known (omega (arith, le, far))) (omega (arith, same, far)))
