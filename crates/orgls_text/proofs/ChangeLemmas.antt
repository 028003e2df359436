-- What changes of a text leave.
use Rattle.std.proofs.Common.{◌≡◌, ℕ, ◌+◌, ◌-◌, ◌<◌, ◌≤◌, Bool, true, false, not, cond, List, ◌∷◌, length, take, drop, get_or, add-one, suc, Option, Some, None, Result, Ok, Err, OnOk, refl, subst, sym, ap, ◌∙◌, inl, inr, arith}
use Rattle.std.specs.Prelude.{nat_lt}
use Rattle.std.specs.Option.{option_and_then}
use Rattle.std.specs.Str.{IsUtf8}
use Rattle.std.proofs.Math.Seq.{drop-cons, drop-length, take-length}
use Rattle.std.proofs.lemmas.Bool.{and_parts, cases_lt, le-ltb}
use Rattle.org_base.specs.Codes.{memory_fault}
use Rattle.org_base.specs.declared.code.Code.TheVariants.{Size}
use Rattle.org_base.specs.declared.fault.Fault.{Fault}
use Rattle.org_text.specs.Replace.{IsRefusedAs, is_boundary, max_bytes, refusal_of, replace}
use Rattle.orgls_text.specs.Documents.{change_behind, changed, with_range}
use Rattle.orgls_text.specs.Laws.{cuts_line_end}
use Rattle.orgls_text.specs.Outcomes.{Becomes, Leaves}
use Rattle.orgls_text.specs.Positions.{is_beyond, offset_of}
use Rattle.orgls_text.proofs.LawLemmas.{positions_cut_nothing}
use Rattle.orgls_text.specs.declared.change.ContentChange.{ContentChange}
use Rattle.orgls_text.specs.declared.change.Range.{Range}
use Rattle.orgls_text.specs.declared.position.PositionEncoding.{PositionEncoding}

-- a run that is as long as the text is the text
pub whole_run : (t r : List ℕ) → length r ≡ length t - 0 → r ≡ take (length r) (drop 0 t) → r ≡ t
whole_run t r len is =
    let same : length r ≡ length t = omega arith in
    is ∙ ap (λ n. take n t) same ∙ take-length t

by_outcome : {U : Type 0} (wanted new : List ℕ) (long : Bool) (r : Result U Fault) → OnOk r (new ≡ wanted) →
    IsRefusedAs (cond long (Some Size) None) r → Leaves (cond long None (Some wanted)) new r
by_outcome wanted new true (Ok x) ok refused = absurd cc
by_outcome wanted new true (Err f) ok refused = tt
by_outcome wanted new false (Ok x) ok refused = ok
by_outcome wanted new false (Err f) ok refused = refused

-- the boundary behind what is replaced
last_boundary : (t : List ℕ) (a b : ℕ) → is_boundary t a ≡ true → is_boundary t b ≡ true → is_boundary t (a + (b - a)) ≡ true
last_boundary t a b first last = elim (cases_lt a b) [
  | inl lt ↦ let is : b ≡ a + (b - a) = omega arith in rw (← is) last
  | inr ge ↦ let is : a ≡ a + (b - a) = omega arith in rw (← is) first
]

refusal_is : (t : List ℕ) (a d : ℕ) (ins : List ℕ) → a + d ≤ length t → is_boundary t a ≡ true → is_boundary t (a + d) ≡ true →
    refusal_of t a d ins ≡ cond (nat_lt max_bytes (length (replace t a d ins))) (Some Size) None
refusal_is t a d ins within first last =
    let inside : nat_lt (length t) (a + d) ≡ false = le-ltb (length t) (a + d) within in
    rw (inside, first, last) refl

-- what a text does where a range of it is replaced is what the definition says
pub edited : {U : Type 0} (e : PositionEncoding) (t new : List ℕ) (range : Range) (ins : List ℕ) (r : Result U Fault) → IsUtf8 t →
    is_beyond range.start range.end ≡ false →
    OnOk r (new ≡ replace t (offset_of e t range.start) (offset_of e t range.end - offset_of e t range.start) ins) →
    IsRefusedAs (refusal_of t (offset_of e t range.start) (offset_of e t range.end - offset_of e t range.start) ins) r →
    Leaves (with_range e t range ins) new r
unfolding with_range
edited e t new range ins r utf8 order ok refused =
    let a = offset_of e t range.start in
    let b = offset_of e t range.end in
    let first = positions_cut_nothing e t range.start utf8 in
    let last = positions_cut_nothing e t range.end utf8 in
    let begins : is_boundary t a ≡ true = (and_parts (not (cuts_line_end t a)) (is_boundary t a) first.1).1 in
    let ends : is_boundary t b ≡ true = (and_parts (not (cuts_line_end t b)) (is_boundary t b) last.1).1 in
    let within : a + (b - a) ≤ length t = omega (arith, first.0, last.0) in
    let is = refusal_is t a (b - a) ins within begins (last_boundary t a b begins ends) in
    let refused' : IsRefusedAs (cond (nat_lt max_bytes (length (replace t a (b - a) ins))) (Some Size) None) r = rw is at refused in
    rw order (by_outcome (replace t a (b - a) ins) new (nat_lt max_bytes (length (replace t a (b - a) ins))) r ok refused')

pub edited_at : {U : Type 0} (e : PositionEncoding) (t new : List ℕ) (range : Range) (ins : List ℕ) (r : Result U Fault) (at del : ℕ) → IsUtf8 t →
    is_beyond range.start range.end ≡ false → at ≡ offset_of e t range.start → del ≡ offset_of e t range.end - offset_of e t range.start →
    OnOk r (new ≡ replace t at del ins) → IsRefusedAs (refusal_of t at del ins) r → Leaves (with_range e t range ins) new r
edited_at e t new range ins r at del utf8 order at_is del_is ok refused =
    edited e t new range ins r utf8 order
    (subst (λ k. OnOk r (new ≡ replace t (offset_of e t range.start) k ins)) del_is (subst (λ k. OnOk r (new ≡ replace t k del ins)) at_is ok))
    (subst (λ k. IsRefusedAs (refusal_of t (offset_of e t range.start) k ins) r) del_is (subst (λ k. IsRefusedAs (refusal_of t k del ins) r) at_is refused))

pub refused_range : (U : Type 0) (e : PositionEncoding) (t : List ℕ) (range : Range) (ins : List ℕ) (f : Fault) → is_beyond range.start range.end ≡ true →
    Leaves {U = U} (with_range e t range ins) t (Err f)
unfolding with_range
refused_range U e t range ins f h = rw h tt

-- one change more is made
on_by : {U : Type 0} (e : PositionEncoding) (rest : List ContentChange) (made : Option (List ℕ)) (new : List ℕ) (r : Result U Fault) (x : U) → r ≡ Ok x →
    Leaves made new r → changed e rest new ≡ option_and_then (changed e rest) made
on_by e rest (Some wanted) new (Ok y) x is leaves = ap (changed e rest) leaves
on_by e rest (Some wanted) new (Err f) x is leaves = absurd cc
on_by e rest None new (Ok y) x is leaves = absurd leaves
on_by e rest None new (Err f) x is leaves = absurd cc

pub one_more : {U : Type 0} (e : PositionEncoding) (cs : List ContentChange) (i : ℕ) (d : ContentChange) (t new : List ℕ) (r : Result U Fault) (x : U) →
    i < length cs → d ≡ get_or cs i d → r ≡ Ok x → Leaves (change_behind e d t) new r → changed e (drop (i + 1) cs) new ≡ changed e (drop i cs) t
unfolding changed
one_more e cs i d t new r x lt is ok leaves =
    let next : drop i cs ≡ d ∷ drop (i + 1) cs = drop-cons cs i d lt ∙ ap (λ (y : ContentChange). y ∷ drop (suc i) cs) (sym is) ∙ ap (λ n. d ∷ drop n cs) (sym (add-one i)) in
    on_by e (drop (i + 1) cs) (change_behind e d t) new r x ok leaves ∙ ap (λ (ys : List ContentChange). changed e ys t) (sym next)

-- where one is refused all are
by_memory : (last : Option (List ℕ)) (f : Fault) → f ≡ memory_fault → Becomes last (Err f)
by_memory (Some t) f is = is
by_memory None f is = tt

refused_by : {U : Type 0} (rest : List ContentChange) (e : PositionEncoding) (made : Option (List ℕ)) (new : List ℕ) (r : Result U Fault) (f : Fault) → r ≡ Err f →
    Leaves made new r → Becomes (option_and_then (changed e rest) made) (Err f)
refused_by rest e (Some wanted) new (Ok y) f is leaves = absurd cc
refused_by rest e None new r f is leaves = tt
refused_by rest e (Some wanted) new (Err g) f is leaves = by_memory (changed e rest wanted) f (let same : g ≡ f = cc in sym same ∙ leaves)

pub one_refused : {U : Type 0} (e : PositionEncoding) (cs : List ContentChange) (i : ℕ) (d : ContentChange) (t new : List ℕ) (r : Result U Fault) (f : Fault) →
    i < length cs → d ≡ get_or cs i d → r ≡ Err f → Leaves (change_behind e d t) new r → Becomes (changed e (drop i cs) t) (Err f)
unfolding changed
one_refused e cs i d t new r f lt is err leaves =
    let next : drop i cs ≡ d ∷ drop (suc i) cs = drop-cons cs i d lt ∙ ap (λ (y : ContentChange). y ∷ drop (suc i) cs) (sym is) in
    rw next (refused_by (drop (suc i) cs) e (change_behind e d t) new r f err leaves)

pub all_made : (e : PositionEncoding) (cs : List ContentChange) (t : List ℕ) → changed e (drop (length cs) cs) t ≡ Some t
unfolding changed
all_made e cs t = ap (λ (ys : List ContentChange). changed e ys t) (drop-length cs)
