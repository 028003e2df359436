-- The classes of a section's body are those of its blocks.
use Rattle.std.proofs.Common.{true, false, ◌≡◌, ◌≢◌, inl, inr, ℕ, zero, suc, ◌+◌, ◌≤◌, ◌==◌, List, [], ◌∷◌, ◌++◌, length, replicate, refl, sym, ap, ◌∙◌, subst, arith, Some, None}
use Rattle.std.proofs.lemmas.Bool.{cases_Bool, eqb-true, ne_eqb, or_from, or_parts}
use Rattle.std.proofs.lemmas.List.{length-append, nil_from_length}
use Rattle.std.specs.List.{list_any}
use Rattle.org_class.specs.Blocks.{block_name, ends_block, opens_block, body_classes, OpensNone, AreBlocks, none, alone, block}
use Rattle.org_class.specs.LineClass.{line_class}
use Rattle.org_class.specs.Laws.{BlocksAreBodyClasses}
use Rattle.org_class.specs.declared.class.Class.{Class}
use Rattle.org_class.specs.declared.class.Class.TheVariants.{BlockOpen, Verbatim, BlockEnd}

-- lines up to the first that ends a block
record EndsAt (name : List ℕ) (ls : List (List ℕ)) : Type 0 where
  inside : List (List ℕ)
  last : List ℕ
  rest : List (List ℕ)
  spelled : ls ≡ inside ++ last ∷ rest
  open_so_far : list_any (ends_block name) inside ≡ false
  ends : ends_block name last ≡ true

ends_at : (name : List ℕ) (ls : List (List ℕ)) → list_any (ends_block name) ls ≡ true → EndsAt name ls
ends_at name [] h = absurd cc
ends_at name (l ∷ ls) h = elim (cases_Bool (ends_block name l)) [
  | inl e ↦ record { inside = []; last = l; rest = ls; spelled = refl; open_so_far = refl; ends = e }
  | inr e ↦
      let later = ends_at name ls (let t : list_any (ends_block name) ls ≡ true = rw e at h in t) in
      record {
        inside = l ∷ later.inside;
        last = later.last;
        rest = later.rest;
        spelled = ap (λ xs. l ∷ xs) later.spelled;
        open_so_far = or_from (ends_block name l) (list_any (ends_block name) later.inside) e later.open_so_far;
        ends = later.ends;
      }
]

-- the classes of the lines of a block
in_block : (name : List ℕ) (inside : List (List ℕ)) (e : List ℕ) (ls : List (List ℕ)) → list_any (ends_block name) inside ≡ false → ends_block name e ≡ true → body_classes (Some name) (inside ++ e ∷ ls) ≡ replicate (length inside) Verbatim ++ BlockEnd ∷ body_classes None ls
in_block name [] e ls o h = rw h refl
in_block name (l ∷ inside) e ls o h =
    let parts = or_parts (ends_block name l) (list_any (ends_block name) inside) o in
    rw (parts.0, in_block name inside e ls parts.1 h) refl

any_behind : (name : List ℕ) (inside : List (List ℕ)) (e : List ℕ) (ls : List (List ℕ)) → ends_block name e ≡ true → list_any (ends_block name) (inside ++ e ∷ ls) ≡ true
any_behind name [] e ls h = rw h refl
any_behind name (l ∷ inside) e ls h = elim (cases_Bool (ends_block name l)) [
  | inl y ↦ rw y refl
  | inr y ↦ rw (y, any_behind name inside e ls h) refl
]

line_alone : (l : List ℕ) (ls : List (List ℕ)) → opens_block l ls ≡ false → body_classes None (l ∷ ls) ≡ line_class l ∷ body_classes None ls
line_alone l ls h = rw h refl

opens : (l : List ℕ) (ls : List (List ℕ)) → opens_block l ls ≡ true → body_classes None (l ∷ ls) ≡ BlockOpen ∷ body_classes (Some (block_name l)) ls
opens l ls h = rw h refl

-- a line that opens a block, and the lines of the block
block_here : (l : List ℕ) (ls : List (List ℕ)) → opens_block l ls ≡ true → (e : EndsAt (block_name l) ls) → block_name l ≢ [] → AreBlocks e.rest (body_classes None e.rest) → AreBlocks (l ∷ ls) (body_classes None (l ∷ ls))
block_here l ls h e some more =
    let made : AreBlocks (l ∷ (e.inside ++ e.last ∷ e.rest)) (BlockOpen ∷ (replicate (length e.inside) Verbatim ++ BlockEnd ∷ body_classes None e.rest)) = block l e.inside e.last e.rest (body_classes None e.rest) some e.open_so_far e.ends more in
    let same : BlockOpen ∷ (replicate (length e.inside) Verbatim ++ BlockEnd ∷ body_classes None e.rest) ≡ body_classes None (l ∷ ls) =
    ap (λ cs. BlockOpen ∷ cs) (sym (in_block (block_name l) e.inside e.last e.rest e.open_so_far e.ends) ∙ ap (body_classes (Some (block_name l))) (sym e.spelled))
    ∙ sym (opens l ls h) in
    subst (λ cs. AreBlocks (l ∷ ls) cs) same (subst (λ xs. AreBlocks (l ∷ xs) (BlockOpen ∷ (replicate (length e.inside) Verbatim ++ BlockEnd ∷ body_classes None e.rest))) (sym e.spelled) made)

opens_none : (l : List ℕ) (ls : List (List ℕ)) → opens_block l ls ≡ false → OpensNone l ls
opens_none l ls h = elim (cases_Bool (length (block_name l) == 0)) [
  | inl e ↦ inl (nil_from_length (block_name l) (eqb-true (length (block_name l)) 0 e))
  | inr e ↦ inr (let t : list_any (ends_block (block_name l)) ls ≡ false = rw e at h in t)
]

named : (l : List ℕ) (ls : List (List ℕ)) → opens_block l ls ≡ true → block_name l ≢ []
named l ls h none_there = absurd (let t : false ≡ true = rw none_there at h in cc)

ended : (l : List ℕ) (ls : List (List ℕ)) → opens_block l ls ≡ true → list_any (ends_block (block_name l)) ls ≡ true
ended l ls h = elim (cases_Bool (length (block_name l) == 0)) [
  | inl e ↦ absurd (let t : false ≡ true = rw e at h in cc)
  | inr e ↦ (let t : list_any (ends_block (block_name l)) ls ≡ true = rw e at h in t)
]

step : (n : ℕ) (l : List ℕ) (ls : List (List ℕ)) → length ls ≤ n → ((xs : List (List ℕ)) → length xs ≤ n → AreBlocks xs (body_classes None xs)) → AreBlocks (l ∷ ls) (body_classes None (l ∷ ls))
step n l ls short done = elim (cases_Bool (opens_block l ls)) [
  | inl h ↦
      let e = ends_at (block_name l) ls (ended l ls h) in
      let size : length ls ≡ length e.inside + suc (length e.rest) = ap length e.spelled ∙ length-append e.inside (e.last ∷ e.rest) in
      block_here l ls h e (named l ls h) (done e.rest (omega (arith, size, short)))
  | inr h ↦ subst (λ cs. AreBlocks (l ∷ ls) cs) (sym (line_alone l ls h)) (alone l ls (body_classes None ls) (opens_none l ls h) (done ls short))
]

by_blocks : (n : ℕ) (ls : List (List ℕ)) → length ls ≤ n → AreBlocks ls (body_classes None ls)
by_blocks n [] h = none
by_blocks zero (l ∷ ls) h = absurd (omega arith)
by_blocks (suc n) (l ∷ ls) h = step n l ls (omega arith) (λ xs s. by_blocks n xs s)

opens_no_block : (l : List ℕ) (ls : List (List ℕ)) → OpensNone l ls → opens_block l ls ≡ false
opens_no_block l ls h = elim h [
  | inl e ↦ rw e refl
  | inr o ↦ elim (cases_Bool (length (block_name l) == 0)) [ inl e ↦ rw e refl | inr e ↦ rw (e, o) refl ]
]

opens_one : (l : List ℕ) (inside : List (List ℕ)) (e : List ℕ) (ls : List (List ℕ)) → block_name l ≢ [] → ends_block (block_name l) e ≡ true → opens_block l (inside ++ e ∷ ls) ≡ true
opens_one l inside e ls n h = rw (ne_eqb (length (block_name l)) 0 (λ z. n (nil_from_length (block_name l) z)), any_behind (block_name l) inside e ls h) refl

-- the rule has one answer
one_answer : {ls : List (List ℕ)} {cs : List Class} → AreBlocks ls cs → cs ≡ body_classes None ls
one_answer none = refl
one_answer (alone l ls cs o r) = ap (λ xs. line_class l ∷ xs) (one_answer r) ∙ sym (line_alone l ls (opens_no_block l ls o))
one_answer (block l inside e ls cs n o h r) =
    ap (λ xs. BlockOpen ∷ (replicate (length inside) Verbatim ++ BlockEnd ∷ xs)) (one_answer r)
    ∙ (ap (λ xs. BlockOpen ∷ xs) (sym (in_block (block_name l) inside e ls o h))
    ∙ sym (opens l (inside ++ e ∷ ls) (opens_one l inside e ls n h)))

pub body_blocks : BlocksAreBodyClasses
body_blocks ls cs = ((λ r. one_answer r), (λ e. subst (λ xs. AreBlocks ls xs) (sym e) (by_blocks (length ls) ls (omega arith))))
