-- The classes of a section's lines, where a line that is read by itself is replaced with those behind it.
use Rattle.std.proofs.Common.{◌≡◌, ◌∙◌, inl, inr, ℕ, suc, ◌==◌, Bool, true, false, List, [], ◌∷◌, ◌++◌, length, refl, sym, ap}
use Rattle.std.specs.Prelude.{Option, Some, None, slice_get}
use Rattle.std.specs.List.{list_any}
use Rattle.std.proofs.lemmas.Bool.{cases_Bool}
use Rattle.org_amend.specs.Cancelled.{front_lines}
use Rattle.org_amend.specs.Places.{is_front}
use Rattle.org_class.specs.Blocks.{block_name, body_classes, ends_block, opens_block}
use Rattle.org_class.specs.LineClass.{is_comment, is_setting, line_class}
use Rattle.org_class.specs.declared.class.Class.{Class}
use Rattle.org_class.specs.declared.class.Class.TheVariants.{Heading, Planning, DrawerOpen, Node, DrawerEnd, BlockOpen, Verbatim, BlockEnd, Clock, Plain}
use Rattle.org_stamp.specs.Pair.{is_clock}

-- a line of this class is read by itself
abbrev pub is_alone : Class → Bool
is_alone Clock = true
is_alone Plain = true
is_alone _ = false

-- a class that is read by itself isn't another
pub not_alone : (x c : Class) → is_alone x ≡ false → is_alone c ≡ true → ◌≡◌ {A = Option Class} (Some x) (Some c) → ⊥
not_alone x c other alone same =
    let is : x ≡ c = cc in
    let wrong : false ≡ true = sym other ∙ (ap is_alone is ∙ alone) in
    cc

pub alone_front : (c : Class) → is_alone c ≡ true → is_front (Some c) ≡ false
alone_front Clock h = refl
alone_front Plain h = refl
alone_front Heading h = absurd cc
alone_front Planning h = absurd cc
alone_front DrawerOpen h = absurd cc
alone_front Node h = absurd cc
alone_front DrawerEnd h = absurd cc
alone_front _ h = refl

-- what no line passes in two parts of lines, none passes in both
none_in_both : (test : List ℕ → Bool) (xs ys : List (List ℕ)) → list_any test xs ≡ false → list_any test ys ≡ false → list_any test (xs ++ ys) ≡ false
none_in_both test [] ys a b = b
none_in_both test (x ∷ xs) ys a b = elim (cases_Bool (test x)) [
  | inl yes' ↦ absurd (let wrong : true ≡ false = rw yes' at a in cc)
  | inr no' ↦ rw no' (none_in_both test xs ys (rw no' at a) b)
]

none_in_parts : (test : List ℕ → Bool) (xs ys : List (List ℕ)) → list_any test (xs ++ ys) ≡ false → (list_any test xs ≡ false) × (list_any test ys ≡ false)
none_in_parts test [] ys h = (refl, h)
none_in_parts test (x ∷ xs) ys h = elim (cases_Bool (test x)) [
  | inl yes' ↦ absurd (let wrong : true ≡ false = rw yes' at h in cc)
  | inr no' ↦ (let more = none_in_parts test xs ys (rw no' at h) in ((rw no' more.0), more.1))
]

some_in_front : (test : List ℕ → Bool) (xs ys : List (List ℕ)) → list_any test xs ≡ true → list_any test (xs ++ ys) ≡ true
some_in_front test [] ys h = absurd cc
some_in_front test (x ∷ xs) ys h = elim (cases_Bool (test x)) [
  | inl yes' ↦ rw yes' refl
  | inr no' ↦ rw no' (some_in_front test xs ys (rw no' at h))
]

-- the lines that stand behind a place then, outside of blocks, with their classes
pub record IsTail (g : List ℕ) (rest tail : List (List ℕ)) (ct : List Class) : Type 0 where
  pub classed : body_classes None tail ≡ ct
  pub ends : (name : List ℕ) → list_any (ends_block name) (g ∷ rest) ≡ false → list_any (ends_block name) tail ≡ false

-- blocks

-- a block ends before a line that is read by itself
ends_within : (name : List ℕ) (bs : List (List ℕ)) (g : List ℕ) (rest : List (List ℕ)) (c : Class) → is_alone c ≡ true → slice_get (body_classes (Some name) (bs ++ g ∷ rest)) (length bs) ≡ Some c →
    list_any (ends_block name) bs ≡ true
ends_within name [] g rest c alone h = elim (cases_Bool (ends_block name g)) [
  | inl e ↦ absurd (not_alone BlockEnd c refl alone (rw e at h))
  | inr e ↦ absurd (not_alone Verbatim c refl alone (rw e at h))
]
ends_within name (b ∷ bs) g rest c alone h = elim (cases_Bool (ends_block name b)) [
  | inl e ↦ rw e refl
  | inr e ↦ rw e (ends_within name bs g rest c alone (rw e at h))
]

pub record IsBody (name : Option (List ℕ)) (bs : List (List ℕ)) (g : List ℕ) (rest tail : List (List ℕ)) (c : Class) (ct : List Class) : Type 0 where
  pub before : List Class
  pub size : length before ≡ length bs
  pub old : body_classes name (bs ++ g ∷ rest) ≡ before ++ c ∷ body_classes None rest
  pub new : body_classes name (bs ++ tail) ≡ before ++ ct

opens_still : (b : List ℕ) (bs : List (List ℕ)) (g : List ℕ) (rest tail : List (List ℕ)) (c : Class) → is_alone c ≡ true → opens_block b (bs ++ g ∷ rest) ≡ true →
    slice_get (body_classes (Some (block_name b)) (bs ++ g ∷ rest)) (length bs) ≡ Some c → opens_block b (bs ++ tail) ≡ true
opens_still b bs g rest tail c alone opens h = elim (cases_Bool (length (block_name b) == 0)) [
  | inl e ↦ absurd (let wrong : false ≡ true = rw e at opens in cc)
  | inr e ↦ rw (e, some_in_front (ends_block (block_name b)) bs tail (ends_within (block_name b) bs g rest c alone h)) refl
]

opens_not : (b : List ℕ) (bs : List (List ℕ)) (g : List ℕ) (rest tail : List (List ℕ)) (ct : List Class) → IsTail g rest tail ct → opens_block b (bs ++ g ∷ rest) ≡ false → opens_block b (bs ++ tail) ≡ false
opens_not b bs g rest tail ct is opens = elim (cases_Bool (length (block_name b) == 0)) [
  | inl e ↦ rw e refl
  | inr e ↦
      let none : list_any (ends_block (block_name b)) (bs ++ g ∷ rest) ≡ false = rw e at opens in
      let parts = none_in_parts (ends_block (block_name b)) bs (g ∷ rest) none in
      rw (e, none_in_both (ends_block (block_name b)) bs tail parts.0 (is.ends (block_name b) parts.1)) refl
]

body_one : (b : List ℕ) (x : Class) (name next : Option (List ℕ)) (bs : List (List ℕ)) (g : List ℕ) (rest tail : List (List ℕ)) (c : Class) (ct : List Class) →
    body_classes name (b ∷ (bs ++ g ∷ rest)) ≡ x ∷ body_classes next (bs ++ g ∷ rest) → body_classes name (b ∷ (bs ++ tail)) ≡ x ∷ body_classes next (bs ++ tail) →
    IsBody next bs g rest tail c ct → IsBody name (b ∷ bs) g rest tail c ct
body_one b x name next bs g rest tail c ct was is more = record {
  before = x ∷ more.before;
  size = ap suc more.size;
  old = was ∙ ap (λ cs. x ∷ cs) more.old;
  new = is ∙ ap (λ cs. x ∷ cs) more.new;
}

pub body_at : (name : Option (List ℕ)) (bs : List (List ℕ)) (g : List ℕ) (rest tail : List (List ℕ)) (c : Class) (ct : List Class) → is_alone c ≡ true → IsTail g rest tail ct →
    slice_get (body_classes name (bs ++ g ∷ rest)) (length bs) ≡ Some c → IsBody name bs g rest tail c ct
body_at None [] g rest tail c ct alone is h = elim (cases_Bool (opens_block g rest)) [
  | inl o ↦ absurd (not_alone BlockOpen c refl alone (rw o at h))
  | inr o ↦
      let same : ◌≡◌ {A = Option Class} (Some (line_class g)) (Some c) = rw o at h in
      let class_is : line_class g ≡ c = cc in
      record { before = []; size = refl; old = rw o (ap (λ x. x ∷ body_classes None rest) class_is); new = is.classed }
]
body_at (Some name) [] g rest tail c ct alone is h = elim (cases_Bool (ends_block name g)) [
  | inl e ↦ absurd (not_alone BlockEnd c refl alone (rw e at h))
  | inr e ↦ absurd (not_alone Verbatim c refl alone (rw e at h))
]
body_at None (b ∷ bs) g rest tail c ct alone is h = elim (cases_Bool (opens_block b (bs ++ g ∷ rest))) [
  | inl o ↦
      let later : slice_get (body_classes (Some (block_name b)) (bs ++ g ∷ rest)) (length bs) ≡ Some c = rw o at h in
      let still = opens_still b bs g rest tail c alone o later in
      body_one b BlockOpen None (Some (block_name b)) bs g rest tail c ct (rw o refl) (rw still refl) (body_at (Some (block_name b)) bs g rest tail c ct alone is later)
  | inr o ↦
      let later : slice_get (body_classes None (bs ++ g ∷ rest)) (length bs) ≡ Some c = rw o at h in
      let still = opens_not b bs g rest tail ct is o in
      body_one b (line_class b) None None bs g rest tail c ct (rw o refl) (rw still refl) (body_at None bs g rest tail c ct alone is later)
]
body_at (Some name) (b ∷ bs) g rest tail c ct alone is h = elim (cases_Bool (ends_block name b)) [
  | inl e ↦
      let later : slice_get (body_classes None (bs ++ g ∷ rest)) (length bs) ≡ Some c = rw e at h in
      body_one b BlockEnd (Some name) None bs g rest tail c ct (rw e refl) (rw e refl) (body_at None bs g rest tail c ct alone is later)
  | inr e ↦
      let later : slice_get (body_classes (Some name) (bs ++ g ∷ rest)) (length bs) ≡ Some c = rw e at h in
      body_one b Verbatim (Some name) (Some name) bs g rest tail c ct (rw e refl) (rw e refl) (body_at (Some name) bs g rest tail c ct alone is later)
]

-- no line of a body is one of the front

line_front : (l : List ℕ) → is_front (Some (line_class l)) ≡ false
line_front l = elim (cases_Bool (is_comment l)) [
  | inl c ↦ rw c refl
  | inr c ↦ elim (cases_Bool (is_setting l)) [
    | inl s ↦ rw (c, s) refl
    | inr s ↦ elim (cases_Bool (is_clock l)) [ inl k ↦ rw (c, s, k) refl | inr k ↦ rw (c, s, k) refl ]
  ]
]

pub body_front : (ls : List (List ℕ)) → front_lines (body_classes None ls) ≡ 0
body_front [] = refl
body_front (l ∷ ls) = elim (cases_Bool (opens_block l ls)) [
  | inl o ↦ rw o refl
  | inr o ↦ rw (o, line_front l) refl
]
