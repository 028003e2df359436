-- The classes of a section's lines, where one that is read by itself is replaced with those behind it: drawers, planning and the heading.
use Rattle.std.proofs.Common.{◌≡◌, ◌⊎◌, ◌∙◌, inl, inr, ℕ, suc, ◌+◌, true, false, ◌&&◌, List, [], ◌∷◌, ◌++◌, length, get_or, refl, sym, ap, arith}
use Rattle.std.specs.Prelude.{Some, None, slice_get}
use Rattle.std.proofs.lemmas.Bool.{and_parts, cases_Bool}
use Rattle.org_amend.specs.Cancelled.{front_lines}
use Rattle.org_amend.specs.Places.{is_front}
use Rattle.org_amend.proofs.BodyLemmas.{IsTail, alone_front, body_at, body_front, is_alone, not_alone}
use Rattle.org_class.specs.Blocks.{body_classes}
use Rattle.org_class.specs.Classes.{classes, classes_under_heading}
use Rattle.org_class.specs.Drawers.{classes_below, closes_drawer, drawer_classes, is_drawer_end, is_drawer_open}
use Rattle.org_class.specs.Heading.{begins_heading}
use Rattle.org_class.specs.declared.class.Class.{Class}
use Rattle.org_class.specs.declared.class.Class.TheVariants.{Heading, Planning, DrawerOpen, Node, DrawerEnd}
use Rattle.org_drawer.specs.Node.{is_node}
use Rattle.org_stamp.specs.Pair.{is_planning}

-- drawers

-- the first of the lines that stand there then is none that is read by its place
pub record IsQuiet (tail : List (List ℕ)) : Type 0 where
  pub plans : is_planning (get_or tail 0 []) ≡ false
  pub opens : is_drawer_open (get_or tail 0 []) ≡ false
  pub node : is_node (get_or tail 0 []) ≡ false
  pub ends : is_drawer_end (get_or tail 0 []) ≡ false

unclosed : (bs : List (List ℕ)) (g : List ℕ) (rest tail : List (List ℕ)) → IsQuiet tail → closes_drawer (bs ++ g ∷ rest) ≡ false → closes_drawer (bs ++ tail) ≡ false
unclosed [] g rest [] quiet h = refl
unclosed [] g rest (k ∷ more) quiet h = rw (quiet.ends, quiet.node) refl
unclosed (b ∷ bs) g rest tail quiet h = elim (cases_Bool (is_drawer_end b)) [
  | inl e ↦ absurd (let wrong : true ≡ false = rw e at h in cc)
  | inr e ↦ elim (cases_Bool (is_node b)) [
    | inl n ↦ rw (e, n) (unclosed bs g rest tail quiet (rw (e, n) at h))
    | inr n ↦ rw (e, n) refl
  ]
]

record IsOfDrawer (bs : List (List ℕ)) (g : List ℕ) (rest tail : List (List ℕ)) (c : Class) (ct : List Class) : Type 0 where
  before : List Class
  size : length before ≡ length bs
  old : drawer_classes (bs ++ g ∷ rest) ≡ before ++ c ∷ body_classes None rest
  new : drawer_classes (bs ++ tail) ≡ before ++ ct
  closes : closes_drawer (bs ++ tail) ≡ true

drawer_at : (bs : List (List ℕ)) (g : List ℕ) (rest tail : List (List ℕ)) (c : Class) (ct : List Class) → is_alone c ≡ true → IsTail g rest tail ct → closes_drawer (bs ++ g ∷ rest) ≡ true →
    slice_get (drawer_classes (bs ++ g ∷ rest)) (length bs) ≡ Some c → IsOfDrawer bs g rest tail c ct
drawer_at [] g rest tail c ct alone is closes h = elim (cases_Bool (is_drawer_end g)) [
  | inl e ↦ absurd (not_alone DrawerEnd c refl alone (rw e at h))
  | inr e ↦ absurd (not_alone Node c refl alone (rw e at h))
]
drawer_at (b ∷ bs) g rest tail c ct alone is closes h = elim (cases_Bool (is_drawer_end b)) [
  | inl e ↦
      let more = body_at None bs g rest tail c ct alone is (rw e at h) in
      record { before = DrawerEnd ∷ more.before; size = ap suc more.size; old = rw e (ap (λ cs. DrawerEnd ∷ cs) more.old); new = rw e (ap (λ cs. DrawerEnd ∷ cs) more.new); closes = rw e refl }
  | inr e ↦
      let rest_closes : (is_node b && closes_drawer (bs ++ g ∷ rest)) ≡ true = rw e at closes in
      let both = and_parts (is_node b) (closes_drawer (bs ++ g ∷ rest)) rest_closes in
      let more = drawer_at bs g rest tail c ct alone is both.1 (rw e at h) in
      record { before = Node ∷ more.before; size = ap suc more.size; old = rw e (ap (λ cs. Node ∷ cs) more.old); new = rw e (ap (λ cs. Node ∷ cs) more.new); closes = rw (e, both.0, more.closes) refl }
]

record IsBelow (bs : List (List ℕ)) (g : List ℕ) (rest tail : List (List ℕ)) (c : Class) (ct : List Class) : Type 0 where
  before : List Class
  size : length before ≡ length bs
  old : classes_below (bs ++ g ∷ rest) ≡ before ++ c ∷ body_classes None rest
  new : classes_below (bs ++ tail) ≡ before ++ ct

-- the front has as many lines then, or what stands there is quiet
abbrev pub Stays : (List (List ℕ) → List Class) → List (List ℕ) → List ℕ → List (List ℕ) → List (List ℕ) → Type 0
Stays rule bs g rest tail = (front_lines (rule (bs ++ tail)) ≡ front_lines (rule (bs ++ g ∷ rest))) ⊎ IsQuiet tail

-- a drawer at the front makes it longer
no_drawer : (P : Type 0) (old n : ℕ) (cs : List Class) → (front_lines (DrawerOpen ∷ cs) ≡ old) ⊎ P → old ≡ 0 → (P → ⊥) → ⊥
no_drawer P old n cs (inl same) none other = let more : front_lines (DrawerOpen ∷ cs) ≡ 1 + front_lines cs = refl in omega (arith, same, none, more)
no_drawer P old n cs (inr quiet) none other = other quiet

-- no drawer stands in front of what is put there
below_tail : (tail : List (List ℕ)) (old : ℕ) → (front_lines (classes_below tail) ≡ old) ⊎ IsQuiet tail → old ≡ 0 → classes_below tail ≡ body_classes None tail
below_tail [] old h none = refl
below_tail (k ∷ more) old h none = elim (cases_Bool (is_drawer_open k && closes_drawer more)) [
  | inr o ↦ rw o refl
  | inl o ↦
      let opens = (and_parts (is_drawer_open k) (closes_drawer more) o).0 in
      let grows : (front_lines (DrawerOpen ∷ drawer_classes more) ≡ old) ⊎ IsQuiet (k ∷ more) = rw o at h in
      absurd (no_drawer (IsQuiet (k ∷ more)) old 0 (drawer_classes more) grows none (λ quiet. let wrong : true ≡ false = sym opens ∙ quiet.opens in cc))
]

below_body : (b : List ℕ) (bs : List (List ℕ)) (g : List ℕ) (rest tail : List (List ℕ)) → Stays classes_below (b ∷ bs) g rest tail → (is_drawer_open b && closes_drawer (bs ++ g ∷ rest)) ≡ false →
    classes_below (b ∷ (bs ++ tail)) ≡ body_classes None (b ∷ (bs ++ tail))
below_body b bs g rest tail h closed = elim (cases_Bool (is_drawer_open b && closes_drawer (bs ++ tail))) [
  | inr o ↦ rw o refl
  | inl o ↦
      let both = and_parts (is_drawer_open b) (closes_drawer (bs ++ tail)) o in
      let old : ℕ = front_lines (classes_below (b ∷ (bs ++ g ∷ rest))) in
      let none : old ≡ 0 = (rw closed refl) ∙ body_front (b ∷ (bs ++ g ∷ rest)) in
      let grows : (front_lines (DrawerOpen ∷ drawer_classes (bs ++ tail)) ≡ old) ⊎ IsQuiet tail = rw o at h in
      let unclosed_was : closes_drawer (bs ++ g ∷ rest) ≡ false = rw both.0 at closed in
      absurd (no_drawer (IsQuiet tail) old 0 (drawer_classes (bs ++ tail)) grows none (λ quiet. let wrong : true ≡ false = sym both.1 ∙ unclosed bs g rest tail quiet unclosed_was in cc))
]

drawer_below : (b : List ℕ) (bs : List (List ℕ)) (g : List ℕ) (rest tail : List (List ℕ)) (c : Class) (ct : List Class) → is_drawer_open b ≡ true →
    classes_below (b ∷ (bs ++ g ∷ rest)) ≡ DrawerOpen ∷ drawer_classes (bs ++ g ∷ rest) → IsOfDrawer bs g rest tail c ct → IsBelow (b ∷ bs) g rest tail c ct
drawer_below b bs g rest tail c ct opens was more =
    let closes = more.closes in
    let now : classes_below (b ∷ (bs ++ tail)) ≡ DrawerOpen ∷ drawer_classes (bs ++ tail) = rw (opens, closes) refl in
    record { before = DrawerOpen ∷ more.before; size = ap suc more.size; old = was ∙ ap (λ cs. DrawerOpen ∷ cs) more.old; new = now ∙ ap (λ cs. DrawerOpen ∷ cs) more.new }

below_at : (bs : List (List ℕ)) (g : List ℕ) (rest tail : List (List ℕ)) (c : Class) (ct : List Class) → is_alone c ≡ true → IsTail g rest tail ct → Stays classes_below bs g rest tail →
    slice_get (classes_below (bs ++ g ∷ rest)) (length bs) ≡ Some c → IsBelow bs g rest tail c ct
below_at [] g rest tail c ct alone is stays h = elim (cases_Bool (is_drawer_open g && closes_drawer rest)) [
  | inl o ↦ absurd (not_alone DrawerOpen c refl alone (rw o at h))
  | inr o ↦
      let was : classes_below (g ∷ rest) ≡ body_classes None (g ∷ rest) = rw o refl in
      let none : front_lines (classes_below (g ∷ rest)) ≡ 0 = ap front_lines was ∙ body_front (g ∷ rest) in
      let more = body_at None [] g rest tail c ct alone is (ap (λ cs. slice_get cs 0) (sym was) ∙ h) in
      record { before = more.before; size = more.size; old = was ∙ more.old; new = below_tail tail (front_lines (classes_below (g ∷ rest))) stays none ∙ more.new }
]
below_at (b ∷ bs) g rest tail c ct alone is stays h = elim (cases_Bool (is_drawer_open b && closes_drawer (bs ++ g ∷ rest))) [
  | inl o ↦
      let both = and_parts (is_drawer_open b) (closes_drawer (bs ++ g ∷ rest)) o in
      let was : classes_below (b ∷ (bs ++ g ∷ rest)) ≡ DrawerOpen ∷ drawer_classes (bs ++ g ∷ rest) = rw o refl in
      let there : slice_get (drawer_classes (bs ++ g ∷ rest)) (length bs) ≡ Some c = rw o at h in
      drawer_below b bs g rest tail c ct both.0 was (drawer_at bs g rest tail c ct alone is both.1 there)
  | inr o ↦
      let was : classes_below (b ∷ (bs ++ g ∷ rest)) ≡ body_classes None (b ∷ (bs ++ g ∷ rest)) = rw o refl in
      let more = body_at None (b ∷ bs) g rest tail c ct alone is (ap (λ cs. slice_get cs (length (b ∷ bs))) (sym was) ∙ h) in
      record { before = more.before; size = more.size; old = was ∙ more.old; new = below_body b bs g rest tail stays o ∙ more.new }
]

-- the planning line

record IsUnder (bs : List (List ℕ)) (g : List ℕ) (rest tail : List (List ℕ)) (c : Class) (ct : List Class) : Type 0 where
  before : List Class
  size : length before ≡ length bs
  old : classes_under_heading (bs ++ g ∷ rest) ≡ before ++ c ∷ body_classes None rest
  new : classes_under_heading (bs ++ tail) ≡ before ++ ct

of_below : (bs : List (List ℕ)) (g : List ℕ) (rest tail : List (List ℕ)) (c : Class) (ct : List Class) → classes_under_heading (bs ++ g ∷ rest) ≡ classes_below (bs ++ g ∷ rest) →
    classes_under_heading (bs ++ tail) ≡ classes_below (bs ++ tail) → IsBelow bs g rest tail c ct → IsUnder bs g rest tail c ct
of_below bs g rest tail c ct was is more = record { before = more.before; size = more.size; old = was ∙ more.old; new = is ∙ more.new }

-- what is put there is no planning line
under_tail : (tail : List (List ℕ)) (old : ℕ) → (front_lines (classes_under_heading tail) ≡ old) ⊎ IsQuiet tail → old ≡ 0 → classes_under_heading tail ≡ classes_below tail
under_tail [] old h none = refl
under_tail (k ∷ more) old h none = elim (cases_Bool (is_planning k)) [
  | inr p ↦ rw p refl
  | inl p ↦ elim h [
    | inr quiet ↦ absurd (let wrong : true ≡ false = sym p ∙ quiet.plans in cc)
    | inl same ↦
        let grows : front_lines (Planning ∷ classes_below more) ≡ old = rw p at same in
        let sum : front_lines (Planning ∷ classes_below more) ≡ 1 + front_lines (classes_below more) = refl in
        absurd (omega (arith, grows, none, sum))
  ]
]

front_of : (c : Class) (cs : List Class) → is_alone c ≡ true → front_lines (c ∷ cs) ≡ 0
front_of c cs alone = rw (alone_front c alone) refl

under_at : (bs : List (List ℕ)) (g : List ℕ) (rest tail : List (List ℕ)) (c : Class) (ct : List Class) → is_alone c ≡ true → IsTail g rest tail ct → Stays classes_under_heading bs g rest tail →
    slice_get (classes_under_heading (bs ++ g ∷ rest)) (length bs) ≡ Some c → IsUnder bs g rest tail c ct
under_at [] g rest tail c ct alone is stays h = elim (cases_Bool (is_planning g)) [
  | inl p ↦ absurd (not_alone Planning c refl alone (rw p at h))
  | inr p ↦
      let was : classes_under_heading (g ∷ rest) ≡ classes_below (g ∷ rest) = rw p refl in
      let there : slice_get (classes_below (g ∷ rest)) 0 ≡ Some c = rw p at h in
      let none : front_lines (classes_under_heading (g ∷ rest)) ≡ 0 = first_front (classes_under_heading (g ∷ rest)) c alone h in
      let none_new = under_tail tail (front_lines (classes_under_heading (g ∷ rest))) stays none in
      let below_stays : Stays classes_below [] g rest tail = elim stays [
        | inl same ↦ inl (ap front_lines (sym none_new) ∙ (same ∙ ap front_lines was))
        | inr quiet ↦ inr quiet
      ] in
      of_below [] g rest tail c ct was none_new (below_at [] g rest tail c ct alone is below_stays there)
]
  where
    first_front : (cs : List Class) (c : Class) → is_alone c ≡ true → slice_get cs 0 ≡ Some c → front_lines cs ≡ 0
    first_front [] c alone h = refl
    first_front (x ∷ cs) c alone h = let same : c ≡ x = cc in front_of x cs (ap is_alone (sym same) ∙ alone)
under_at (b ∷ bs) g rest tail c ct alone is stays h = elim (cases_Bool (is_planning b)) [
  | inl p ↦
      let moved : (front_lines (Planning ∷ classes_below (bs ++ tail)) ≡ front_lines (Planning ∷ classes_below (bs ++ g ∷ rest))) ⊎ IsQuiet tail = rw p at stays in
      let below_stays : Stays classes_below bs g rest tail = elim moved [
        | inl same ↦ inl (one_less (front_lines (classes_below (bs ++ tail))) (front_lines (classes_below (bs ++ g ∷ rest))) same)
        | inr quiet ↦ inr quiet
      ] in
      let more = below_at bs g rest tail c ct alone is below_stays (rw p at h) in
      record { before = Planning ∷ more.before; size = ap suc more.size; old = rw p (ap (λ cs. Planning ∷ cs) more.old); new = rw p (ap (λ cs. Planning ∷ cs) more.new) }
  | inr p ↦
      let below_stays : Stays classes_below (b ∷ bs) g rest tail = rw p at stays in
      of_below (b ∷ bs) g rest tail c ct (rw p refl) (rw p refl) (below_at (b ∷ bs) g rest tail c ct alone is below_stays (rw p at h))
]
  where
    one_less : (m n : ℕ) → 1 + m ≡ 1 + n → m ≡ n
    one_less m n e = omega (arith, e)

-- the section

-- a section's lines were replaced from one on that is read by itself: the lines before it keep their classes
pub record AreReplaced (h : List ℕ) (bs : List (List ℕ)) (g : List ℕ) (rest tail : List (List ℕ)) (c : Class) (ct : List Class) : Type 0 where
  pub before : List Class
  pub size : length before ≡ length bs
  pub old : classes (h ∷ (bs ++ g ∷ rest)) ≡ Heading ∷ (before ++ c ∷ body_classes None rest)
  pub new : classes (h ∷ (bs ++ tail)) ≡ Heading ∷ (before ++ ct)

-- the front of the section has as many lines then, or what stands there is quiet
abbrev pub SectionStays : List ℕ → List (List ℕ) → List ℕ → List (List ℕ) → List (List ℕ) → Type 0
SectionStays h bs g rest tail = (front_lines (classes (h ∷ (bs ++ tail))) ≡ front_lines (classes (h ∷ (bs ++ g ∷ rest)))) ⊎ IsQuiet tail

pub replaced : (h : List ℕ) (bs : List (List ℕ)) (g : List ℕ) (rest tail : List (List ℕ)) (c : Class) (ct : List Class) → begins_heading h ≡ true → is_alone c ≡ true → IsTail g rest tail ct →
    SectionStays h bs g rest tail → slice_get (classes (h ∷ (bs ++ g ∷ rest))) (length (h ∷ bs)) ≡ Some c → AreReplaced h bs g rest tail c ct
replaced h bs g rest tail c ct begins alone is stays there =
    let was : classes (h ∷ (bs ++ g ∷ rest)) ≡ Heading ∷ classes_under_heading (bs ++ g ∷ rest) = rw begins refl in
    let now : classes (h ∷ (bs ++ tail)) ≡ Heading ∷ classes_under_heading (bs ++ tail) = rw begins refl in
    let under_stays : Stays classes_under_heading bs g rest tail = elim stays [
      | inl same ↦ inl (one_less (front_lines (classes_under_heading (bs ++ tail))) (front_lines (classes_under_heading (bs ++ g ∷ rest))) (ap front_lines (sym now) ∙ (same ∙ ap front_lines was)))
      | inr quiet ↦ inr quiet
    ] in
    let more = under_at bs g rest tail c ct alone is under_stays (ap (λ cs. slice_get cs (length (h ∷ bs))) (sym was) ∙ there) in
    record { before = more.before; size = more.size; old = was ∙ ap (λ cs. Heading ∷ cs) more.old; new = now ∙ ap (λ cs. Heading ∷ cs) more.new }
  where
    one_less : (m n : ℕ) → 1 + m ≡ 1 + n → m ≡ n
    one_less m n e = omega (arith, e)

-- where what stands there is quiet, the front has as many lines

front_split : (cs xs ys : List Class) → front_lines xs ≡ 0 → front_lines ys ≡ 0 → front_lines (cs ++ xs) ≡ front_lines (cs ++ ys)
front_split [] xs ys a b = a ∙ sym b
front_split (c ∷ cs) xs ys a b = elim (cases_Bool (is_front (Some c))) [
  | inl f ↦ rw f (ap (λ n. 1 + n) (front_split cs xs ys a b))
  | inr f ↦ rw f refl
]

pub quiet_front : (h : List ℕ) (bs : List (List ℕ)) (g : List ℕ) (rest tail : List (List ℕ)) (c : Class) (ct : List Class) → is_alone c ≡ true → front_lines ct ≡ 0 →
    AreReplaced h bs g rest tail c ct → front_lines (classes (h ∷ (bs ++ tail))) ≡ front_lines (classes (h ∷ (bs ++ g ∷ rest)))
quiet_front h bs g rest tail c ct alone none r =
    ap front_lines r.new ∙ (front_split (Heading ∷ r.before) ct (c ∷ body_classes None rest) none (front_of c (body_classes None rest) alone) ∙ sym (ap front_lines r.old))
