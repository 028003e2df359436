-- The classes of a section's lines are those of its parts.
use Rattle.std.proofs.Common.{◌≡◌, ◌⊎◌, inl, inr, ℕ, Bool, if◌then◌else◌, true, false, ◌||◌, List, [], ◌∷◌, ◌++◌, drop, get_or, length, map, replicate, refl, sym, subst, ap, ◌∙◌, None}
use Rattle.std.proofs.lemmas.Bool.{cases_Bool}
use Rattle.org_base.specs.Words.{is_blank}
use Rattle.org_lines.specs.Cuts.{lines}
use Rattle.org_stamp.specs.Pair.{is_planning}
use Rattle.org_class.specs.Blocks.{body_classes, AreBlocks}
use Rattle.org_class.specs.Classes.{classes, classes_under_heading, front_classes}
use Rattle.org_class.specs.Drawers.{HasDrawer, classes_below, closes_drawer, is_drawer_open}
use Rattle.org_class.specs.Heading.{begins_heading}
use Rattle.org_class.specs.Laws.{SectionsHaveParts}
use Rattle.org_class.specs.LineClass.{is_comment, line_class}
use Rattle.org_class.specs.Parts.{AreBelow, WithDrawer, NoDrawer, HasNoDrawer, NoHeading, NoPlanning, AreLeading, NoLeading, AreOfSection, Planned, Unplanned, BeforeHeadings}
use Rattle.org_class.specs.declared.class.Class.{Class}
use Rattle.org_class.specs.declared.class.Class.TheVariants.{Heading, Planning, DrawerOpen, Node, DrawerEnd}
use Rattle.org_class.proofs.BlockLaw.{body_blocks}
use Rattle.org_class.proofs.DrawerLemmas.{closed, closing, drawers_are_found, others_are_bodies}

-- a drawer and a body

are_blocks : (ls : List (List ℕ)) → AreBlocks ls (body_classes None ls)
are_blocks ls = (body_blocks ls (body_classes None ls)).1 refl

found : (ls nodes rest : List (List ℕ)) → HasDrawer ls nodes rest → AreBelow ls (classes_below ls)
found ls nodes rest d =
    subst (AreBelow ls) (sym (drawers_are_found ls nodes rest d)) (WithDrawer ls nodes rest (body_classes None rest) d (are_blocks rest))

none_found : (ls : List (List ℕ)) → HasNoDrawer ls → AreBelow ls (classes_below ls)
none_found ls no_one = subst (AreBelow ls) (sym (others_are_bodies ls no_one)) (NoDrawer ls (body_classes None ls) no_one (are_blocks ls))

opens : (l : List ℕ) (ls nodes rest : List (List ℕ)) → HasDrawer (l ∷ ls) nodes rest → (is_drawer_open l ≡ true) × (closes_drawer ls ≡ true)
opens l ls nodes rest d =
    let first : l ≡ d.first = ap (λ xs. get_or xs 0 []) d.spelled in
    let others : ls ≡ nodes ++ d.last ∷ rest = ap (drop 1) d.spelled in
    (ap is_drawer_open first ∙ d.opens, ap closes_drawer others ∙ closed nodes d.last rest d.are_nodes d.ends)

below_is : (ls : List (List ℕ)) → AreBelow ls (classes_below ls)
below_is [] = none_found [] (λ nodes rest d. absurd (let none = d.spelled in cc))
below_is (l ∷ ls) = elim (cases_Bool (is_drawer_open l)) [
  | inl o ↦ elim (cases_Bool (closes_drawer ls)) [
    | inl c ↦
        let d = closing ls c in
        found (l ∷ ls) d.nodes d.rest (record { first = l; last = d.last; spelled = ap (λ xs. l ∷ xs) d.spelled; opens = o; are_nodes = d.are_nodes; none_ends = d.none_ends; ends = d.ends })
    | inr c ↦ none_found (l ∷ ls) (λ nodes rest d. absurd (let wrong : true ≡ false = sym (opens l ls nodes rest d).1 ∙ c in cc))
  ]
  | inr o ↦ none_found (l ∷ ls) (λ nodes rest d. absurd (let wrong : true ≡ false = sym (opens l ls nodes rest d).0 ∙ o in cc))
]

below_back : (ls : List (List ℕ)) (cs : List Class) → AreBelow ls cs → classes_below ls ≡ cs
below_back ls cs (WithDrawer ls₁ nodes rest body d blocks) =
    drawers_are_found ls₁ nodes rest d
    ∙ ap (λ more. DrawerOpen ∷ (replicate (length nodes) Node ++ DrawerEnd ∷ more)) (sym ((body_blocks rest body).0 blocks))
below_back ls cs (NoDrawer ls₁ body no_one blocks) = others_are_bodies ls₁ no_one ∙ sym ((body_blocks ls₁ body).0 blocks)

-- what leads in front of the first heading

either : (a b : Bool) → (a ≡ true) ⊎ (b ≡ true) → (a || b) ≡ true
either true b h = refl
either false b (inl h) = absurd (cc)
either false b (inr h) = h

leads : (l : List ℕ) (ls : List (List ℕ)) (cs : List Class) → (is_comment l ≡ true) ⊎ (is_blank l ≡ true) → front_classes ls ≡ cs → front_classes (l ∷ ls) ≡ line_class l ∷ cs
leads l ls cs h e =
    ap (λ b. if b then line_class l ∷ front_classes ls else classes_below (l ∷ ls)) (either (is_comment l) (is_blank l) h)
    ∙ ap (λ t. line_class l ∷ t) e

record Front (ls : List (List ℕ)) : Type 0 where
  pub leading : List (List ℕ)
  pub rest : List (List ℕ)
  pub spelled : ls ≡ leading ++ rest
  pub are_leading : AreLeading leading
  pub no_more : NoLeading rest
  pub classed : front_classes ls ≡ map line_class leading ++ classes_below rest

front_of : (ls : List (List ℕ)) → Front ls
front_of [] = record { leading = []; rest = []; spelled = refl; are_leading = tt; no_more = tt; classed = refl }
front_of (l ∷ ls) =
    let more = front_of ls in
    elim (cases_Bool (is_comment l)) [
      | inl c ↦ record {
        leading = l ∷ more.leading;
        rest = more.rest;
        spelled = ap (λ xs. l ∷ xs) more.spelled;
        are_leading = (inl c, more.are_leading);
        no_more = more.no_more;
        classed = leads l ls (map line_class more.leading ++ classes_below more.rest) (inl c) more.classed;
      }
      | inr c ↦ elim (cases_Bool (is_blank l)) [
        | inl b ↦ record {
          leading = l ∷ more.leading;
          rest = more.rest;
          spelled = ap (λ xs. l ∷ xs) more.spelled;
          are_leading = (inr b, more.are_leading);
          no_more = more.no_more;
          classed = leads l ls (map line_class more.leading ++ classes_below more.rest) (inr b) more.classed;
        }
        | inr b ↦ record { leading = []; rest = l ∷ ls; spelled = refl; are_leading = tt; no_more = (c, b); classed = rw (c, b) refl }
      ]
    ]

front_back : (leading rest : List (List ℕ)) → AreLeading leading → NoLeading rest → front_classes (leading ++ rest) ≡ map line_class leading ++ classes_below rest
front_back [] [] h none = refl
front_back [] (l ∷ ls) h none = rw (none.0, none.1) refl
front_back (l ∷ leading) rest h none = leads l (leading ++ rest) (map line_class leading ++ classes_below rest) h.0 (front_back leading rest h.1 none)

-- sections

no_heading : (ls : List (List ℕ)) → NoHeading ls → classes ls ≡ front_classes ls
no_heading [] h = refl
no_heading (l ∷ ls) h = rw h refl

under : (l : List ℕ) (ls : List (List ℕ)) → begins_heading l ≡ true → AreOfSection (l ∷ ls) (Heading ∷ classes_under_heading ls)
under l [] h = Unplanned l [] [] h tt (below_is [])
under l (p ∷ ls) h = elim (cases_Bool (is_planning p)) [
  | inl y ↦ rw y (Planned l p ls (classes_below ls) h y (below_is ls))
  | inr n ↦ rw n (Unplanned l (p ∷ ls) (classes_below (p ∷ ls)) h n (below_is (p ∷ ls)))
]

fronted : (ls : List (List ℕ)) → NoHeading ls → AreOfSection ls (classes ls)
fronted ls h =
    let f = front_of ls in
    subst (AreOfSection ls) (sym (no_heading ls h ∙ f.classed))
    (subst (λ t. AreOfSection t (map line_class f.leading ++ classes_below f.rest)) (sym f.spelled)
    (BeforeHeadings f.leading f.rest (classes_below f.rest) (subst NoHeading f.spelled h) f.are_leading f.no_more (below_is f.rest)))

section_is : (ls : List (List ℕ)) → AreOfSection ls (classes ls)
section_is [] = fronted [] tt
section_is (l ∷ ls) = elim (cases_Bool (begins_heading l)) [
  | inl h ↦ rw h (under l ls h)
  | inr h ↦ fronted (l ∷ ls) h
]

unplanned : (ls : List (List ℕ)) → NoPlanning ls → classes_under_heading ls ≡ classes_below ls
unplanned [] h = refl
unplanned (l ∷ ls) h = rw h refl

section_back : (ls : List (List ℕ)) (cs : List Class) → AreOfSection ls cs → classes ls ≡ cs
section_back ls cs (Planned heading planning more body h p below) = rw (h, p) (ap (λ t. Heading ∷ Planning ∷ t) (below_back more body below))
section_back ls cs (Unplanned heading more body h p below) = rw h (ap (λ t. Heading ∷ t) (unplanned more p ∙ below_back more body below))
section_back ls cs (BeforeHeadings leading rest body h are none below) =
    no_heading (leading ++ rest) h ∙ (front_back leading rest are none ∙ ap (λ t. map line_class leading ++ t) (below_back rest body below))

pub sections_have_parts : SectionsHaveParts
sections_have_parts section cs = (
  λ e. subst (AreOfSection (lines section)) e (section_is (lines section)),
  section_back (lines section) cs,
)
