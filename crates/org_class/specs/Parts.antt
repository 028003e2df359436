-- The parts of a section from its first line on, and the classes of their lines (Org Syntax, "Sections"; "Planning";
-- "Property Drawers"; where a drawer may stand before the first heading: profile).
use Rattle.std.specs.Prelude.{◌≡◌, ◌⊎◌, true, false, List, [], ◌∷◌, ◌++◌, map, length, replicate, ℕ}
use Rattle.org_base.specs.Words.{is_blank}
use Rattle.org_stamp.specs.Pair.{is_planning}
use Rattle.org_class.specs.Blocks.{AreBlocks}
use Rattle.org_class.specs.Drawers.{HasDrawer}
use Rattle.org_class.specs.Heading.{begins_heading}
use Rattle.org_class.specs.LineClass.{is_comment, line_class}
use Rattle.org_class.specs.declared.class.Class.{Class}
use Rattle.org_class.specs.declared.class.Class.TheVariants.{Heading, Planning, DrawerOpen, Node, DrawerEnd}

-- no drawer stands at the front
abbrev pub HasNoDrawer : List (List ℕ) → Type 0
HasNoDrawer ls = (nodes rest : List (List ℕ)) → HasDrawer ls nodes rest → ⊥

-- a drawer and the body after it, or the body alone where no drawer stands at its front
pub data AreBelow : List (List ℕ) → List Class → Type 0 where
  WithDrawer : (ls nodes rest : List (List ℕ)) (cs : List Class) → HasDrawer ls nodes rest → AreBlocks rest cs → AreBelow ls (DrawerOpen ∷ (replicate (length nodes) Node ++ DrawerEnd ∷ cs))
  NoDrawer : (ls : List (List ℕ)) (cs : List Class) → HasNoDrawer ls → AreBlocks ls cs → AreBelow ls cs

-- no heading line stands first
abbrev pub NoHeading : List (List ℕ) → Type 0
NoHeading [] = Unit {0}
NoHeading (l ∷ ls) = begins_heading l ≡ false

-- no planning line stands first
abbrev pub NoPlanning : List (List ℕ) → Type 0
NoPlanning [] = Unit {0}
NoPlanning (l ∷ ls) = is_planning l ≡ false

-- comments and blank lines alone
abbrev pub AreLeading : List (List ℕ) → Type 0
AreLeading [] = Unit {0}
AreLeading (l ∷ ls) = ((is_comment l ≡ true) ⊎ (is_blank l ≡ true)) × AreLeading ls

-- neither a comment nor a blank line stands first
abbrev pub NoLeading : List (List ℕ) → Type 0
NoLeading [] = Unit {0}
NoLeading (l ∷ ls) = (is_comment l ≡ false) × (is_blank l ≡ false)

-- a heading line, perhaps a planning line directly under it, then what stands below; or, in front of the first heading,
-- comments and blank lines, and then what stands below
pub data AreOfSection : List (List ℕ) → List Class → Type 0 where
  Planned : (heading planning : List ℕ) (ls : List (List ℕ)) (cs : List Class) → begins_heading heading ≡ true → is_planning planning ≡ true → AreBelow ls cs → AreOfSection (heading ∷ planning ∷ ls) (Heading ∷ Planning ∷ cs)
  Unplanned : (heading : List ℕ) (ls : List (List ℕ)) (cs : List Class) → begins_heading heading ≡ true → NoPlanning ls → AreBelow ls cs → AreOfSection (heading ∷ ls) (Heading ∷ cs)
  BeforeHeadings : (leading ls : List (List ℕ)) (cs : List Class) → NoHeading (leading ++ ls) → AreLeading leading → NoLeading ls → AreBelow ls cs → AreOfSection (leading ++ ls) (map line_class leading ++ cs)
