-- What the marks of a section's lines are, in the rules' own words (Org Syntax, "Timestamps"; "Planning"; "Property
-- Drawers"; "Blocks"; "Clocks"; what looks so: profile).
use Rattle.std.specs.Prelude.{◌≡◌, ◌≢◌, ◌⊎◌, ℕ, true, List, [], ◌∷◌, Some, codes, nat_eq, is_some}
use Rattle.std.specs.List.{starts_with}
use Rattle.org_stamp.specs.Pair.{past_spaces, word_at}
use Rattle.org_class.specs.Blocks.{block_name}
use Rattle.org_class.specs.Drawers.{is_drawer_open}
use Rattle.org_class.specs.declared.class.Class.{Class}
use Rattle.org_class.specs.declared.class.Class.TheVariants.{Clock}
use Rattle.org_drawer.specs.Clock.{clock_of, minutes_in}
use Rattle.org_drawer.specs.declared.clock.ClockLine.{ClockLine}
use Rattle.org_lines.specs.Cuts.{Cut}
use Rattle.org_check.specs.Marks.{cut_marks, has_stamps, indent, is_text}
use Rattle.org_check.specs.UnreadStamps.{LooksLikeStampAndIsNone}
use Rattle.org_check.specs.declared.look.Look.{Look}
use Rattle.org_check.specs.declared.look.Look.TheVariants as look
use Rattle.org_check.specs.declared.look.Mark.{Mark}

-- a line with its class is one of these lines with their classes, one for each
abbrev pub IsLineOf : Cut → Class → List Cut → List Class → Type 0
IsLineOf l c [] cs = ⊥
IsLineOf l c (k ∷ ls) [] = ⊥
IsLineOf l c (k ∷ ls) (d ∷ cs) = ((l ≡ k) × (c ≡ d)) ⊎ IsLineOf l c ls cs

-- a mark is one of these
abbrev pub IsMarkOf : Mark → List Mark → Type 0
IsMarkOf m [] = ⊥
IsMarkOf m (n ∷ ns) = (m ≡ n) ⊎ IsMarkOf m ns

-- a clock of a line that has no minute in any period
pub record CountsNothing (line : List ℕ) : Type 0 where
  pub clock : ClockLine
  pub is : clock_of line ≡ Some clock
  pub none : (first last : ℕ) → minutes_in clock (first, last) ≡ 0

-- what stands at a place of a line of a class looks so, and isn't read so. It is a bracket and a date-like text where no
-- stamp begins. In a line of text it is a planning word, `:PROPERTIES:` alone, `#+BEGIN_X` or `CLOCK:` in front; in a
-- clock line a clock without a minute in any period
abbrev pub LooksLost : Look → Class → List ℕ → ℕ → Type 0
LooksLost look.Stamp c line p = (has_stamps c ≡ true) × LooksLikeStampAndIsNone line p
LooksLost look.Planning c line p = (is_text c ≡ true) × (is_some (word_at (past_spaces line)) ≡ true) × (p ≡ indent line)
LooksLost look.Drawer c line p = (is_text c ≡ true) × (is_drawer_open line ≡ true) × (p ≡ indent line)
LooksLost look.Block c line p = (is_text c ≡ true) × (block_name line ≢ []) × (p ≡ indent line)
LooksLost look.Clock c line p = (is_text c ≡ true) × (starts_with nat_eq (past_spaces line) (codes "CLOCK:") ≡ true) × (p ≡ indent line)
LooksLost look.Minutes c line p = (c ≡ Clock) × CountsNothing line × (p ≡ indent line)

-- whatever looks so in a line has its mark
abbrev pub AllAreMarked : Type 0
AllAreMarked = (lines : List Cut) (classes : List Class) (l : Cut) (c : Class) (what : Look) (p : ℕ) →
    IsLineOf l c lines classes → LooksLost what c l.bytes p → IsMarkOf (record { line_at = l.at; place = p; look = what }) (cut_marks lines classes)

-- a line that has a mark, and what looks so in it
pub record IsOfLine (lines : List Cut) (classes : List Class) (m : Mark) : Type 0 where
  pub line : Cut
  pub class : Class
  pub line_is : IsLineOf line class lines classes
  pub at_is : m.line_at ≡ line.at
  pub looks : LooksLost m.look class line.bytes m.place

-- and each mark stands where something looks so
abbrev pub MarksAreTrue : Type 0
MarksAreTrue = (lines : List Cut) (classes : List Class) (m : Mark) → IsMarkOf m (cut_marks lines classes) → IsOfLine lines classes m
