-- Laws of adding a heading to a text (Org Syntax, "Headings and Sections").
use Rattle.std.specs.Prelude.{◌≡◌, ◌⊎◌, ◌+◌, ◌<◌, ◌≤◌, ℕ, true, List, [], ◌∷◌, ◌++◌, length, drop, Option, None, Some, Ok}
use Rattle.std.specs.List.{concat}
use Rattle.org_act.specs.Adding.{added_text, at_level}
use Rattle.org_act.specs.Lines.{first_line, heading_at}
use Rattle.org_act.specs.PlanningLaws.{IsGap}
use Rattle.org_act.specs.declared.addition.Addition.{Addition}
use Rattle.org_amend.specs.EntryLaws.{IsDateOrNone, IsReadAs}
use Rattle.org_class.specs.Classes.{setting_lines}
use Rattle.org_class.specs.Heading.{begins_heading, stars}
use Rattle.org_class.specs.Sections.{sections}
use Rattle.org_lines.specs.Cuts.{lines}
use Rattle.org_store.specs.Outline.{file_settings}

-- each heading among lines is deeper than a level
abbrev pub AreDeeper : ℕ → List (List ℕ) → Type 0
AreDeeper level [] = Unit {0}
AreDeeper level (l ∷ ls) = (begins_heading l ≡ true → level < stars l) × AreDeeper level ls

-- a text is at its end, or goes on with a heading that is no deeper than a level
abbrev pub EndsBelow : ℕ → List ℕ → Type 0
EndsBelow level text = (text ≡ []) ⊎ ((begins_heading (first_line text) ≡ true) × (stars (first_line text) ≤ level))

-- of a text the front ends where all ends that is below the heading on a line, and the level is one deeper than that heading's
pub record IsLastBelow (text front back : List ℕ) (level line : ℕ) : Type 0 where
  pub before : List ℕ
  pub heading : List ℕ
  pub below : List (List ℕ)
  pub heading_is : heading_at text line ≡ Some (length before)
  pub begins : begins_heading heading ≡ true
  pub front_is : front ≡ before ++ concat (heading ∷ below)
  pub lines_are : lines (drop (length before) text) ≡ heading ∷ (below ++ lines back)
  pub deeper : AreDeeper (stars heading) below
  pub ends : EndsBelow (stars heading) back
  pub level_is : level ≡ stars heading + 1

-- the same where a heading is named, and else the whole text and the first level
abbrev pub IsPlace : List ℕ → List ℕ → List ℕ → ℕ → Option ℕ → Type 0
IsPlace text front back level None = (back ≡ []) × (level ≡ 1)
IsPlace text front back level (Some line) = IsLastBelow text front back level line

-- a heading was added: its lines stand behind all others, or behind all that is below the one that is named, after a line
-- feed where the text before has none, and are read as what was asked for, at the level of the place. All other bytes stay, and so do all other sections and the setting lines
pub record IsAdded (a : Addition) (text new : List ℕ) : Type 0 where
  pub front : List ℕ
  pub gap : List ℕ
  pub own : List ℕ
  pub back : List ℕ
  pub level : ℕ
  pub text_is : text ≡ front ++ back
  pub place : IsPlace text front back level a.under
  pub gap_is : IsGap gap
  pub new_is : new ≡ (front ++ gap) ++ (own ++ back)
  pub read : IsReadAs (file_settings (text ++ a.behind.now)) (at_level a.entry level) own
  pub sections_are : sections new ≡ sections (front ++ gap) ++ own ∷ sections back
  pub settings_are : setting_lines new ≡ setting_lines (front ++ gap) ++ setting_lines back

-- what adding makes of a text, where it isn't refused
abbrev pub HeadingsAreAdded : Type 0
HeadingsAreAdded = (a : Addition) (text new : List ℕ) → IsDateOrNone a.entry.scheduled → IsDateOrNone a.entry.deadline → added_text a text ≡ Ok new → IsAdded a text new
