-- Laws of a clock that is cancelled (profile, as Org does it).
use Rattle.std.specs.Prelude.{◌≡◌, ◌⊎◌, ◌+◌, ◌≤◌, ℕ, true, List, [], ◌∷◌, ◌++◌, length, map, Some}
use Rattle.std.specs.Str.{IsUtf8}
use Rattle.org_amend.specs.Cancelled.{cancelled_part, section_without}
use Rattle.org_amend.specs.Clocks.{running_in, since}
use Rattle.org_amend.specs.Places.{is_logbook}
use Rattle.org_amend.specs.declared.running.RunningClock.{RunningClock}
use Rattle.org_base.specs.Spans.{bytes_in}
use Rattle.org_base.specs.Words.{is_blank}
use Rattle.org_base.specs.declared.span.Span.{Span}
use Rattle.org_class.specs.Classes.{classes_in, section_classes}
use Rattle.org_class.specs.Drawers.{is_drawer_end}
use Rattle.org_class.specs.Heading.{begins_heading}
use Rattle.org_class.specs.Sections.{ends_line}
use Rattle.org_class.specs.declared.class.Class.{Class}
use Rattle.org_class.specs.declared.class.Class.TheVariants.{Clock, Plain}
use Rattle.org_lines.specs.Cuts.{lines}

-- lines that go with a clock that runs since a minute, with their classes: its own, or the drawer that holds no other
pub data AreGone : ℕ → List (List ℕ) → List Class → Type 0 where
  alone : (from : ℕ) (clock : List ℕ) → since clock ≡ Some from → AreGone from (clock ∷ []) (Clock ∷ [])
  drawer : (from : ℕ) (first clock last : List ℕ) → is_logbook first ≡ true → since clock ≡ Some from → is_drawer_end last ≡ true → AreGone from (first ∷ clock ∷ last ∷ []) (Plain ∷ Clock ∷ Plain ∷ [])

-- nothing stays in their place, or an empty line
abbrev pub AreKept : List (List ℕ) → Type 0
AreKept kept = (kept ≡ []) ⊎ ((line : List ℕ) × (kept ≡ line ∷ []) × (is_blank line ≡ true))

-- a section lost the lines of a clock that ran since a minute: all other lines stay, and keep their classes
pub record HasLost (from : ℕ) (section left : List ℕ) : Type 0 where
  pub before : List (List ℕ)
  pub gone : List (List ℕ)
  pub kept : List (List ℕ)
  pub after : List (List ℕ)
  pub before_classes : List Class
  pub gone_classes : List Class
  pub after_classes : List Class
  pub lines_were : lines section ≡ before ++ (gone ++ after)
  pub lines_are : lines left ≡ before ++ (kept ++ after)
  pub classes_were : section_classes section ≡ before_classes ++ (gone_classes ++ after_classes)
  pub classes_are : section_classes left ≡ before_classes ++ (map (λ _. Plain) kept ++ after_classes)
  pub before_size : length before_classes ≡ length before
  pub last_ends : ends_line section ≡ true → ends_line left ≡ true
  pub are_gone : AreGone from gone gone_classes
  pub are_kept : AreKept kept

-- where the running clock of a heading is cancelled, all other lines of its section stay and are read as they were
abbrev pub OthersStay : Type 0
OthersStay = (text : List ℕ) (section : Span) (clock : RunningClock) → section.at + section.len ≤ length text → IsUtf8 (bytes_in text section) → begins_heading (bytes_in text section) ≡ true →
    running_in text section (classes_in text section) ≡ Some clock →
    HasLost clock.from (bytes_in text section) (section_without text section (cancelled_part text section (classes_in text section) clock))
