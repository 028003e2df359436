-- Where sections end (Org Syntax, "Headings and Sections").
use Rattle.std.specs.Prelude.{ℕ, ◌-◌, ◌<◌, ◌≤◌, ◌≡◌, Bool, true, false, ◌&&◌, ◌==◌, if◌then◌else◌, List, length, slice_index}
use Rattle.std.specs.List.{slice_range}
use Rattle.org_class.specs.Heading.{begins_heading}

-- of a text up to an end, a section ends before a place: a line feed stands there, and a heading line follows
abbrev pub ends_before : List ℕ → ℕ → ℕ → Bool
ends_before text end place = (slice_index text (place - 1) == 10) && begins_heading (slice_range text place end)

-- of a text up to an end, the section that begins at a place ends before another: the first such place, or the end
pub record IsSectionEnd (text : List ℕ) (end at place : ℕ) : Type 0 where
  pub after : at < place
  pub within : place ≤ end
  pub none : (k : ℕ) → at < k → k < place → ends_before text end k ≡ false
  pub ends : place < end → ends_before text end place ≡ true

-- a line begins at a place of a run: a line feed stands before it; of the first place it is told
abbrev pub begins_line : Bool → List ℕ → ℕ → Bool
begins_line at_front run place = if place == 0 then at_front else (slice_index run (place - 1) == 10)

-- a star stands at a place of a run, and a line begins there
abbrev pub has_line_star : Bool → List ℕ → ℕ → Bool
has_line_star at_front run place = begins_line at_front run place && (slice_index run place == 42)

-- the first star of a run at which a line begins
pub record IsLineStar (at_front : Bool) (run : List ℕ) (place : ℕ) : Type 0 where
  pub within : place < length run
  pub star : has_line_star at_front run place ≡ true
  pub none : (k : ℕ) → k < place → has_line_star at_front run k ≡ false

-- a line begins at no star of a run
abbrev pub HasNoLineStar : Bool → List ℕ → Type 0
HasNoLineStar at_front run = (k : ℕ) → k < length run → has_line_star at_front run k ≡ false
