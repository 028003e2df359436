-- What a completion reads of a file with kept sections (profile).
use Rattle.std.specs.Prelude.{◌≡◌, ◌<◌, ◌≤◌, ℕ, Option, None, Some, IfSome, length, get_or, true, false}
use Rattle.org_base.specs.Counts.{Counts}
use Rattle.org_class.specs.Sections.{sections}
use Rattle.org_store.specs.Begun.{IsBegunBy, has_heading}
use Rattle.org_store.specs.Counts.{have_read}
use Rattle.org_store.specs.File.{FileView, marked, unread_at}

-- the file with the section at a place read, or as it is
abbrev pub with_one_read : Option ℕ → FileView → FileView
with_one_read None file = file
with_one_read (Some place) file = record file { marks = marked place file.marks }

-- at most one section was read, and is marked unless memory was refused
pub record HasReadOne (old new : FileView) (before after : Counts) : Type 0 where
  pub place : Option ℕ
  pub reads : ℕ
  pub within : IfSome place (λ p. p < length old.marks)
  pub few : reads ≤ 1
  pub file : new ≡ with_one_read place old
  pub counts : after ≡ have_read reads before

-- the section at a place is one of the file's
pub record IsPlaceIn (file : FileView) (place : ℕ) : Type 0 where
  pub section : place < length (sections file.text)
  pub mark : place < length file.marks

-- and was read
abbrev pub WasReadAt : FileView → ℕ → Type 0
WasReadAt file place = get_or file.marks place false ≡ true

-- just the section that begins with a line was read, and counted where it was still to be read
pub record HasReadLine (line : ℕ) (old new : FileView) (before after : Counts) : Type 0 where
  pub place : ℕ
  pub begun : IsBegunBy old.text line place
  pub file : new ≡ record old { marks = marked place old.marks }
  pub counts : after ≡ have_read (unread_at old.marks place) before

-- that section was read where the line is a heading's; else nothing was
pub data ReadsOwn (line : ℕ) (old new : FileView) (before after : Counts) : Type 0 where
  NoHeading : has_heading old.text line ≡ false → new ≡ old → after ≡ before → ReadsOwn line old new before after
  Own : HasReadLine line old new before after → ReadsOwn line old new before after
