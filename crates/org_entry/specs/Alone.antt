-- Sections of one line.
use Rattle.std.specs.Prelude.{◌≡◌, ℕ, List, [], ◌∷◌}
use Rattle.org_base.specs.Spans.{bytes_in}
use Rattle.org_base.specs.declared.span.Span.{Span}
use Rattle.org_class.specs.Classes.{section_classes}
use Rattle.org_class.specs.declared.class.Class.TheVariants.{Heading}

-- a section of a text is this heading line and no other line
pub record IsHeadingAlone (text : List ℕ) (section : Span) (line : List ℕ) : Type 0 where
  pub bytes : line ≡ bytes_in text section
  pub class : section_classes line ≡ Heading ∷ []
