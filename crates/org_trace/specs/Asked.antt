-- What is asked of a file and of a section (profile).
use Rattle.std.specs.Prelude.{ℕ, Bool, List}
use Rattle.org_base.specs.declared.span.Span.{Span}
use Rattle.org_settings.specs.Keywords.{Keyword}
use Rattle.org_trace.specs.declared.row.LogQuery.{LogQuery}

-- a file by its place and its keywords, of which of its sections rows are shown, and what is asked
pub record FileAsked : Type 0 where
  pub file : ℕ
  pub keywords : List Keyword
  pub shown : List Bool
  pub asked : LogQuery

-- a section by the places of its file and in it and by its part of the text, with the keywords of the file
pub record SectionAsked : Type 0 where
  pub file : ℕ
  pub heading : ℕ
  pub span : Span
  pub keywords : List Keyword
  pub asked : LogQuery
