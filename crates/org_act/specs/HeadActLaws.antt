-- Laws of changing the heading line on a line of a text (Org Syntax, "Headings").
use Rattle.std.specs.Prelude.{◌≡◌, ℕ, true, List, ◌++◌, length, Some, Ok}
use Rattle.org_act.specs.HeadActs.{changed_text}
use Rattle.org_act.specs.Lines.{first_line, heading_at}
use Rattle.org_act.specs.declared.head_act.HeadAct.{HeadAct}
use Rattle.org_amend.specs.HeadChangeLaws.{IsChanged}
use Rattle.org_class.specs.Heading.{begins_heading}
use Rattle.org_store.specs.Outline.{file_settings}

-- the heading line on a line became another: this one is read, in the file that it was read in, as what that said but for the
-- change, and ends as that did. All that stands before it and behind it stays
pub record IsHeadChanged (a : HeadAct) (text new : List ℕ) : Type 0 where
  pub front : List ℕ
  pub old : List ℕ
  pub line : List ℕ
  pub rest : List ℕ
  pub place : heading_at text a.line ≡ Some (length front)
  pub begins : begins_heading old ≡ true
  pub old_is : old ≡ first_line (old ++ rest)
  pub text_is : text ≡ front ++ (old ++ rest)
  pub new_is : new ≡ front ++ (line ++ rest)
  pub changed : IsChanged (file_settings (text ++ a.behind.now)) a.change old line

-- what the act makes of a text, where it isn't refused
abbrev pub HeadLinesAreChanged : Type 0
HeadLinesAreChanged = (a : HeadAct) (text new : List ℕ) → changed_text a text ≡ Ok new → IsHeadChanged a text new
