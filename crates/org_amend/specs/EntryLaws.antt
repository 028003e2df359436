-- Laws of the lines of a new heading (Org Syntax, "Headings"; "Planning").
use Rattle.std.specs.Prelude.{◌≡◌, ℕ, true, false, List, [], ◌∷◌, ◌++◌, map, Option, Some, None, Ok}
use Rattle.std.specs.Option.{option_map}
use Rattle.org_amend.specs.Entries.{are_of_entry, entry_text, has_drawer, is_planned, whole_body}
use Rattle.org_amend.specs.Heads.{HeadWords, head_line, head_text, words_of}
use Rattle.org_amend.specs.Planning.{has_feed}
use Rattle.org_amend.specs.PlanningLaws.{IsDate, IsStampOf, said}
use Rattle.org_amend.specs.declared.entry.NewEntry.{NewEntry}
use Rattle.org_amend.specs.declared.typed.TypedDate.{TypedDate}
use Rattle.org_base.specs.Spans.{bytes_in}
use Rattle.org_class.specs.Classes.{section_classes, section_settings}
use Rattle.org_class.specs.Heading.{begins_heading}
use Rattle.org_class.specs.Sections.{sections}
use Rattle.org_head.specs.Cookie.{cookie_value}
use Rattle.org_head.specs.Head.{head_of}
use Rattle.org_head.specs.declared.head.Head.{Head}
use Rattle.org_settings.specs.Settings.{FileSettings}
use Rattle.org_stamp.specs.declared.pair.PlanningKeyword.TheVariants.{Closed, Deadline, Scheduled}
use Rattle.org_stamp.specs.declared.stamp.Stamp.{Stamp}

-- the head of a line says just these words, and nothing hides it
pub record SaysHead (line : List ℕ) (head : Head) (words : HeadWords) : Type 0 where
  pub level : head.level ≡ words.level
  pub keyword : option_map (bytes_in line) head.keyword ≡ words.keyword
  pub priority : option_map (λ cookie. cookie_value (bytes_in line cookie)) head.priority ≡ words.priority
  pub comment : head.comment ≡ false
  pub title : bytes_in line head.title ≡ words.title
  pub tags : map (bytes_in line) head.tags ≡ words.tags

-- a heading line is read, in a file with these settings, as what was asked for
abbrev pub HeadsAreReadBack : Type 0
HeadsAreReadBack = (settings : FileSettings) (words : HeadWords) (end line : List ℕ) → head_line settings words end ≡ Ok line →
    (line ≡ head_text words ++ end) × SaysHead line (head_of settings line) words

-- a stamp is that of a date, or there is neither
abbrev pub IsOfDate : Option TypedDate → Option Stamp → Type 0
IsOfDate None found = found ≡ None
IsOfDate (Some date) found = (stamp : Stamp) × (found ≡ Some stamp) × IsStampOf date None stamp

-- a planning line says just these dates
pub record SaysDates (scheduled deadline : Option TypedDate) (planning : List ℕ) : Type 0 where
  pub scheduled_is : IsOfDate scheduled (said Scheduled planning)
  pub deadline_is : IsOfDate deadline (said Deadline planning)
  pub none_closed : said Closed planning ≡ None

-- a date, where there is one, is one of the calendar
abbrev pub IsDateOrNone : Option TypedDate → Type 0
IsDateOrNone None = Unit {0}
IsDateOrNone (Some date) = IsDate date

-- lines are read, in a file with these settings, as one heading with these words, these dates and this body, whose lines are
-- text, comments and blocks; none of them is a setting, and no drawer stands among them
pub record IsReadAs (settings : FileSettings) (entry : NewEntry) (text : List ℕ) : Type 0 where
  pub line : List ℕ
  pub planning : List ℕ
  pub text_is : text ≡ line ++ (planning ++ whole_body entry.body.now)
  pub says : SaysHead line (head_of settings line) (words_of entry.head)
  pub dates : SaysDates entry.scheduled entry.deadline planning
  pub begins : begins_heading text ≡ true
  pub ends : has_feed text ≡ true
  pub one : sections text ≡ text ∷ []
  pub classes_are : are_of_entry (is_planned planning) (section_classes text) ≡ true
  pub no_settings : section_settings text ≡ []
  pub no_drawer : has_drawer text (section_classes text) ≡ false

-- the lines of a new heading are read as what was asked for
abbrev pub EntriesAreReadBack : Type 0
EntriesAreReadBack = (settings : FileSettings) (entry : NewEntry) (end text : List ℕ) → IsDateOrNone entry.scheduled → IsDateOrNone entry.deadline →
    entry_text settings entry end ≡ Ok text → IsReadAs settings entry text
