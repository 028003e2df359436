-- Laws of a heading line that is changed (Org Syntax, "Headings").
use Rattle.std.specs.Prelude.{◌≡◌, ℕ, true, List, Ok}
use Rattle.std.specs.Option.{option_map}
use Rattle.org_amend.specs.HeadChanges.{changed_head, cookie_in, keyword_by, priority_by}
use Rattle.org_amend.specs.Planning.{ends_like}
use Rattle.org_amend.specs.WantedTags.{parts_in, tags_by}
use Rattle.org_amend.specs.declared.head_change.HeadChange.{HeadChange}
use Rattle.org_base.specs.Spans.{bytes_in}
use Rattle.org_class.specs.Heading.{begins_heading}
use Rattle.org_head.specs.Head.{head_of}
use Rattle.org_head.specs.declared.head.Head.{Head}
use Rattle.org_settings.specs.Settings.{FileSettings}

-- a new line of one head says all that a line of another says, but for a change
pub record SaysChanged (change : HeadChange) (line : List ℕ) (was : Head) (new : List ℕ) (now : Head) : Type 0 where
  pub level : now.level ≡ was.level
  pub comment : now.comment ≡ was.comment
  pub title : bytes_in new now.title ≡ bytes_in line was.title
  pub keyword : option_map (bytes_in new) now.keyword ≡ keyword_by change (option_map (bytes_in line) was.keyword)
  pub priority : option_map (cookie_in new) now.priority ≡ priority_by change (option_map (cookie_in line) was.priority)
  pub tags : parts_in new now.tags ≡ tags_by change (parts_in line was.tags)

-- a line became another: a heading line that ends as it did and says all that it said, but for a change
pub record IsChanged (settings : FileSettings) (change : HeadChange) (line new : List ℕ) : Type 0 where
  pub begins : begins_heading new ≡ true
  pub ends : ends_like line new ≡ true
  pub says : SaysChanged change line (head_of settings line) new (head_of settings new)

-- a heading line that is changed is read as what it said, but for the change
abbrev pub HeadsAreChanged : Type 0
HeadsAreChanged = (settings : FileSettings) (change : HeadChange) (line new : List ℕ) → changed_head settings change line ≡ Ok new → IsChanged settings change line new
