-- Laws of the parts of a heading line (Org Syntax, "Headings").
use Rattle.std.specs.Prelude.{ℕ, ◌≡◌, List, IsTrue}
use Rattle.org_head.specs.declared.head.Head.{Head}
use Rattle.org_settings.specs.Settings.{FileSettings}
use Rattle.org_class.specs.Heading.{begins_heading}
use Rattle.org_head.specs.Head.{head_of}
use Rattle.org_head.specs.HeadParts.{HasParts}

-- each heading line is the spelling of the parts that are read
abbrev pub PartsAreThose : Type 0
PartsAreThose = (settings : FileSettings) (line : List ℕ) → IsTrue (begins_heading line) → HasParts settings line (head_of settings line)

-- a line is the spelling of no other parts
abbrev pub PartsAreDetermined : Type 0
PartsAreDetermined = (settings : FileSettings) (line : List ℕ) (head : Head) → HasParts settings line head → head ≡ head_of settings line
