-- Worked examples: what the definitions say of inputs at which a wrong rule says something else.
use Rattle.std.specs.Prelude.{◌≡◌, false, [], ◌∷◌, codes}
use Rattle.org_settings.specs.Settings.{FileSettings, settings_of}
use Rattle.org_head.specs.Head.{head_of, priority_at}
use Rattle.org_head.specs.Parts.{are_tag_chars}

-- a file that names C as its default priority
abbrev pub to_c : FileSettings
to_c = settings_of (codes "#+PRIORITIES: A C C" ∷ [])

-- a heading without a cookie has the priority that its file names as the default, and a minus stands in no tag (Org manual 9.6,
-- "Priorities"; Org Syntax, "Headings")
pub record ExamplesHold : Type 0 where
  pub default_of_the_file : priority_at to_c (codes "* a") (head_of to_c (codes "* a")).priority ≡ 67
  pub no_minus : are_tag_chars (codes "-") ≡ false
