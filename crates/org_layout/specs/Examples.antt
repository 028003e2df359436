-- Worked examples: what the definitions say of inputs at which a wrong rule says something else.
use Rattle.std.specs.Prelude.{◌≡◌, ℕ, false, List, [], ◌∷◌, Option, None, Some, codes, encode_utf8_all}
use Rattle.org_agenda.specs.declared.row.RowKind.TheVariants.{InRange, LateDeadline, Warning}
use Rattle.org_base.specs.declared.span.Span.{Span}
use Rattle.org_clocktable.specs.declared.row.Of.TheVariants.{Heading}
use Rattle.org_entry.specs.declared.entry.Entry.{Entry}
use Rattle.org_head.specs.declared.head.Head.{Head}
use Rattle.org_inherit.specs.Scope.{Scope}
use Rattle.org_layout.specs.Columns.{padded}
use Rattle.org_layout.specs.Days.{label_text}
use Rattle.org_layout.specs.Lines.{entry_text}
use Rattle.org_layout.specs.Tables.{name_text}

-- a part of a line: so many bytes from a place on
abbrev pub part : ℕ → ℕ → Span
part at len = record { at = at; len = len }

-- a heading line of one star with these parts
abbrev pub head_of : Option Span → Option Span → Span → Head
head_of keyword priority title = record { level = 1; comment = false; keyword = keyword; priority = priority; title = title; tags = [] }

-- an entry with this heading line and nothing else
abbrev pub entry_of : List ℕ → Head → Entry
entry_of line head = record { text = line; head = Some head; details = record { drawer = []; stamps = []; clocks = [] } }

-- `* B`, and `* TODO [#A] Title`
abbrev pub short : Entry
short = entry_of (codes "* B\n") (head_of None None (part 2 1))

abbrev pub long : Entry
long = entry_of (codes "* TODO [#A] Title\n") (head_of (Some (part 2 4)) (Some (part 7 4)) (part 12 5))

-- a column counts wide characters twice. Two spaces stand before a title for each level, and the tags after it. A range has the number of its day before that of
-- all its days, and a deadline ahead says in how many days it comes (Org manual 9.6, "The clock table"; Emacs 29,
-- `org-agenda-deadline-leaders`; profile)
pub record ExamplesHold : Type 0 where
  pub wide_count_two : padded (encode_utf8_all (codes "日本:")) 12 ≡ encode_utf8_all (codes "日本:       ")
  pub two_a_level : (scope : Scope) → name_text (record scope { entries = short ∷ [] } ∷ []) (Heading 0 0 2) ≡ codes "    B"
  pub second_of_three : label_text InRange 2 3 ≡ codes "(2/3): "
  pub in_three_days : label_text Warning 3 0 ≡ codes "In 3 d.: "
  pub three_days_ago : label_text LateDeadline 3 0 ≡ codes "3 d. ago: "
  pub title_before_tags : entry_text long (codes "tag" ∷ []) ≡ codes "TODO [#A] Title :tag:"
