-- Worked examples: what the definitions say of inputs at which a wrong rule says something else.
use Rattle.std.specs.Prelude.{◌≡◌, ℕ, true, List, [], ◌∷◌, None, codes, map}
use Rattle.std.specs.Option.{option_map}
use Rattle.org_agenda.specs.Days.{day_rows}
use Rattle.org_agenda.specs.Lists.{list_rows, Listing, Matching, Named, Open, row_at}
use Rattle.org_agenda.specs.declared.row.RowKind.TheVariants.{OnDay}
use Rattle.org_agenda.specs.declared.source.HeadingStamp.{HeadingStamp}
use Rattle.org_base.specs.declared.profile.Profile.TheVariants.{One}
use Rattle.org_base.specs.declared.span.Span.{Span}
use Rattle.org_cal.specs.declared.moment.Moment.{Moment}
use Rattle.org_entry.specs.declared.active.Role.TheVariants.{Plain}
use Rattle.org_entry.specs.Entry.{entries_of, entry_of}
use Rattle.org_entry.specs.declared.entry.Entry.{Entry}
use Rattle.org_expression.specs.Grammar.{Direct, item, Tag, Tags, Unsigned}
use Rattle.org_head.specs.declared.head.Head.{Head}
use Rattle.org_inherit.specs.Scope.{Scope, scope_with}
use Rattle.org_settings.specs.Settings.{settings_of}

-- a file of these entries, without settings
abbrev pub scope_of : List Entry → Scope
scope_of entries = scope_with entries (settings_of []) (codes "notes.org") []

-- a file of this text
abbrev pub file_of : List ℕ → Scope
file_of text = scope_of (entries_of (settings_of []) text)

-- the entry of a section
abbrev pub section : List ℕ → Entry
section bytes = entry_of (settings_of []) bytes

-- a head with these tags
abbrev pub head_with : List Span → Head → Head
head_with tags head = record head { tags = tags }

-- an entry whose tags are these parts of its text
abbrev pub with_tags : List Span → Entry → Entry
with_tags tags e = record e { head = option_map (head_with tags) e.head }

-- a heading with the tag `work`, one below it, and one beside it
abbrev pub one_below : Scope
one_below = scope_of (with_tags (record { at = 4; len = 4 } ∷ []) (section (codes "* A work\n")) ∷ section (codes "** B\n") ∷ section (codes "* C\n") ∷ [])

-- the headings with the tag `work`, own or inherited
abbrev pub of_work : Moment → Listing
of_work moment = Matching (Tags (item Direct Unsigned (Tag (codes "work")) ∷ [])) moment

-- a plain stamp of a day, of the first heading of the first file
abbrev pub on_day : ℕ → HeadingStamp
on_day day = record {
  owner = record { file = 0; heading = 0; priority = 66; is_open = true };
  stamp_at = 4;
  role = Plain;
  stamp = record { active = true; day = day; time = None; end_time = None; repeater = None; delay = None; last = None };
}

-- an open list shows a heading neither with a done keyword nor without one, and a list of keywords shows those alone. Two equal
-- stamps give two rows. Rows of one priority stand in the order of files, and a heading has the tags of those above it (Org manual 9.6, "The Global TODO List"; "Tag Inheritance"; profile)
pub record ExamplesHold : Type 0 where
  pub open_alone : list_rows Open (file_of (codes "* DONE A\n* B\n* TODO C\n") ∷ []) ≡ row_at 0 2 ∷ []
  pub named_alone : list_rows (Named (codes "DONE" ∷ [])) (file_of (codes "* TODO A\n* DONE B\n") ∷ []) ≡ row_at 0 1 ∷ []
  pub files_in_order : list_rows Open (file_of (codes "* TODO A\n") ∷ file_of (codes "* TODO B\n") ∷ []) ≡ row_at 0 0 ∷ row_at 1 0 ∷ []
  pub equal_rows_stand_twice : map (λ row. row.kind) (day_rows One (on_day 100 ∷ on_day 100 ∷ []) 100 100) ≡ OnDay ∷ OnDay ∷ []
  pub inherited : (moment : Moment) → list_rows (of_work moment) (one_below ∷ []) ≡ row_at 0 0 ∷ row_at 0 1 ∷ []
