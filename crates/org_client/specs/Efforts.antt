-- Headings by their efforts (Org manual 9.6, "Effort Estimates"; that what has none is no small one: profile).
use Rattle.std.specs.Prelude.{ℕ, Bool, false, ◌&&◌, nat_le, List, Option, None, Some, filter, slice_get}
use Rattle.org_agenda.specs.declared.row.Row.{Row}
use Rattle.org_agenda.specs.declared.source.HeadingStamp.{HeadingStamp}
use Rattle.org_client.specs.RowOrder.{effort_in}
use Rattle.org_client.specs.declared.efforts.Efforts.{Efforts}
use Rattle.org_entry.specs.declared.entry.Entry.{Entry}
use Rattle.org_head.specs.declared.head.Head.{Head}
use Rattle.org_inherit.specs.Scope.{Scope}

-- there are minutes, no fewer than the least and no more than the most
abbrev pub is_within : Efforts → Option ℕ → Bool
is_within efforts None = false
is_within efforts (Some minutes) = nat_le efforts.least minutes && nat_le minutes efforts.most

-- those of an entry, if it has a head
abbrev pub is_head_within : Efforts → Entry → Option Head → Bool
is_head_within efforts e None = false
is_head_within efforts e (Some head) = is_within efforts (effort_in e)

-- those of an entry, if there is one
abbrev pub is_entry_within : Efforts → Option Entry → Bool
is_entry_within efforts None = false
is_entry_within efforts (Some e) = is_head_within efforts e e.head

-- those of the entry at a place of a file, if there is such a file
abbrev pub is_scope_within : Efforts → Option Scope → ℕ → Bool
is_scope_within efforts None heading = false
is_scope_within efforts (Some scope) heading = is_entry_within efforts (slice_get scope.entries heading)

-- the heading at a place of the file at another has one of these efforts
abbrev pub has_effort : Efforts → List Scope → ℕ → ℕ → Bool
has_effort efforts scopes file heading = is_scope_within efforts (slice_get scopes file) heading

abbrev pub is_of_row : Efforts → List Scope → Row → Bool
is_of_row efforts scopes row = has_effort efforts scopes row.file row.heading

abbrev pub is_of_stamp : Efforts → List Scope → HeadingStamp → Bool
is_of_stamp efforts scopes stamp = has_effort efforts scopes stamp.owner.file stamp.owner.heading

-- those of some rows whose headings have one of the efforts that are asked for, or all where none are
abbrev pub rows_of_efforts : Option Efforts → List Scope → List Row → List Row
rows_of_efforts None scopes rows = rows
rows_of_efforts (Some efforts) scopes rows = filter (is_of_row efforts scopes) rows

-- the same of stamps
abbrev pub stamps_of_efforts : Option Efforts → List Scope → List HeadingStamp → List HeadingStamp
stamps_of_efforts None scopes stamps = stamps
stamps_of_efforts (Some efforts) scopes stamps = filter (is_of_stamp efforts scopes) stamps
