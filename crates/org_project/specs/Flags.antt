-- What entries of a file are (Org manual 9.6, "TODO Items"; "TODO dependencies"; that `NEXT` is what is next: profile).
use Rattle.std.specs.Prelude.{ℕ, ◌+◌, Bool, false, not, ◌&&◌, List, [], ◌∷◌, Option, None, Some, bytes_eq, codes, is_some, length, map}
use Rattle.std.specs.List.{range_with_len}
use Rattle.org_base.specs.Properties.{value_in}
use Rattle.org_drawer.specs.declared.planning.Planning.{Planning}
use Rattle.org_entry.specs.Keyword.{is_finished, keyword_in}
use Rattle.org_entry.specs.Planning.{entry_planning}
use Rattle.org_entry.specs.declared.entry.Entry.{Entry}
use Rattle.org_head.specs.declared.head.Head.{Head}
use Rattle.org_inherit.specs.Hidden.{is_hidden}
use Rattle.org_inherit.specs.Scope.{Scope}
use Rattle.org_settings.specs.Settings.{FileSettings}
use Rattle.org_project.specs.Topmost.{both_at, either_at}
use Rattle.org_project.specs.declared.entry_flags.Flag.{Flag}
use Rattle.org_project.specs.declared.entry_flags.Flag.TheVariants.{Shown, Undone, Unfinished, Open, Done, Next, Scheduled, Ordered, Unblocked}

-- the keyword of an entry, if it is a heading that has one
abbrev pub keyword_under : Entry → Option Head → Option (List ℕ)
keyword_under e None = None
keyword_under e (Some head) = keyword_in e.text head

abbrev pub keyword_at : Entry → Option (List ℕ)
keyword_at e = keyword_under e e.head

-- it has a done keyword; it has an open one, which is any other
abbrev pub is_done_task : FileSettings → Entry → Bool
is_done_task settings e = is_finished settings (keyword_at e)

abbrev pub is_open_task : FileSettings → Entry → Bool
is_open_task settings e = is_some (keyword_at e) && not (is_finished settings (keyword_at e))

-- its keyword is a word
abbrev pub is_word : Option (List ℕ) → List ℕ → Bool
is_word None word = false
is_word (Some keyword) word = bytes_eq keyword word

abbrev pub is_named : Entry → List ℕ → Bool
is_named e word = is_word (keyword_at e) word

-- a stamp stands under SCHEDULED
abbrev pub is_planned : Option Planning → Bool
is_planned None = false
is_planned (Some planning) = is_some planning.scheduled

abbrev pub is_scheduled : Entry → Bool
is_scheduled e = is_planned (entry_planning e)

-- a property is set: it has a value that isn't `nil`
abbrev pub is_value : Option (List ℕ) → Bool
is_value None = false
is_value (Some value) = not (bytes_eq value (codes "nil"))

abbrev pub is_set : Entry → List ℕ → Bool
is_set e name = is_value (value_in e.details.drawer name)

-- what an entry at a place may be
abbrev pub has_flag : Flag → Scope → ℕ → Entry → Bool
has_flag Shown scope i e = is_some e.head && not (is_hidden scope.entries i)
has_flag Undone scope i e = is_some e.head && not (is_done_task scope.settings e) && not (is_hidden scope.entries i)
has_flag Unfinished scope i e = is_open_task scope.settings e
has_flag Open scope i e = is_open_task scope.settings e && not (is_hidden scope.entries i)
has_flag Done scope i e = is_done_task scope.settings e && not (is_hidden scope.entries i)
has_flag Next scope i e = is_open_task scope.settings e && is_named e (codes "NEXT") && not (is_hidden scope.entries i)
has_flag Scheduled scope i e = is_open_task scope.settings e && is_scheduled e && not (is_hidden scope.entries i)
has_flag Ordered scope i e = is_set e (codes "ORDERED")
has_flag Unblocked scope i e = is_set e (codes "NOBLOCKING")

-- the same of entries, of which the first stands at a place
abbrev pub flags_from : Flag → Scope → ℕ → List Entry → List Bool
flags_from flag scope i [] = []
flags_from flag scope i (e ∷ es) = has_flag flag scope i e ∷ flags_from flag scope (i + 1) es

abbrev pub flags : Flag → Scope → List Bool
flags flag scope = flags_from flag scope 0 scope.entries

-- what two lists of flags both say, and what one of them says
abbrev pub both : List Bool → List Bool → List Bool
both one other = map (both_at one other) (range_with_len 0 (length one))

abbrev pub either : List Bool → List Bool → List Bool
either one other = map (either_at one other) (range_with_len 0 (length one))
