-- Special names (Org manual 9.6, "Special Properties"; which there are, and how their values are written: profile).
use Rattle.std.specs.Prelude.{ℕ, nat_lt, if◌then◌else◌, List, [], ◌∷◌, Option, None, Some, get_or, map, codes, decimal}
use Rattle.std.specs.Option.{option_map, option_and_then, option_map_or}
use Rattle.org_base.specs.Words.{same_word}
use Rattle.org_base.specs.declared.span.Span.{Span}
use Rattle.org_settings.specs.Settings.{FileSettings}
use Rattle.org_drawer.specs.Planning.{stamp_under}
use Rattle.org_drawer.specs.declared.planning.Planning.{Planning}
use Rattle.org_entry.specs.declared.entry.Entry.{Entry}
use Rattle.org_entry.specs.Planning.{entry_planning}
use Rattle.org_head.specs.Cookie.{cookie_value}
use Rattle.org_base.specs.Spans.{bytes_in}
use Rattle.org_head.specs.declared.head.Head.{Head}
use Rattle.org_inherit.specs.Category.{category}
use Rattle.org_inherit.specs.Scope.{Scope}
use Rattle.org_inherit.specs.Tags.{all_tags, tags_value}
use Rattle.org_inherit.specs.Values.{plain_value}
use Rattle.org_inherit.specs.declared.special.HeadingValue.{HeadingValue}
use Rattle.org_inherit.specs.declared.special.HeadingValue.TheVariants as heading
use Rattle.org_inherit.specs.declared.special.Special.{Special}
use Rattle.org_inherit.specs.declared.special.Special.TheVariants as special
use Rattle.org_stamp.specs.declared.pair.PlanningKeyword.{PlanningKeyword}
use Rattle.org_stamp.specs.declared.pair.PlanningKeyword.TheVariants.{Scheduled, Deadline, Closed}

-- what a name names of a heading's own lines
abbrev pub heading_value_named : List ℕ → Option HeadingValue
heading_value_named name =
    if same_word name (codes "TODO") then Some heading.Keyword
    else (if same_word name (codes "PRIORITY") then Some heading.Priority
    else (if same_word name (codes "LEVEL") then Some heading.Level
    else (if same_word name (codes "ITEM") then Some heading.Title
    else (if same_word name (codes "TAGS") then Some heading.Tags
    else (if same_word name (codes "SCHEDULED") then Some (heading.Stamp Scheduled)
    else (if same_word name (codes "DEADLINE") then Some (heading.Stamp Deadline)
    else (if same_word name (codes "CLOSED") then Some (heading.Stamp Closed)
    else None)))))))

-- what a name names, if it is a special one; letter case doesn't count
abbrev pub special_named : List ℕ → Option Special
special_named name =
    if same_word name (codes "CATEGORY") then Some special.Category
    else (if same_word name (codes "FILE") then Some special.File
    else (if same_word name (codes "ALLTAGS") then Some special.AllTags
    else option_map special.Own (heading_value_named name)))

-- a priority as it is written: a letter by its ASCII code, a number in decimal
abbrev pub priority_text : ℕ → List ℕ
priority_text n = if nat_lt 64 n then n ∷ [] else decimal n

-- X of the cookie [#X], else the file's default
abbrev pub priority_value : FileSettings → List ℕ → Option Span → List ℕ
priority_value settings text None = priority_text settings.default_priority
priority_value settings text (Some cookie) = cookie_value (bytes_in text cookie)

-- where the stamp that planning has under a keyword stands; of a range the first one
abbrev pub stamp_span : PlanningKeyword → Option Planning → Option Span
stamp_span word planning = option_map (λ s. s.1) (option_and_then (stamp_under word) planning)

-- what a heading's own lines say under a special name, of its entry and its head
abbrev pub heading_value : FileSettings → Entry → Head → HeadingValue → Option (List ℕ)
heading_value settings e head heading.Keyword = option_map (bytes_in e.text) head.keyword
heading_value settings e head heading.Priority = Some (priority_value settings e.text head.priority)
heading_value settings e head heading.Level = Some (decimal head.level)
heading_value settings e head heading.Title = Some (bytes_in e.text head.title)
heading_value settings e head heading.Tags = tags_value (map (bytes_in e.text) head.tags)
heading_value settings e head (heading.Stamp word) = option_map (bytes_in e.text) (stamp_span word (entry_planning e))

-- what the entry at a place has by its head; nothing where it has none
abbrev pub by_head : List Entry → ℕ → (Entry → Head → Option (List ℕ)) → Option (List ℕ)
by_head es i value = get_or (map (λ e. option_and_then (value e) e.head) es) i None

-- the value of a special name at a place
abbrev pub special_value : Scope → ℕ → Special → Option (List ℕ)
special_value scope i special.Category = Some (category scope i)
special_value scope i special.File = Some scope.file
special_value scope i special.AllTags = by_head scope.entries i (λ e head. tags_value (all_tags scope i))
special_value scope i (special.Own v) = by_head scope.entries i (λ e head. heading_value scope.settings e head v)

-- the value of a name at a place: a special name's by itself alone
abbrev pub value_of : Scope → ℕ → List ℕ → Option (List ℕ)
value_of scope i name = option_map_or (special_value scope i) (special_named name) (plain_value scope i name)
