-- What the members of a row say of its heading (names of members: profile).
use Rattle.std.specs.Prelude.{ℕ, List, [], ◌∷◌, ◌++◌, Option, None, Some, codes, reverse, slice_get}
use Rattle.std.specs.Option.{option_and_then, option_map}
use Rattle.org_base.specs.Properties.{value_in}
use Rattle.org_base.specs.Spans.{bytes_in}
use Rattle.org_client.specs.Fields.{between}
use Rattle.org_client.specs.Members.{flag_member_of, number_member_of, text_member_of, texts_member_of}
use Rattle.org_client.specs.TitleWords.{title_words}
use Rattle.org_drawer.specs.Effort.{effort_of}
use Rattle.org_entry.specs.Keyword.{is_finished, keyword_in}
use Rattle.org_entry.specs.Planning.{entry_planning}
use Rattle.org_entry.specs.declared.entry.Entry.{Entry}
use Rattle.org_head.specs.declared.head.Head.{Head}
use Rattle.org_inherit.specs.Category.{category}
use Rattle.org_inherit.specs.Priorities.{cookie_of}
use Rattle.org_inherit.specs.Scope.{Scope}
use Rattle.org_inherit.specs.Special.{stamp_span}
use Rattle.org_inherit.specs.Tags.{all_tags}
use Rattle.org_inherit.specs.declared.headings.Heading.{Heading as FoundHeading}
use Rattle.org_outline.specs.Levels.{levels}
use Rattle.org_outline.specs.Tree.{ancestors}
use Rattle.org_settings.specs.Settings.{FileSettings}
use Rattle.org_stamp.specs.declared.pair.PlanningKeyword.{PlanningKeyword}
use Rattle.org_stamp.specs.declared.pair.PlanningKeyword.TheVariants.{Scheduled, Deadline, Closed}

-- the keyword, and whether it is a done one
abbrev pub keyword_members : Option (List ℕ) → FileSettings → Option (List ℕ) → List ℕ
keyword_members only settings None = []
keyword_members only settings (Some word) =
    text_member_of only (codes "keyword") word ++ flag_member_of only (codes "done") (is_finished settings (Some word))

-- the X of a cookie `[#X]`
abbrev pub priority_member : Option (List ℕ) → Option (List ℕ) → List ℕ
priority_member only None = []
priority_member only (Some text) = text_member_of only (codes "priority") text

-- a title, and its words
abbrev pub title_members : Option (List ℕ) → List ℕ → List ℕ
title_members only title = text_member_of only (codes "title") title ++ text_member_of only (codes "words") (title_words title)

-- priority, title and tags
abbrev pub head_members : Option (List ℕ) → Scope → ℕ → Entry → Head → List ℕ
head_members only scope i e head =
    priority_member only (cookie_of e.text head)
    ++ title_members only (bytes_in e.text head.title)
    ++ texts_member_of only (codes "tags") (all_tags scope i)

-- what a heading's line says
abbrev pub heading_members : Option (List ℕ) → Scope → ℕ → Entry → Head → List ℕ
heading_members only scope i e head =
    text_member_of only (codes "category") (category scope i)
    ++ number_member_of only (codes "level") head.level
    ++ keyword_members only scope.settings (keyword_in e.text head)
    ++ head_members only scope i e head

-- a stamp of the planning line, as it is written between its brackets; of a range the first one
abbrev pub written_member : Option (List ℕ) → List ℕ → Option (List ℕ) → List ℕ
written_member only name None = []
written_member only name (Some stamp) = text_member_of only name (between stamp)

abbrev pub stamp_member : Option (List ℕ) → List ℕ → PlanningKeyword → Entry → List ℕ
stamp_member only name word e = written_member only name (option_map (bytes_in e.text) (stamp_span word (entry_planning e)))

abbrev pub planning_members : Option (List ℕ) → Entry → List ℕ
planning_members only e =
    stamp_member only (codes "scheduled") Scheduled e
    ++ stamp_member only (codes "deadline") Deadline e
    ++ stamp_member only (codes "closed") Closed e

-- the effort in minutes; nothing where the property's value is none
abbrev pub minutes_member : Option (List ℕ) → Option ℕ → List ℕ
minutes_member only None = []
minutes_member only (Some minutes) = number_member_of only (codes "effort") minutes

abbrev pub effort_member : Option (List ℕ) → Entry → List ℕ
effort_member only e = minutes_member only (option_and_then effort_of (value_in e.details.drawer (codes "Effort")))

-- the title of an entry, if it is a heading
abbrev pub title_if : Entry → Option Head → List (List ℕ)
title_if e None = []
title_if e (Some head) = bytes_in e.text head.title ∷ []

abbrev pub title_of : Option Entry → List (List ℕ)
title_of None = []
title_of (Some e) = title_if e e.head

-- the titles of the headings at some places
abbrev pub titles_at : List Entry → List ℕ → List (List ℕ)
titles_at es [] = []
titles_at es (place ∷ places) = title_of (slice_get es place) ++ titles_at es places

-- those of the headings above one, the topmost first
abbrev pub titles_above : List Entry → ℕ → List (List ℕ)
titles_above es i = titles_at es (reverse (ancestors (levels es) i))

abbrev pub path_member : Option (List ℕ) → List (List ℕ) → List ℕ
path_member only [] = []
path_member only (title ∷ titles) = texts_member_of only (codes "path") (title ∷ titles)

-- what is said of a heading beside its line: its planning, its effort, the titles above it
abbrev pub details_members : Option (List ℕ) → Scope → ℕ → Entry → List ℕ
details_members only scope i e =
    planning_members only e ++ effort_member only e ++ path_member only (titles_above scope.entries i)

-- all that is said of a heading
abbrev pub whole_members : Option (List ℕ) → Scope → ℕ → Entry → Head → List ℕ
whole_members only scope i e head = heading_members only scope i e head ++ details_members only scope i e

-- the same of a heading that is found

abbrev pub title_members_of : Option (List ℕ) → FoundHeading → List ℕ
title_members_of only h = title_members only (bytes_in h.entry.now.text h.head.now.title)

abbrev pub head_members_of : Option (List ℕ) → FoundHeading → List ℕ
head_members_of only h = head_members only h.inherit.now h.place h.entry.now h.head.now

abbrev pub heading_members_of : Option (List ℕ) → FoundHeading → List ℕ
heading_members_of only h = heading_members only h.inherit.now h.place h.entry.now h.head.now

abbrev pub keyword_members_of : Option (List ℕ) → FoundHeading → List ℕ
keyword_members_of only h = keyword_members only h.inherit.now.settings (keyword_in h.entry.now.text h.head.now)

abbrev pub details_members_of : Option (List ℕ) → FoundHeading → List ℕ
details_members_of only h = details_members only h.inherit.now h.place h.entry.now

abbrev pub path_member_of : Option (List ℕ) → FoundHeading → List ℕ
path_member_of only h = path_member only (titles_above h.inherit.now.entries h.place)

abbrev pub whole_members_of : Option (List ℕ) → FoundHeading → List ℕ
whole_members_of only h = whole_members only h.inherit.now h.place h.entry.now h.head.now
