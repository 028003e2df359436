-- What rows have for the keys by which they are put in order (profile).
use Rattle.std.specs.Prelude.{ℕ, ◌+◌, ◌-◌, ◌*◌, Bool, true, false, List, Option, None, Some, codes, unwrap_or}
use Rattle.std.specs.Option.{option_and_then, option_map}
use Rattle.org_base.specs.Properties.{value_in}
use Rattle.org_base.specs.declared.span.Span.{Span}
use Rattle.org_cal.specs.declared.time_of_day.TheConstants.{MINUTES_PER_DAY}
use Rattle.org_client.specs.Urgency.{urgency_of}
use Rattle.org_client.specs.declared.row_order.SortKey.{SortKey}
use Rattle.org_client.specs.declared.row_order.SortKey.TheVariants as key
use Rattle.org_client.specs.declared.urgency.TheConstants.{MOST_URGENT}
use Rattle.org_drawer.specs.Effort.{effort_of}
use Rattle.org_drawer.specs.declared.planning.Planning.{Planning}
use Rattle.org_entry.specs.Keyword.{is_finished, keyword_in}
use Rattle.org_entry.specs.Planning.{entry_planning}
use Rattle.org_entry.specs.declared.entry.Entry.{Entry}
use Rattle.org_inherit.specs.Priorities.{cookie_of, priority_by}
use Rattle.org_inherit.specs.declared.headings.Heading.{Heading as FoundHeading}
use Rattle.org_settings.specs.Keywords.{keyword_place}
use Rattle.org_settings.specs.Settings.{FileSettings}
use Rattle.org_stamp.specs.declared.stamp.Stamp.{Stamp}

-- the minute of a stamp; one without a time is the first of its day
abbrev pub minute_of : Stamp → ℕ
minute_of stamp = stamp.day * MINUTES_PER_DAY + unwrap_or stamp.time 0

-- the stamp under the planning keyword of a key, with its part of the text
abbrev pub found_under : SortKey → Planning → Option (Stamp × Span)
found_under key.Deadline planning = planning.deadline
found_under key.Scheduled planning = planning.scheduled
found_under key.Closed planning = planning.closed
found_under _ planning = None

abbrev pub stamp_under : SortKey → Option Planning → Option Stamp
stamp_under word None = None
stamp_under word (Some planning) = option_map (λ (found : Stamp × Span). found.0) (found_under word planning)

abbrev pub day_under : SortKey → Option Planning → Option ℕ
day_under word planning = option_map (λ (stamp : Stamp). stamp.day) (stamp_under word planning)

abbrev pub minute_under : SortKey → Option Planning → Option ℕ
minute_under word planning = option_map minute_of (stamp_under word planning)

-- the number of a cookie's priority: smaller ones are more urgent
abbrev pub cookie_number : FileSettings → Option (List ℕ) → Option ℕ
cookie_number settings None = None
cookie_number settings (Some text) = Some (priority_by settings (Some text))

-- the minutes of an effort
abbrev pub effort_in : Entry → Option ℕ
effort_in e = option_and_then effort_of (value_in e.details.drawer (codes "Effort"))

-- the place of a keyword among those of its file
abbrev pub place_among : FileSettings → Option (List ℕ) → Option ℕ
place_among settings None = None
place_among settings (Some word) = keyword_place settings.keywords word

-- how much less urgent a heading is than one could be; nothing where it is done
abbrev pub urgency_unless : Bool → ℕ → Option Planning → ℕ → Option ℕ
urgency_unless true today planning priority = None
urgency_unless false today planning priority =
    Some (MOST_URGENT - urgency_of today (day_under key.Deadline planning) (day_under key.Scheduled planning) priority)

-- the X of a heading's cookie, its keyword, and its priority
abbrev pub found_cookie : FoundHeading → Option (List ℕ)
found_cookie h = cookie_of h.entry.now.text h.head.now

abbrev pub found_keyword : FoundHeading → Option (List ℕ)
found_keyword h = keyword_in h.entry.now.text h.head.now

abbrev pub found_priority : FoundHeading → ℕ
found_priority h = priority_by h.inherit.now.settings (found_cookie h)

-- the number of the cookie, the place of the keyword, the urgency
abbrev pub priority_in : FoundHeading → Option ℕ
priority_in h = cookie_number h.inherit.now.settings (found_cookie h)

abbrev pub keyword_place_in : FoundHeading → Option ℕ
keyword_place_in h = place_among h.inherit.now.settings (found_keyword h)

abbrev pub urgency_in : ℕ → FoundHeading → Option ℕ
urgency_in today h =
    urgency_unless (is_finished h.inherit.now.settings (found_keyword h)) today (entry_planning h.entry.now) (found_priority h)

-- what a heading has for a key that is a number
abbrev pub number_in : ℕ → SortKey → FoundHeading → Option ℕ
number_in today key.Priority h = priority_in h
number_in today key.Effort h = effort_in h.entry.now
number_in today key.Keyword h = keyword_place_in h
number_in today key.Urgency h = urgency_in today h
number_in today word h = minute_under word (entry_planning h.entry.now)
