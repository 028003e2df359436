-- Dates as people type them, with a time of day (Org manual 9.6, "The date/time prompt"; how a span is typed: profile).
-- Characters by their codes: 32 space, 45 -.
use Rattle.std.specs.Prelude.{ℕ, Bool, not, nat_lt, ◌+◌, ◌-◌, ◌==◌, if◌then◌else◌, List, length, take, drop, position, Option, Some, None}
use Rattle.std.specs.List.{suffix_len}
use Rattle.std.specs.Option.{option_map, option_or}
use Rattle.org_cal.specs.Texts.{time_of}
use Rattle.org_cal.specs.Typed.{typed_day}
use Rattle.org_amend.specs.declared.typed.TypedDate.{TypedDate}

-- a time without an end, if there is one
abbrev pub time_alone : Option ℕ → Option (ℕ × Option ℕ)
time_alone time = option_map (λ start. (start, None)) time

-- a time with an end, if both are there
abbrev pub span : Option ℕ → Option ℕ → Option (ℕ × Option ℕ)
span None last = None
span (Some start) last = option_map (λ end. (start, Some end)) last

-- a time alone, or two around a dash
abbrev pub times_around : List ℕ → Option ℕ → Option (ℕ × Option ℕ)
times_around text None = time_alone (time_of text)
times_around text (Some dash) = span (time_of (take dash text)) (time_of (drop (dash + 1) text))

-- a time, or two with a dash between them
unfoldable pub times_of : List ℕ → Option (ℕ × Option ℕ)
times_of text = times_around text (position (λ b. b == 45) text)

-- a day without a time, if there is one
abbrev pub day_alone : Option ℕ → Option TypedDate
day_alone day = option_map (λ d. record { day = d; time = None; end_time = None; repeater = None; delay = None }) day

-- a day with times, if both are there
abbrev pub day_with : Option ℕ → Option (ℕ × Option ℕ) → Option TypedDate
day_with None times = None
day_with (Some day) times = option_map (λ t. record { day = day; time = Some t.0; end_time = t.1; repeater = None; delay = None }) times

-- no space
abbrev pub is_of_word : ℕ → Bool
is_of_word b = not (b == 32)

-- where a space stands before so many last bytes
abbrev pub gap_before : List ℕ → ℕ → Option ℕ
gap_before text len = if nat_lt len (length text) then Some (length text - len - 1) else None

-- a day before a space and times behind it
abbrev pub date_around : List ℕ → ℕ → Option ℕ → Option TypedDate
date_around text today None = None
date_around text today (Some gap) = day_with (typed_day (take gap text) today) (times_of (drop (gap + 1) text))

-- the date that a text says on a day, if it says one: a day alone, or a day, and behind its last space times
unfoldable pub typed_date : List ℕ → ℕ → Option TypedDate
typed_date text today =
    option_or (day_alone (typed_day text today))
    (date_around text today (gap_before text (suffix_len is_of_word text)))
