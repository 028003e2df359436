-- Which bars the ranges of a week have: one for each range, from the first day of it that the week sees.
use Rattle.std.specs.Prelude.{◌≡◌, ℕ, ◌+◌, ◌-◌, ◌≤◌, ◌==◌, ◌&&◌, Bool, true, false, nat_lt, if◌then◌else◌, min, List, [], ◌∷◌, ◌++◌, Result, OnOk, Vec, map}
use Rattle.std.specs.List.{flat_map}
use Rattle.std.specs.String.{string_bytes}
use Rattle.org_look.specs.declared.day.GridDay.{GridDay}
use Rattle.org_look.specs.declared.entry.Entry.{Entry}
use Rattle.org_look.specs.declared.entry.Stand.TheVariants.{Own, Range, Late, Soon}
use Rattle.org_look.specs.declared.span.Bar.{Bar}

-- a bar by its first and its last day of a week, from 0 to 6, whether it comes from the week before, whether it goes on in the
-- next, and its label
pub record BarText : Type 0 where
  pub first : ℕ
  pub last : ℕ
  pub is_begun : Bool
  pub goes_on : Bool
  pub label : List ℕ

abbrev pub bar_of : Bar → BarText
bar_of bar = record { first = bar.span.first; last = bar.span.last; is_begun = bar.is_begun; goes_on = bar.goes_on; label = string_bytes bar.label }

-- the week sees a range before this day of it
abbrev pub is_seen : ℕ → ℕ → Bool
is_seen column day = nat_lt 0 column && nat_lt 1 day

-- the last day of the week that a range has which goes on for so many days
abbrev pub last_day : ℕ → ℕ → ℕ
last_day column ahead = min (column + ahead) 6

-- the bar of a range from a day of it on, of so many days
abbrev pub range_bar : ℕ → ℕ → ℕ → List ℕ → BarText
range_bar column day of label = record {
  first = column;
  last = last_day column (of - day);
  is_begun = nat_lt 1 day;
  goes_on = nat_lt 6 (column + (of - day));
  label = label;
}

-- the same, where the week hasn't seen the range and the bar takes so many days besides its first
abbrev pub bar_if : ℕ → ℕ → ℕ → ℕ → List ℕ → List BarText
bar_if column more day of label =
    if is_seen column day then [] else if (last_day column (of - day) - column) == more then range_bar column day of label ∷ [] else []

-- the bar of a row, if it is a day of a range
abbrev pub entry_bars : ℕ → ℕ → Entry → List BarText
entry_bars column more entry = elim entry.stand as (λ _. List BarText) [ Own ↦ [] | Range day of ↦ bar_if column more day of (string_bytes entry.label) | Late ↦ [] | Soon ↦ [] ]

-- those of a day that take so many days besides it
abbrev pub bars_for : ℕ → List Entry → ℕ → List BarText
bars_for column entries more = flat_map (λ entry. entry_bars column more entry) entries

-- the same of each of some numbers, in their order
abbrev pub bars_of_lengths : ℕ → List Entry → List ℕ → List BarText
bars_of_lengths column entries numbers = flat_map (bars_for column entries) numbers

-- the days that a bar may take besides its first, the longest first
abbrev pub lengths : List ℕ
lengths = 6 ∷ 5 ∷ 4 ∷ 3 ∷ 2 ∷ 1 ∷ 0 ∷ []

-- the bars that begin on a day of the week: longer ones first
abbrev pub day_bars : ℕ → List Entry → List BarText
day_bars column entries = bars_of_lengths column entries lengths

-- those of a week from a day on
abbrev pub bars_from : ℕ → List GridDay → List BarText
bars_from column [] = []
bars_from column (day ∷ days) = (if nat_lt column 7 then day_bars column day.entries.items else []) ++ bars_from (column + 1) days

-- these bars come after others, unless memory is refused
abbrev pub AddsBars : {T A E : Type 0} → Result T E → Vec Bar A → Vec Bar A → List BarText → Type 0
AddsBars result old new bars = OnOk result (map bar_of new.items ≡ map bar_of old.items ++ bars)

-- a range that the week hasn't seen before a day has one bar, which begins there and ends with the range or the week
abbrev pub RangesHaveOneBar : Type 0
RangesHaveOneBar = (column day of : ℕ) (label : List ℕ) → column ≤ 6 → is_seen column day ≡ false →
    flat_map (λ more. bar_if column more day of label) lengths ≡ range_bar column day of label ∷ []

-- and one that it has seen has none more
abbrev pub SeenHaveNoBar : Type 0
SeenHaveNoBar = (column more day of : ℕ) (label : List ℕ) → is_seen column day ≡ true → bar_if column more day of label ≡ []
