-- Files with the headings that count in a clock table (Org manual 9.6, "The clock table"; that clocks and efforts of
-- headings of which `match=` doesn't hold count 0, and that hidden headings count: profile).
use Rattle.std.specs.Option.{option_map_or}
use Rattle.std.specs.Prelude.{◌≡◌, ◌<◌, ◌^◌, ℕ, ◌+◌, Bool, true, ◌&&◌, if◌then◌else◌, is_some, List, [], ◌∷◌, ◌++◌, Option, length, map, option_copied, replicate}
use Rattle.std.specs.Borrow.{Bor}
use Rattle.std.specs.List.{range_with_len}
use Rattle.org_agenda.specs.Holding.{holds_of}
use Rattle.org_cal.specs.declared.moment.Moment.{Moment}
use Rattle.org_clocktable.specs.declared.running_sums.PlacedClock.{PlacedClock}
use Rattle.org_drawer.specs.declared.clock.ClockLine.{ClockLine}
use Rattle.org_entry.specs.declared.entry.Entry.{Entry}
use Rattle.org_expression.specs.Grammar.{Expr}
use Rattle.org_inherit.specs.Scope.{Scope}
use Rattle.org_outline.specs.Levels.{level_of, levels}
use Rattle.org_outline.specs.Tree.{all_ends}
use Rattle.org_sum.specs.Measures.{clock_minutes, effort_minutes}
use Rattle.org_sum.specs.Sums.{effort_sums, own_at, subtree_sum, sum_below, whole_sum}
use Rattle.org_sum.specs.Texts.{AreOfText}

-- a file's entries, and which of them count
pub record Counted : Type 0 where
  pub entries : List Entry
  pub counted : List Bool

-- an outline of one text, and a verdict for each of its entries
pub record IsCounted (entries : List Entry) (counted : List Bool) : Type 0 where
  pub count : length counted ≡ length entries
  pub text : AreOfText entries

-- clocks of the entry at a place
abbrev pub placed : ℕ → List ClockLine → List PlacedClock
placed i clocks = map (λ (clock : ClockLine). record { place = i; clock = clock }) clocks

-- those of the entry at a place, if it is a heading that counts
abbrev pub clocks_at : ℕ → Bool → Entry → List PlacedClock
clocks_at i counts e = if is_some (level_of e) && counts then placed i e.details.clocks else []

-- those of entries, the first of which stands at a place
abbrev pub clocks_from : ℕ → List Entry → List Bool → List PlacedClock
clocks_from i [] cs = []
clocks_from i (e ∷ es) [] = []
clocks_from i (e ∷ es) (c ∷ cs) = clocks_at i c e ++ clocks_from (i + 1) es cs

-- what is worked out of a file once for a table: subtree ends, the clocks of the headings that count, and the efforts
pub record IsPrepared (entries : List Entry) (counted : List Bool) (ends : List ℕ) (placed : List PlacedClock) (sums : List ℕ) (sum : ℕ) : Type 0 where
  pub is : IsCounted entries counted
  pub ends_are : ends ≡ all_ends (levels entries)
  pub clocks : placed ≡ clocks_from 0 entries counted
  pub efforts : sums ≡ effort_sums entries counted
  pub effort : sum ≡ whole_sum effort_minutes entries counted
  pub below : sum < 2 ^ 55

-- a file with all its headings
abbrev pub whole_of : Scope → Counted
whole_of scope = record { entries = scope.entries; counted = replicate (length scope.entries) true }

-- a file with the headings of which an expression holds
abbrev pub matching_of : Expr → Moment → Scope → Counted
matching_of expr moment scope = record { entries = scope.entries; counted = holds_of expr moment scope }

-- a file with the headings that count: without an expression all, else those of which it holds
abbrev pub counted_of : Option Expr → Moment → Scope → Counted
counted_of expression moment scope = record {
  entries = scope.entries;
  counted = option_map_or (λ expr. holds_of expr moment scope) expression (replicate (length scope.entries) true);
}

-- files with the headings that count
abbrev pub counted_files : Option (Bor Expr) → Moment → List Scope → List Counted
counted_files expression moment scopes = map (counted_of (option_copied expression) moment) scopes

-- what the headings of a file that count have of a measure, in sum
abbrev pub file_sum : (Entry → ℕ) → Counted → ℕ
file_sum f file = sum_below (own_at f file.entries file.counted) (length file.entries)

-- what a heading and all below it that count have of a measure, in sum
abbrev pub heading_sum : (Entry → ℕ) → Counted → ℕ → ℕ
heading_sum f file i = subtree_sum f file.entries file.counted i

-- that of each heading
abbrev pub heading_sums : (Entry → ℕ) → Counted → List ℕ
heading_sums f file = map (heading_sum f file) (range_with_len 0 (length file.entries))

-- what the clocks of headings before a place have in some days
abbrev pub clocks_before : ℕ × ℕ → Counted → ℕ → ℕ
clocks_before days file place = sum_below (own_at (clock_minutes days) file.entries file.counted) place

-- what all files have of a measure, in sum
abbrev pub total : (Entry → ℕ) → List Counted → ℕ
total f [] = 0
total f (c ∷ cs) = file_sum f c + total f cs
