-- The minutes of lists of clock lines.
use Rattle.std.proofs.Common.{◌≡◌, ◌∙◌, ◌+◌, ◌≤◌, ℕ, zero, suc, Bool, true, false, cond, ◌&&◌, ◌||◌, is_some, List, [], ◌∷◌, ◌++◌, length, map, drop, ap, ap₂, arith, refl, sym}
use Rattle.std.specs.Prelude.{Some, nat_lt, replicate, slice_get}
use Rattle.std.specs.List.{sum_by}
use Rattle.std.proofs.lemmas.Bool.Decides.{nat_tests}
use Rattle.std.proofs.lemmas.List.Sums.{sum_by-append, sum_by-cons}
use Rattle.org_client.specs.ClockLaws.{ClocksMakeTheTotal}
use Rattle.org_client.specs.Clocks.{clock_row, entry_rows, file_rows, files_from, is_in_days, is_of_days, rows_from, rows_of}
use Rattle.org_client.specs.declared.clocks.ClockRow.{ClockRow}
use Rattle.org_clocktable.specs.Counted.{Counted, whole_of}
use Rattle.org_clocktable.specs.Laws.{counting, counting_in}
use Rattle.org_clocktable.specs.declared.row.Of.TheVariants.{All}
use Rattle.org_clocktable.proofs.TotalLemmas.{totals}
use Rattle.org_drawer.specs.Clock.{minutes_in}
use Rattle.org_drawer.specs.declared.clock.ClockLine.{ClockLine}
use Rattle.org_entry.specs.declared.entry.Entry.{Entry}
use Rattle.org_inherit.specs.Scope.{Scope}
use Rattle.org_outline.specs.Levels.{level_of}
use Rattle.org_sum.specs.Measures.{clock_minutes, effort_minutes, minutes_of}

-- what rows have
abbrev sum_of : List ClockRow → ℕ
sum_of rows = sum_by (λ (row : ClockRow). row.minutes) rows

joined : (xs ys : List ClockRow) → sum_of (xs ++ ys) ≡ sum_of xs + sum_of ys
joined xs ys = sum_by-append (λ (row : ClockRow). row.minutes) xs ys

-- a clock that isn't listed has no minutes
one : (days : ℕ × ℕ) (file heading number : ℕ) (clock : ClockLine) →
    sum_of (cond (is_of_days days clock) (clock_row days file heading number clock ∷ []) []) ≡ minutes_in clock days
one days file heading number clock = by (is_in_days days clock.from) (nat_lt 0 (minutes_in clock days)) refl
  where
    listed : sum_of (clock_row days file heading number clock ∷ []) ≡ minutes_in clock days
    listed = omega (arith, sum_by-cons (λ (row : ClockRow). row.minutes) (clock_row days file heading number clock) [])

    by : (begins some : Bool) → nat_lt 0 (minutes_in clock days) ≡ some →
        sum_of (cond (begins || some) (clock_row days file heading number clock ∷ []) []) ≡ minutes_in clock days
    by true some e = listed
    by false true e = listed
    by false false e = let none : minutes_in clock days ≤ 0 = grind (arith, nat_tests, e) in omega (arith, none)

of_clocks : (days : ℕ × ℕ) (file heading number : ℕ) (clocks : List ClockLine) → sum_of (rows_of days file heading number clocks) ≡ minutes_of days clocks
of_clocks days file heading number [] = refl
of_clocks days file heading number (clock ∷ clocks) =
    joined (cond (is_of_days days clock) (clock_row days file heading number clock ∷ []) []) (rows_of days file heading (number + 1) clocks)
    ∙ ap₂ (λ (a b : ℕ). a + b) (one days file heading number clock) (of_clocks days file heading (number + 1) clocks)
    ∙ sym (sum_by-cons (λ (c : ClockLine). minutes_in c days) clock clocks)

of_entry : (days : ℕ × ℕ) (file heading : ℕ) (e : Entry) → sum_of (entry_rows days file heading e) ≡ cond (is_some (level_of e)) (clock_minutes days e) 0
unfolding clock_minutes
of_entry days file heading e = by (is_some (level_of e))
  where
    by : (t : Bool) → sum_of (cond t (rows_of days file heading 0 e.details.clocks) []) ≡ cond t (minutes_of days e.details.clocks) 0
    by true = of_clocks days file heading 0 e.details.clocks
    by false = refl

and_true : (t : Bool) (x : ℕ) → cond (t && true) x 0 ≡ cond t x 0
and_true true x = refl
and_true false x = refl

counts_all : (f : Entry → ℕ) (e : Entry) (es : List Entry) →
    counting f (e ∷ es) (replicate (length (e ∷ es)) true) ≡ cond (is_some (level_of e)) (f e) 0 + counting f es (replicate (length es) true)
counts_all f e es = ap (λ (n : ℕ). n + counting f es (replicate (length es) true)) (and_true (is_some (level_of e)) (f e))

of_entries : (days : ℕ × ℕ) (file heading : ℕ) (es : List Entry) →
    sum_of (rows_from days file heading es) ≡ counting (clock_minutes days) es (replicate (length es) true)
of_entries days file heading [] = refl
of_entries days file heading (e ∷ es) =
    joined (entry_rows days file heading e) (rows_from days file (heading + 1) es)
    ∙ ap₂ (λ (a b : ℕ). a + b) (of_entry days file heading e) (of_entries days file (heading + 1) es)
    ∙ sym (counts_all (clock_minutes days) e es)

of_files : (days : ℕ × ℕ) (file : ℕ) (scopes : List Scope) → sum_of (files_from days file scopes) ≡ counting_in (clock_minutes days) (map whole_of scopes)
of_files days file [] = refl
of_files days file (scope ∷ scopes) =
    joined (file_rows days file scope.entries) (files_from days (file + 1) scopes)
    ∙ ap₂ (λ (a b : ℕ). a + b) (of_entries days file 0 scope.entries) (of_files days (file + 1) scopes)
    ∙ sym (sum_by-cons (λ (file : Counted). counting (clock_minutes days) file.entries file.counted) (whole_of scope) (map whole_of scopes))

pub clocks_make_the_total : ClocksMakeTheTotal
clocks_make_the_total days most scopes =
    totals days most (map whole_of scopes)
    ∙ ap (λ (clock : ℕ). Some (record { of = All; clock = clock; effort = counting_in effort_minutes (map whole_of scopes) })) (sym (of_files days 0 scopes))

-- what is left at a place
drop_there : {X : Type 0} (xs : List X) (i : ℕ) (x : X) → slice_get xs i ≡ Some x → drop i xs ≡ x ∷ drop (i + 1) xs
drop_there [] i x at = absurd cc
drop_there (y ∷ ys) zero x at = let same : y ≡ x = cc in ap (λ z. z ∷ ys) same
drop_there (y ∷ ys) (suc i) x at = let next : suc i + 1 ≡ suc (i + 1) = omega arith in rw next (drop_there ys i x at)

pub files_more : (days : ℕ × ℕ) (scopes : List Scope) (i : ℕ) (scope : Scope) → slice_get scopes i ≡ Some scope →
    files_from days i (drop i scopes) ≡ file_rows days i scope.entries ++ files_from days (i + 1) (drop (i + 1) scopes)
files_more days scopes i scope at = ap (files_from days i) (drop_there scopes i scope at)
