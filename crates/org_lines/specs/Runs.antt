-- What a text lends of the lines that are still to come.
use Rattle.std.specs.Cow.{cow_slice_items, IsBorrowedSlice}
use Rattle.std.specs.declared.borrow.CowSlice.{CowSlice}
use Rattle.std.specs.Global.{Global}
use Rattle.std.specs.Prelude.{◌≡◌, ◌≢◌, ℕ, ◌+◌, ◌-◌, ◌<◌, ◌≤◌, List, length, take, drop, min, slice_index, ◌↔◌}
use Rattle.std.specs.List.{slice_range}
use Rattle.org_base.specs.declared.span.Span.{Span}

-- these are the bytes that a text lends of a span from its first on; a run goes on to its end from each place of the span inside it
pub record IsRun (run_len : ℕ → ℕ) (content : List ℕ) (span : Span) (run : List ℕ) : Type 0 where
  pub len : length run ≡ min (run_len span.at) span.len
  pub bytes : run ≡ take (length run) (drop span.at content)
  pub goes_on : (k : ℕ) → k < span.len → k < run_len span.at → run_len (span.at + k) ≡ run_len span.at - k

-- what is left of a span after its first bytes
abbrev pub behind : Span → ℕ → Span
behind span len = record { at = span.at + len; len = span.len - len }

-- the first line of a span has so many bytes: no line feed stands before its last, which is one unless the span ends there
pub record EndsLine (content : List ℕ) (span : Span) (len : ℕ) : Type 0 where
  pub some : 0 < len
  pub within : len ≤ span.len
  pub one : (k : ℕ) → span.at ≤ k → k + 1 < span.at + len → slice_index content k ≢ 10
  pub ends : span.at + len < span.at + span.len → slice_index content (span.at + len - 1) ≡ 10

-- the first line of a span
pub record IsFirstLine (content : List ℕ) (span : Span) (line : List ℕ) : Type 0 where
  pub bytes : line ≡ slice_range content span.at (span.at + length line)
  pub ends : EndsLine content span (length line)

-- the first line of a span doesn't lie in one run
pub record HasLongLine (run_len : ℕ → ℕ) (content : List ℕ) (span : Span) : Type 0 where
  pub len : ℕ
  pub ends : EndsLine content span len
  pub longer : run_len span.at < len

-- the first line ends in a run, or where nothing is left
pub record EndsIn (run : List ℕ) (left len : ℕ) : Type 0 where
  pub some : 0 < len
  pub within : len ≤ length run
  pub one : (k : ℕ) → k + 1 < len → slice_index run k ≢ 10
  pub ends : len < left → slice_index run (len - 1) ≡ 10

-- bytes are lent if and only if they are no more than a run
abbrev pub IsLentWithin : ℕ → CowSlice ℕ Global → Type 0
IsLentWithin run bytes = IsBorrowedSlice bytes ↔ (length (cow_slice_items bytes) ≤ run)
