-- What items count, and what they add up to.
use Rattle.std.specs.Prelude.{◌≡◌, ℕ, Bool, ◌+◌, ◌^◌, ◌<◌, ◌≤◌, List, length}
use Rattle.std.specs.List.{sum_by, count_by}
use Rattle.org_sequence.specs.declared.measured.Measure.{Measure}
use Rattle.org_sequence.specs.declared.measured.Measure.TheVariants.{Size, Lines}
use Rattle.org_sequence.specs.declared.measured.Sign.{Sign}
use Rattle.org_sequence.specs.declared.measured.Sign.TheVariants.{Pending, Flag}
use Rattle.org_sequence.specs.declared.sums.Sums.{Sums}

-- the size fits, neither lines nor items are more than it, and no more items bear a sign than there are
pub record AreCovered (s : Sums) : Type 0 where
  pub fits : s.size < 2 ^ 32
  pub count : s.count ≤ s.size
  pub lines : s.lines ≤ s.size
  pub pending : s.pending ≤ s.count
  pub flags : s.flags ≤ s.count

-- what two parts add up to
abbrev pub sums_together : Sums → Sums → Sums
sums_together a b = record {
  count = a.count + b.count;
  size = a.size + b.size;
  lines = a.lines + b.lines;
  pending = a.pending + b.pending;
  flags = a.flags + b.flags;
}

module _ {T : Type 0} where
  -- how much an item counts in a measure
  abbrev pub amount_in : (T → ℕ) → (T → ℕ) → Measure → T → ℕ
  amount_in size lines Size = size
  amount_in size lines Lines = lines

  -- whether an item bears a sign
  abbrev pub bears : (T → Bool) → (T → Bool) → Sign → T → Bool
  bears pending flagged Pending = pending
  bears pending flagged Flag = flagged

  -- what the items of a list add up to
  pub record AreSums (size lines : T → ℕ) (pending flagged : T → Bool) (items : List T) (s : Sums) : Type 0 where
    pub count_is : s.count ≡ length items
    pub size_is : s.size ≡ sum_by size items
    pub lines_is : s.lines ≡ sum_by lines items
    pub pending_is : s.pending ≡ count_by pending items
    pub flags_is : s.flags ≡ count_by flagged items
    pub covered : AreCovered s
