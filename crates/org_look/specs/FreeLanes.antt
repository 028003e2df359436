-- Which lane a bar takes: the first one that is free on its days.
use Rattle.std.specs.Prelude.{ℕ, ◌+◌, if◌then◌else◌, nat_le, nat_lt, List, [], ◌∷◌, ◌++◌, length, slice_set}
use Rattle.org_look.specs.declared.span.Span.{Span}

-- lanes are told by their first free days; the place of the first one that is free from a day on, their number where none is
abbrev pub free_lane : List ℕ → ℕ → ℕ
free_lane [] day = 0
free_lane (first ∷ free) day = if nat_le first day then 0 else free_lane free day + 1

-- the lane of a bar: one of those that are in use, a new one, or the number of lanes where there are as many as there may be
abbrev pub lane_of : ℕ → List ℕ → Span → ℕ
lane_of most free span =
    if nat_lt (free_lane free span.first) (length free) then free_lane free span.first
    else if nat_le most (free_lane free span.first) then most
    else free_lane free span.first

-- the first free days once the bar has its lane
abbrev pub free_after : ℕ → List ℕ → Span → List ℕ
free_after most free span =
    if nat_lt (free_lane free span.first) (length free) then slice_set free (free_lane free span.first) (span.last + 1)
    else if nat_le most (free_lane free span.first) then free
    else free ++ (span.last + 1) ∷ []

-- the lanes of bars, one after the other, where at first none is in use
abbrev pub lanes_from : ℕ → List ℕ → List Span → List ℕ
lanes_from most free [] = []
lanes_from most free (span ∷ spans) = lane_of most free span ∷ lanes_from most (free_after most free span) spans

abbrev pub lanes_of : ℕ → List Span → List ℕ
lanes_of most spans = lanes_from most [] spans
