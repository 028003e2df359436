-- Priorities (Org manual 9.6, "Priorities"; which there are: profile).
-- Characters by their codes: 48 0, 90 Z.
use Rattle.std.specs.Prelude.{ℕ, ◌+◌, ◌-◌, ◌*◌, Bool, ◌||◌, ◌&&◌, not, ◌==◌, nat_le, if◌then◌else◌, List, length, slice_index}
use Rattle.std.specs.Char.{is_ascii_uppercase, is_ascii_digit}

-- A to Z, or 0 to 64 without a leading zero
abbrev pub is_priority : List ℕ → Bool
is_priority w =
    if length w == 1 then is_ascii_uppercase (slice_index w 0) || is_ascii_digit (slice_index w 0)
    else (length w == 2) && is_ascii_digit (slice_index w 0) && is_ascii_digit (slice_index w 1) && not (slice_index w 0 == 48) && nat_le (10 * (slice_index w 0 - 48) + (slice_index w 1 - 48)) 64

-- the number, or the letter's ASCII code
abbrev pub priority_number : List ℕ → ℕ
priority_number w =
    if length w == 1 then (if is_ascii_digit (slice_index w 0) then slice_index w 0 - 48 else slice_index w 0)
    else 10 * (slice_index w 0 - 48) + (slice_index w 1 - 48)

-- the greatest priority number: that of the letter Z
abbrev pub greatest_priority : ℕ
greatest_priority = 90
