-- Priority cookies (Org manual 9.6, "Priorities").
-- Characters by their codes: 35 #, 91 [, 93 ].
use Rattle.std.specs.Prelude.{ℕ, ◌-◌, Bool, ◌&&◌, ◌==◌, nat_lt, List, length, take, drop, slice_index}
use Rattle.org_settings.specs.Priority.{is_priority}

-- X of the cookie [#X]
abbrev pub cookie_value : List ℕ → List ℕ
cookie_value w = take (length w - 3) (drop 2 w)

-- `[#X]` with a priority for X
abbrev pub is_cookie : List ℕ → Bool
is_cookie w = nat_lt 3 (length w) && (slice_index w 0 == 91) && (slice_index w 1 == 35) && (slice_index w (length w - 1) == 93) && is_priority (cookie_value w)
