-- What being near means, in the rule's words (profile).
use Rattle.std.specs.Prelude.{◌≡◌, ◌≢◌, ◌↔◌, ◌⊎◌, ℕ, ◌+◌, ◌≤◌, Option, Some, None, IsTrue}
use Rattle.org_base.specs.declared.profile.Profile.{Profile}
use Rattle.org_base.specs.declared.profile.Profile.TheVariants.{One, Two}
use Rattle.org_stamp.specs.declared.stamp.Stamp.{Stamp}
use Rattle.org_index.specs.Delays.{delay_or}
use Rattle.org_index.specs.Near.{is_near}

-- a day of the written range lies in the days
abbrev pub RangeMeets : ℕ → Option (ℕ × Option ℕ) → ℕ → ℕ → Type 0
RangeMeets day None from to = ⊥
RangeMeets day (Some last) from to = (d : ℕ) × (day ≤ d) × (d ≤ last.0) × (from ≤ d) × (d ≤ to)

-- it has a repeater that counts: in the first profile that of a range doesn't
abbrev pub Repeats : Profile → Stamp → Type 0
Repeats One s = (s.repeater ≢ None) × (s.last ≡ None)
Repeats Two s = s.repeater ≢ None

-- the stamp repeats, and its day is no later than the last of the days. Or a day of its written range lies in them, or
-- its day does, or its day plus its delay. Or today does, and its day less its warning time is no later than today
abbrev pub IsNear : Profile → ℕ → ℕ → ℕ → Stamp → Type 0
IsNear p from to today s =
    (Repeats p s × (s.day ≤ to))
    ⊎ (RangeMeets s.day s.last from to
    ⊎ (((from ≤ s.day) × (s.day ≤ to))
    ⊎ (((from ≤ s.day + delay_or 0 s.delay) × (s.day + delay_or 0 s.delay ≤ to))
    ⊎ ((from ≤ today) × (today ≤ to) × (s.day ≤ today + delay_or 14 s.delay)))))

-- the test says so
abbrev pub NearIsMeant : Type 0
NearIsMeant = (p : Profile) (from to today : ℕ) (s : Stamp) → from ≤ to → IsTrue (is_near p from to today s) ↔ IsNear p from to today s
