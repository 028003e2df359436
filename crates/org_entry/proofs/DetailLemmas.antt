-- Details without parts.
use Rattle.std.proofs.Common.{◌≡◌, List, [], ◌∷◌, length, refl, arith}
use Rattle.org_base.specs.Properties.{Property}
use Rattle.org_drawer.specs.declared.clock.ClockLine.{ClockLine}
use Rattle.org_entry.specs.Details.{nothing}
use Rattle.org_stamp.specs.declared.stamp.Found.{Found}

-- three parts that are none are nothing
pub nothing_there : (drawer : List Property) (stamps : List Found) (clocks : List ClockLine) → drawer ≡ [] → stamps ≡ [] → clocks ≡ [] →
    record { drawer = drawer; stamps = stamps; clocks = clocks } ≡ nothing
nothing_there drawer stamps clocks d s c = rw (d, s, c) refl

-- none where none are counted
pub none_counted : {A : Type 0} (items : List A) → length items ≡ 0 → items ≡ []
none_counted [] h = refl
none_counted (x ∷ xs) h = absurd (omega (arith, h))
