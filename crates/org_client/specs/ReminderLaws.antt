-- Laws of rows that begin between two moments.
use Rattle.std.specs.Prelude.{◌≡◌, ℕ, ◌<◌, ◌≤◌, ◌⊎◌, ◌++◌, List}
use Rattle.std.specs.List.{All}
use Rattle.org_agenda.specs.Kept.{IsReal}
use Rattle.org_agenda.specs.declared.source.HeadingStamp.{HeadingStamp}
use Rattle.org_base.specs.declared.profile.Profile.{Profile}
use Rattle.org_cal.specs.declared.moment.Moment.{Moment}
use Rattle.org_client.specs.Reminders.{reminders}

-- one moment isn't after another
abbrev pub IsNoLater : Moment → Moment → Type 0
IsNoLater a b = (a.day < b.day) ⊎ ((a.day ≡ b.day) × (a.minute ≤ b.minute))

-- what is told from one moment to a third is what is told from it to a second, and then what is told from there on, whichever
-- days are today: so over moments that follow one another each row is told once
abbrev pub RemindersJoin : Type 0
RemindersJoin = (p : Profile) (stamps : List HeadingStamp) (one two both : ℕ) (a b c : Moment) →
    All IsReal stamps → IsNoLater a b → IsNoLater b c →
    reminders p stamps both a c ≡ reminders p stamps one a b ++ reminders p stamps two b c
