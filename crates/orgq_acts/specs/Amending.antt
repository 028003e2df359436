-- Acts that are done to files (profile).
use Rattle.std.specs.Prelude.{◌≡◌, ℕ, List, Result, string_bytes}
use Rattle.org_act.specs.Amending.{IsAmended, StaysAmended}
use Rattle.org_act.specs.declared.act.Refusal.{Refusal}
use Rattle.org_act.specs.declared.amendment.Amended.{Amended}
use Rattle.org_save.specs.Events.{Event}
use Rattle.orgq_acts.specs.declared.amending.Ending.{Ending}
use Rattle.orgq_acts.specs.declared.heading.HeadingText.{HeadingText}

-- an act was done: the target had the text that was read, and was replaced by what the act makes of that
pub record IsCarriedOut (wanted : Result (List ℕ) Refusal) (old : List ℕ) (before after : List Event) : Type 0 where
  pub amended : Amended
  pub is : IsAmended wanted old before after amended

-- behind status 0 the act was done to the heading's file
abbrev pub Ends : Ending → (List ℕ → Result (List ℕ) Refusal) → HeadingText → List Event → List Event → Type 0
Ends ending amended heading before after =
    ending.status ≡ 0 → IsCarriedOut (amended (string_bytes heading.text)) (string_bytes heading.text) before after

-- after each thing that is done the heading's file has the text that it had, or the wanted one, whole
abbrev pub Stays : (List ℕ → Result (List ℕ) Refusal) → HeadingText → List Event → List Event → Type 0
Stays amended heading before after = StaysAmended (amended (string_bytes heading.text)) before after
