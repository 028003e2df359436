-- An act on a heading's file.
use Rattle.std.proofs.Common.{List, ℕ, refl, []}
use Rattle.std.specs.Prelude.{Result, Ok, Err}
use Rattle.org_act.specs.Amending.{StaysAmended}
use Rattle.org_act.specs.declared.act.Refusal.{Refusal}
use Rattle.org_save.specs.Events.{Event}

-- where nothing is done all stays
pub nothing_done : (wanted : Result (List ℕ) Refusal) (events : List Event) → StaysAmended wanted events events
nothing_done (Ok new) events = record { done = []; did = record { all = refl }; whole = λ _. tt }
nothing_done (Err why) events = refl
