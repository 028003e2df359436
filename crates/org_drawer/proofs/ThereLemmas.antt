-- The stamps of a planning line stand where they are said to.
use Rattle.std.proofs.Common.{◌≡◌, ℕ, Bool, true, false, if◌then◌else◌, List, [], ◌∷◌, take, drop, subst}
use Rattle.std.specs.Prelude.{Option, Some, None}
use Rattle.std.specs.List.{AllByRecursion}
use Rattle.std.specs.Option.{option_or}
use Rattle.org_base.specs.declared.span.Span.{Span}
use Rattle.org_cal.proofs.TextLemmas.{chosen}
use Rattle.org_stamp.specs.declared.pair.Pair.{Pair}
use Rattle.org_stamp.specs.declared.pair.PlanningKeyword.{PlanningKeyword}
use Rattle.org_stamp.specs.declared.pair.PlanningKeyword.TheVariants.{Scheduled, Deadline, Closed}
use Rattle.org_stamp.specs.declared.stamp.Stamp.{Stamp}
use Rattle.org_stamp.specs.Pair.{is_planning, pairs}
use Rattle.org_stamp.specs.Stamp.{IsSingle}
use Rattle.org_stamp.proofs.PairedLemmas.{spans_are_stamps}
use Rattle.org_drawer.specs.declared.planning.Planning.{Planning}
use Rattle.org_drawer.specs.Laws.{IsThere, PlanningIsThere}
use Rattle.org_drawer.specs.Planning.{is_same, last_of, planned, stamp_if}

either_there : (line : List ℕ) (a b : Option (Stamp × Span)) → IsThere line a → IsThere line b → IsThere line (option_or a b)
either_there line None b first second = second
either_there line (Some x) b first second = first

one_there : (line : List ℕ) (word : PlanningKeyword) (p : Pair) → IsSingle (take p.len (drop p.at line)) p.stamp → IsThere line (stamp_if word p)
one_there line word p is = by (is_same word p.word)
  where
    by : (t : Bool) → IsThere line (if t then Some (p.stamp, record { at = p.at; len = p.len }) else None)
    by true = is
    by false = tt

last_there : (line : List ℕ) (word : PlanningKeyword) (ps : List Pair) → AllByRecursion (λ (p : Pair). IsSingle (take p.len (drop p.at line)) p.stamp) ps → IsThere line (last_of word ps)
last_there line word [] all = tt
last_there line word (p ∷ ps) all = either_there line (last_of word ps) (stamp_if word p) (last_there line word ps all.1) (one_there line word p all.0)

pub planning_is_there : PlanningIsThere
planning_is_there line planning e =
    chosen (is_planning line) _ _ _ e
    (λ planned_line found.
    let same : planned (pairs line) ≡ planning = cc in
    let all = spans_are_stamps line in
    subst (λ (k : Planning). IsThere line k.scheduled × IsThere line k.deadline × IsThere line k.closed) same
    (last_there line Scheduled (pairs line) all, last_there line Deadline (pairs line) all, last_there line Closed (pairs line) all))
    (λ none found. absurd (cc))
