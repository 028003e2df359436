-- Planning of pairs that are read one by one.
use Rattle.std.proofs.Common.{◌≡◌, ℕ, ◌+◌, ◌≤◌, Bool, true, false, cond, List, ◌∷◌, length, Some, None, Option, refl}
use Rattle.std.specs.Option.{option_or}
use Rattle.org_base.specs.declared.span.Span.{Span}
use Rattle.org_stamp.specs.declared.pair.Pair.{Pair}
use Rattle.org_stamp.specs.declared.pair.PlanningKeyword.{PlanningKeyword}
use Rattle.org_stamp.specs.declared.pair.PlanningKeyword.TheVariants.{Scheduled, Deadline, Closed}
use Rattle.org_stamp.specs.declared.stamp.Stamp.{Stamp}
use Rattle.org_drawer.specs.declared.planning.Planning.{Planning}
use Rattle.org_drawer.specs.Planning.{is_same, stamp_if, last_of, planned, with_pair, IsInside, AreInside}

-- planning so far, with the pairs that are left
abbrev pub with_left : Planning → List Pair → Planning
with_left planning ps = record {
  scheduled = option_or (last_of Scheduled ps) planning.scheduled;
  deadline = option_or (last_of Deadline ps) planning.deadline;
  closed = option_or (last_of Closed ps) planning.closed;
}

or_or : {X : Type 0} (a b c : Option X) → option_or a (option_or b c) ≡ option_or (option_or a b) c
or_or None b c = refl
or_or (Some x) b c = refl

or_none : {X : Type 0} (a : Option X) → option_or a None ≡ a
or_none None = refl
or_none (Some x) = refl

-- one pair more
pub one_more : (planning : Planning) (p : Pair) (ps : List Pair) → with_left (with_pair planning p) ps ≡ with_left planning (p ∷ ps)
one_more planning p ps =
    rw (
      or_or (last_of Scheduled ps) (stamp_if Scheduled p) planning.scheduled,
      or_or (last_of Deadline ps) (stamp_if Deadline p) planning.deadline,
      or_or (last_of Closed ps) (stamp_if Closed p) planning.closed,
    ) refl

-- before the first pair
pub none_yet : (ps : List Pair) → with_left (record { scheduled = None; deadline = None; closed = None }) ps ≡ planned ps
none_yet ps = rw (or_none (last_of Scheduled ps), or_none (last_of Deadline ps), or_none (last_of Closed ps)) refl

-- a stamp that one more pair has put, or the one before
inside_if : (line : List ℕ) (same : Bool) (s : Stamp × Span) (o : Option (Stamp × Span)) → s.1.at + s.1.len ≤ length line → IsInside line o →
    IsInside line (option_or (cond same (Some s) None) o)
inside_if line true s o e h = e
inside_if line false s o e h = h

inside : (line : List ℕ) (word : PlanningKeyword) (p : Pair) (o : Option (Stamp × Span)) → p.at + p.len ≤ length line → IsInside line o → IsInside line (option_or (stamp_if word p) o)
inside line word p o e h = inside_if line (is_same word p.word) (p.stamp, record { at = p.at; len = p.len }) o e h

-- the stamps of planning with one more pair lie within the line
pub inside_more : (line : List ℕ) (planning : Planning) (p : Pair) → p.at + p.len ≤ length line → AreInside line planning → AreInside line (with_pair planning p)
inside_more line planning p e h = record {
  scheduled = inside line Scheduled p planning.scheduled e h.scheduled;
  deadline = inside line Deadline p planning.deadline e h.deadline;
  closed = inside line Closed p planning.closed e h.closed;
}
