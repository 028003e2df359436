-- What planning and adding make of a text, step by step.
use Rattle.std.proofs.Common.{◌≡◌, ◌≢◌, ◌∙◌, ℕ, ◌+◌, List, ◌++◌, length, drop, sym, ap, subst}
use Rattle.std.specs.Prelude.{Option, Some, None, Result, Ok, Err}
use Rattle.org_act.specs.Adding.{added_at, added_in, added_text, added_whole, at_level, break_of, spot_of, with_entry}
use Rattle.org_act.specs.Changes.{Makes, no_memory}
use Rattle.org_act.specs.Completing.{no_heading}
use Rattle.org_act.specs.Lines.{first_line, heading_at}
use Rattle.org_act.specs.Planning.{Put, act_put, planned_at, planned_if, planned_text, with_put}
use Rattle.org_act.specs.declared.act.Refusal.{Refusal}
use Rattle.org_act.specs.declared.act.Refusal.TheVariants as refusal
use Rattle.org_act.specs.declared.addition.Addition.{Addition}
use Rattle.org_act.specs.declared.addition.Spot.{Spot}
use Rattle.org_store.specs.declared.change.OwnedChange.{OwnedChange}
use Rattle.org_act.specs.declared.planning.Planning.{Planning}
use Rattle.org_amend.specs.Entries.{entry_text}
use Rattle.org_amend.specs.declared.head.Unreadable.{Unreadable}
use Rattle.org_base.specs.Codes.{memory_fault}
use Rattle.org_base.specs.declared.fault.Fault.{Fault}
use Rattle.org_complete.specs.Completion.{sized}
use Rattle.org_store.specs.Outline.{file_settings}

pub planned_there : (p : Planning) (text : List ℕ) (found : Option ℕ) → heading_at text p.line ≡ found → planned_text p text ≡ planned_if p text found
unfolding planned_text
planned_there p text found e = ap (planned_if p text) e

pub planned_by : (p : Planning) (text : List ℕ) (at below : ℕ) (h line next : List ℕ) (put : Option Put) → h ≡ first_line (drop at text) → below ≡ at + length h → line ≡ first_line (drop below text) →
    next ≡ first_line (drop (below + length line) text) → put ≡ act_put p h line next → with_put text below put ≡ planned_at p text at
unfolding planned_at
planned_by p text at below h line next put h_is below_is line_is next_is put_is =
    ap (with_put text below) put_is
    ∙ (ap (λ (n : List ℕ). with_put text below (act_put p h line n)) next_is
    ∙ (ap (λ (l : List ℕ). with_put text below (act_put p h l (first_line (drop (below + length l) text)))) line_is
    ∙ (ap (λ (b : ℕ). with_put text b (act_put p h (first_line (drop b text)) (first_line (drop (b + length (first_line (drop b text))) text)))) below_is
    ∙ ap (λ (g : List ℕ). with_put text (at + length g) (act_put p g (first_line (drop (at + length g) text)) (first_line (drop (at + length g + length (first_line (drop (at + length g) text))) text)))) h_is)))

pub makes_same : (r : Result OwnedChange Refusal) (text : List ℕ) (wanted all : Result (List ℕ) Refusal) → wanted ≡ all → Makes r text wanted → Makes r text all
makes_same r text wanted all e h = subst (λ (w : Result (List ℕ) Refusal). Makes r text w) e h

pub added_made : (a : Addition) (text whole : List ℕ) (r : Result OwnedChange Refusal) → sized (text ++ a.behind.now) ≡ Ok whole → Makes r text (added_whole a text whole) → Makes r text (added_text a text)
unfolding added_text
added_made a text whole r e h = subst (λ (s : Result (List ℕ) Fault). Makes r text (added_in a text s)) (sym e) h

pub added_refused : (a : Addition) (text : List ℕ) (fault : Fault) → (fault ≢ memory_fault → sized (text ++ a.behind.now) ≡ Err fault) → refusal.Fault fault ≢ no_memory → added_text a text ≡ Err (refusal.Fault fault)
unfolding added_text
added_refused a text fault h not_memory = ap (added_in a text) (h (λ e. not_memory (ap refusal.Fault e)))

pub no_spot : (a : Addition) (text whole : List ℕ) → spot_of text a.under ≡ None → added_whole a text whole ≡ Err no_heading
no_spot a text whole e = ap (added_at a text (file_settings whole)) e

pub by_spot : (a : Addition) (text whole : List ℕ) (spot : Spot) (lines : Result (List ℕ) Unreadable) → spot_of text a.under ≡ Some spot →
    entry_text (file_settings whole) (at_level a.entry spot.level) (break_of text) ≡ lines → added_whole a text whole ≡ with_entry text spot.at lines
by_spot a text whole spot lines e lines_are = ap (added_at a text (file_settings whole)) e ∙ ap (with_entry text spot.at) lines_are
