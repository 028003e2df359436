-- The text completed is that of the section that begins with the line.
use Rattle.std.proofs.Common.{◌≡◌, ◌∙◌, ◌+◌, ◌-◌, ◌++◌, ℕ, Bool, true, false, cond, inl, inr, List, length, refl, sym, subst, ap, Some, None, Option}
use Rattle.std.specs.Prelude.{IfOk, Result, Err, Ok, nat_lt, string_bytes}
use Rattle.std.proofs.lemmas.Bool.{cases_Bool}
use Rattle.org_base.specs.declared.code.Code.TheVariants as code
use Rattle.org_base.specs.declared.fault.Fault.{Fault}
use Rattle.org_base.specs.declared.fault.Fault.TheVariants.{Plain}
use Rattle.org_cal.specs.declared.moment.Moment.{Moment}
use Rattle.org_entry.specs.Entry.{entry_of, heading_line}
use Rattle.org_base.specs.declared.span.Span.{Span}
use Rattle.org_entry.specs.declared.entry.Entry.{Entry}
use Rattle.org_entry.specs.Planning.{entry_planning}
use Rattle.org_settings.specs.Keywords.{keyword_word}
use Rattle.org_complete.specs.Completion.{completed, completed_at, completion_part, gap_behind, keyword_span, part_at, plan_for, plan_part, plan_parts, plan_written, replaced, section_at, section_parts, sized}
use Rattle.org_complete.proofs.CompletionWords.{as_one, completed_by, entry_parts, planned_parts}
use Rattle.org_complete.specs.Parts.{Part}
use Rattle.org_complete.specs.Written.{IsPart, IsPlanWritten, plan_end, plan_text}
use Rattle.org_complete.specs.declared.plan.Plan.{Plan}
use Rattle.org_head.specs.declared.head.Head.{Head}
use Rattle.org_store.specs.Change.{replaced_text}
use Rattle.org_store.proofs.ChangeWords.{unless_refused}
use Rattle.org_text.specs.Replace.{max_bytes, replace}
use Rattle.org_utf8.proofs.Texts.{parts_can_be_replaced}
use Rattle.org_utf8.specs.Laws.{IsTextPart}
use Rattle.org_store.specs.declared.change.OwnedChange.{OwnedChange}
use Rattle.org_complete.proofs.ChangeLemmas.{ChangeIs}
use Rattle.org_complete.proofs.EntryLemmas.{no_head}
use Rattle.org_complete.proofs.StartLemmas.{heading_there, section_there, start_there}
use Rattle.org_store.specs.Begun.{IsBegunBy, entry_there, has_heading, section_of, section_start}
use Rattle.org_store.specs.Outline.{file_settings}

pub no_heading : (t : List ℕ) (line : ℕ) (keyword : List ℕ) (now : Moment) → has_heading t line ≡ false → completed t line keyword now ≡ Err (Plain code.Heading)
unfolding completed
no_heading t line keyword now h = rw h refl

pub completed_there : (t : List ℕ) (line place : ℕ) (keyword : List ℕ) (now : Moment) → IsBegunBy t line place → completed t line keyword now ≡ completed_at t place keyword now
unfolding completed
completed_there t line place keyword now b =
    let settings = file_settings t in
    elim (cases_Bool (has_heading t line)) [
      | inl h ↦ rw h (
          ap (λ at. completed_by t (section_parts at now settings keyword (entry_of settings (section_at t at)))) (start_there t line place b)
          ∙ ap (λ s. completed_by t (section_parts (section_start t place) now settings keyword (entry_of settings s))) (section_there t place))
      | inr h ↦
          let none = no_head settings (section_of t place) (sym (heading_there t line place b) ∙ h) in
          rw h (sym (ap (λ o. completed_by t (entry_parts (section_start t place) now settings keyword (entry_of settings (section_of t place)) o)) none))
    ]

pub part_there : (t : List ℕ) (line place : ℕ) (keyword : List ℕ) (now : Moment) → IsBegunBy t line place → completion_part t line keyword now ≡ part_at t place keyword now
unfolding completion_part
part_there t line place keyword now b =
    let settings = file_settings t in
    elim (cases_Bool (has_heading t line)) [
      | inl h ↦ rw h (
          ap (λ at. as_one t (section_parts at now settings keyword (entry_of settings (section_at t at)))) (start_there t line place b)
          ∙ ap (λ s. as_one t (section_parts (section_start t place) now settings keyword (entry_of settings s))) (section_there t place))
      | inr h ↦
          let none = no_head settings (section_of t place) (sym (heading_there t line place b) ∙ h) in
          rw h (sym (ap (λ o. as_one t (entry_parts (section_start t place) now settings keyword (entry_of settings (section_of t place)) o)) none))
    ]

-- a change that is one part is an equal one
pub same_part : (t : List ℕ) (r : Result OwnedChange Fault) (part same : Result Part Fault) (wanted all : Result (List ℕ) Fault) → same ≡ part → all ≡ wanted → IfOk r (IsPart t part wanted) → IfOk r (IsPart t same all)
same_part t r part same wanted all p w h = subst (λ (x : Result Part Fault). IfOk r (IsPart t x all)) (sym p) (subst (λ (x : Result (List ℕ) Fault). IfOk r (IsPart t part x)) (sym w) h)

-- a heading with a plan is completed by it
pub planned_there : (t : List ℕ) (place : ℕ) (keyword : List ℕ) (now : Moment) (head : Head) (plan : Plan) → (entry_there t place).head ≡ Some head → plan_for now (file_settings t) (entry_planning (entry_there t place)) keyword ≡ Ok plan →
    (part_at t place keyword now ≡ Ok (plan_part t place (entry_there t place) head.keyword plan)) × (completed_at t place keyword now ≡ plan_written t place (entry_there t place) head.keyword plan)
planned_there t place keyword now head plan h p =
    let settings = file_settings t in
    let entry = entry_there t place in
    let parts : section_parts (section_start t place) now settings keyword entry ≡ Ok (plan_parts (section_start t place) (heading_line entry) head.keyword settings plan) =
    ap (entry_parts (section_start t place) now settings keyword entry) h ∙ ap (planned_parts (section_start t place) (heading_line entry) head.keyword settings) p in
    (ap (as_one t) parts, ap (completed_by t) parts)

-- a part that cuts no character is replaced, unless the text gets too long
pub sized_is : (t ins : List ℕ) (at del : ℕ) → IsTextPart t (record { at = at; len = del }) → replaced t at del ins ≡ replaced_text t at del ins
sized_is t ins at del h = rw (parts_can_be_replaced t (record { at = at; len = del }) ins h) (by (nat_lt max_bytes (length (replace t at del ins))))
  where
    by : (b : Bool) → cond b (Err (Plain code.Size)) (Ok (replace t at del ins)) ≡ unless_refused (cond b (Some code.Size) None) (replace t at del ins)
    by true = refl
    by false = refl

-- a change that a plan writes
pub plan_written_by : (t : List ℕ) (place : ℕ) (entry : Entry) (old : Option Span) (plan : Plan) (change : OwnedChange) → ChangeIs t place (file_settings t) entry old plan →
    change.at ≡ section_start t place + (keyword_span (heading_line entry) old).at →
    change.del ≡ plan_end (keyword_span (heading_line entry) old) plan - (keyword_span (heading_line entry) old).at →
    string_bytes change.ins ≡ (keyword_word (file_settings t).keywords plan.keyword ++ gap_behind old) ++ plan_text entry.text (keyword_span (heading_line entry) old) plan →
    IsPlanWritten t place entry old plan change
plan_written_by t place entry old plan change is at del ins = record {
  within = subst (λ (s : Span). IsTextPart t s) (λ i. record { at = sym at i; len = sym del i }) is.part;
  is = ap Ok (is.one ∙ (λ i. record { at = sym at i; del = sym del i; ins = sym ins i }));
  makes = ap sized is.is ∙ sized_is t _ _ _ is.part ∙ (λ i. replaced_text t (sym at i) (sym del i) (sym ins i));
}
