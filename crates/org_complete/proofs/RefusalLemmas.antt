-- In which order a completion is refused.
use Rattle.std.proofs.Common.{◌≡◌, ◌&&◌, ◌||◌, ℕ, Bool, true, false, cond, List, [], ◌∷◌, length, refl, inl, inr}
use Rattle.std.specs.Prelude.{◌↔◌, Option, None, Some, Result, Ok, Err, is_none, is_some, nat_lt, not, ok_or}
use Rattle.std.proofs.lemmas.Bool.{cases_Bool}
use Rattle.org_base.specs.Reasons.{Reason, first_of}
use Rattle.org_base.specs.declared.code.Code.TheVariants as code
use Rattle.org_base.specs.declared.fault.Fault.{Fault}
use Rattle.org_base.specs.declared.fault.Fault.TheVariants.{Plain}
use Rattle.org_base.specs.declared.span.Span.{Span}
use Rattle.org_cal.specs.Faults.{date_fault}
use Rattle.org_cal.specs.declared.moment.Moment.{Moment}
use Rattle.org_drawer.specs.declared.planning.Planning.{Planning}
use Rattle.org_entry.specs.Entry.{heading_line}
use Rattle.org_entry.specs.Planning.{entry_planning}
use Rattle.org_complete.specs.Completion.{by_place, completed, keyword_plan, lacks, line_start, plan_parts, repeat_plan, shift_at, shifts}
use Rattle.org_complete.proofs.CompletionWords.{completed_by, entry_parts, plan_of, planned_parts, put_at, shift_plan}
use Rattle.org_complete.specs.Parts.{Part, with_parts}
use Rattle.org_complete.specs.Reasons.{RefusalsComeInOrder, entry_on, is_too_long, lacks_hours, leaves, leaves_years, repeats}
use Rattle.org_complete.specs.declared.plan.Plan.{Plan}
use Rattle.org_complete.specs.declared.plan.Shift.{Shift}
use Rattle.org_head.specs.declared.head.Head.{Head}
use Rattle.org_repeat.specs.Shift.{shift_answer, shift_of}
use Rattle.org_repeat.specs.Shifted.{lacks_time}
use Rattle.org_settings.specs.Keywords.{keyword_first, keyword_place}
use Rattle.org_settings.specs.Settings.{FileSettings}
use Rattle.org_stamp.specs.declared.stamp.Stamp.{Stamp}
use Rattle.org_store.specs.Begun.{has_heading}
use Rattle.org_store.specs.Outline.{file_settings}

-- a result is a refusal exactly where there is a fault, and with that fault
abbrev Says : Result (List ℕ) Fault → Option Fault → Type 0
Says result found = (f : Fault) → (result ≡ Err f) ↔ (found ≡ Some f)

says : (g : Fault) → Says (Err g) (Some g)
says g f = (λ h. cc, λ h. cc)

silent : (text : List ℕ) → Says (Ok text) None
silent text f = (λ h. absurd cc, λ h. absurd cc)

-- a stamp that lacks no time shifts, or stays, or its shift leaves the years
data Shifting (now : Moment) (o : Option (Stamp × Span)) : Type 0 where
  Leaves : leaves now o ≡ true → shift_at now o ≡ Err date_fault → Shifting now o
  Stays : (shift : Option Shift) → leaves now o ≡ false → shift_at now o ≡ Ok shift → Shifting now o

shifted : (now : Moment) (s : Stamp × Span) (found : Option Stamp) → shift_of s.0 now ≡ found → shifts (Some s) ≡ true → shift_at now (Some s) ≡ put_at s.1 (ok_or found date_fault) → Shifting now (Some s)
shifted now s None is shifting at = Leaves (rw (shifting, is) refl) at
shifted now s (Some t) is shifting at = Stays (Some (record { span = s.1; stamp = t })) (rw (shifting, is) refl) at

shifting : (now : Moment) (o : Option (Stamp × Span)) → lacks o ≡ false → Shifting now o
unfolding shift_answer
shifting now None none = Stays None refl refl
shifting now (Some s) none = elim (cases_Bool (shifts (Some s))) [
  | inl e ↦
      let timed : lacks_time s.0 ≡ false = (rw e at none) in
      shifted now s (shift_of s.0 now) refl e (rw (e, timed) refl)
  | inr e ↦ Stays None (rw e refl) (rw e refl)
]

module _ (text : List ℕ) (at : ℕ) (line : List ℕ) (old : Option Span) (now : Moment) (settings : FileSettings) where
  abbrev parts_by : Result Plan Fault → Result (List Part) Fault
  parts_by r = planned_parts at line old settings r

  -- the last reason
  by_size : (t : List ℕ) (b : Bool) → Says (cond b (Err (Plain code.Size)) (Ok t)) (cond b (Some (Plain code.Size)) None)
  by_size t true = says (Plain code.Size)
  by_size t false = silent t

  made : (plan : Plan) → Says (completed_by text (parts_by (Ok plan))) (first_of ((is_too_long text (parts_by (Ok plan)), Plain code.Size) ∷ []))
  made plan = by_size (with_parts text (plan_parts at line old settings plan)) (nat_lt 67_108_864 (length (with_parts text (plan_parts at line old settings plan))))

  abbrev SaysPlan : Bool → Bool → Result Plan Fault → Type 0
  SaysPlan hours date r = Says (completed_by text (parts_by r)) (first_of ((hours, Plain code.Hours) ∷ (date, Plain code.Date) ∷ (is_too_long text (parts_by r), Plain code.Size) ∷ []))

  by_shifts : (place : ℕ) (a b : Option (Stamp × Span)) → Shifting now a → Shifting now b → SaysPlan false (leaves now a || leaves now b) (shift_plan place (shift_at now a) (shift_at now b))
  by_shifts place a b (Leaves l is) second = rw (l, is) (says date_fault)
  by_shifts place a b (Stays x l is) (Leaves m at) = rw (l, is, m, at) (says date_fault)
  by_shifts place a b (Stays x l is) (Stays y m at) = rw (l, is, m, at) (made (record { keyword = place; shifts = by_place x y }))

  by_hours : (place : ℕ) (p : Planning) (scheduled deadline : Bool) → lacks p.scheduled ≡ scheduled → lacks p.deadline ≡ deadline →
      SaysPlan (scheduled || deadline) (leaves now p.scheduled || leaves now p.deadline) (cond (scheduled || deadline) (Err (Plain code.Hours)) (shift_plan place (shift_at now p.scheduled) (shift_at now p.deadline)))
  by_hours place p true deadline one two = says (Plain code.Hours)
  by_hours place p false true one two = says (Plain code.Hours)
  by_hours place p false false one two = by_shifts place p.scheduled p.deadline (shifting now p.scheduled one) (shifting now p.deadline two)

  by_repeats : (place : ℕ) (p : Planning) (again : Bool) →
      SaysPlan (again && (lacks p.scheduled || lacks p.deadline)) (again && (leaves now p.scheduled || leaves now p.deadline)) (cond again (repeat_plan now (keyword_first settings.keywords place) p) (Ok (record { keyword = place; shifts = (None, None) })))
  by_repeats place p true = by_hours (keyword_first settings.keywords place) p (lacks p.scheduled) (lacks p.deadline) refl refl
  by_repeats place p false = made (record { keyword = place; shifts = (None, None) })

  by_planning : (place : ℕ) (planning : Option Planning) → SaysPlan (lacks_hours settings (Some place) planning) (leaves_years now settings (Some place) planning) (keyword_plan now settings place planning)
  by_planning place None = made (record { keyword = place; shifts = (None, None) })
  by_planning place (Some p) = by_repeats place p (repeats settings place p)

  by_keyword : (planning : Option Planning) (word : Option ℕ) →
      Says (completed_by text (parts_by (plan_of now settings planning word)))
      (first_of ((is_none word, Plain code.Keyword) ∷ (lacks_hours settings word planning, Plain code.Hours) ∷ (leaves_years now settings word planning, Plain code.Date) ∷ (is_too_long text (parts_by (plan_of now settings planning word)), Plain code.Size) ∷ []))
  by_keyword planning None = says (Plain code.Keyword)
  by_keyword planning (Some place) = by_planning place planning

module _ (text : List ℕ) (line : ℕ) (keyword : List ℕ) (now : Moment) where
  abbrev found : Bool → Option Head → Result (List Part) Fault
  found there head = cond (not there) (Err (Plain code.Heading)) (entry_parts (line_start text line) now (file_settings text) keyword (entry_on text line) head)

  abbrev reasons : Bool → Option Head → List Reason
  reasons there head =
      (not (is_some (cond there head None)), Plain code.Heading)
      ∷ (is_none (keyword_place (file_settings text).keywords keyword), Plain code.Keyword)
      ∷ (lacks_hours (file_settings text) (keyword_place (file_settings text).keywords keyword) (entry_planning (entry_on text line)), Plain code.Hours)
      ∷ (leaves_years now (file_settings text) (keyword_place (file_settings text).keywords keyword) (entry_planning (entry_on text line)), Plain code.Date)
      ∷ (is_too_long text (found there head), Plain code.Size) ∷ []

  by_heading : (there : Bool) (head : Option Head) → Says (completed_by text (found there head)) (first_of (reasons there head))
  by_heading false head = says (Plain code.Heading)
  by_heading true None = says (Plain code.Heading)
  by_heading true (Some head) =
      by_keyword text (line_start text line) (heading_line (entry_on text line)) head.keyword now (file_settings text) (entry_planning (entry_on text line)) (keyword_place (file_settings text).keywords keyword)

pub in_order : RefusalsComeInOrder
unfolding completed
in_order text line keyword now = by_heading text line keyword now (has_heading text line) (entry_on text line).head
