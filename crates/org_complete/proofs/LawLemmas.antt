-- Which keyword and which stamps a completion writes, and that its parts stand apart.
use Rattle.std.proofs.Common.{◌≡◌, ◌≤◌, ◌<◌, ◌&&◌, ◌||◌, ℕ, Bool, true, false, inl, inr, Some, None, Option, List, length, refl, sym, subst, arith}
use Rattle.std.specs.Prelude.{◌⊎◌, Result, Ok, Err, IsSome, is_some, nat_lt}
use Rattle.std.specs.Str.{IsUtf8}
use Rattle.std.proofs.lemmas.Bool.{cases_Bool}
use Rattle.org_base.specs.declared.fault.Fault.{Fault}
use Rattle.org_base.specs.declared.span.Span.{Span}
use Rattle.org_cal.specs.declared.moment.Moment.{Moment}
use Rattle.org_class.specs.Sections.{sections}
use Rattle.org_drawer.specs.declared.planning.Planning.{Planning}
use Rattle.org_entry.specs.Entry.{heading_line}
use Rattle.org_entry.specs.Planning.{entry_planning}
use Rattle.org_complete.specs.Completion.{by_place, lacks, plain_plan, plan_for, plan_parts, repeat_plan, shift_at, shifts}
use Rattle.org_complete.proofs.CompletionWords.{entry_parts, planned_parts, put_at, shift_plan}
use Rattle.org_complete.specs.Laws.{AreShifts, CompletionsAreApart, IsRepeated, IsShiftOf, KeywordsAreWritten}
use Rattle.org_complete.specs.Parts.{AreApart, Part}
use Rattle.org_complete.specs.declared.plan.Plan.{Plan}
use Rattle.org_complete.specs.declared.plan.Shift.{Shift}
use Rattle.org_complete.proofs.ChangeLemmas.{IsEntryOf, can_write, change_is}
use Rattle.org_head.specs.declared.head.Head.{Head}
use Rattle.org_store.specs.Begun.{entry_there, section_start}
use Rattle.org_store.specs.Outline.{file_settings}
use Rattle.org_repeat.specs.Shift.{shift_answer}
use Rattle.org_settings.specs.Keywords.{keyword_done, keyword_first, keyword_place}
use Rattle.org_stamp.specs.declared.stamp.Stamp.{Stamp}
use Rattle.org_text.specs.Replace.{max_bytes}

-- parts of a plan

module _ (t : List ℕ) (place : ℕ) (keyword : List ℕ) (now : Moment) (parts : List Part) (utf8 : IsUtf8 t) (small : length t ≤ max_bytes) (within : place < length (sections t)) where
  by_plan : (head : Head) (r : Result Plan Fault) → (entry_there t place).head ≡ Some head → plan_for now (file_settings t) (entry_planning (entry_there t place)) keyword ≡ r →
      planned_parts (section_start t place) (heading_line (entry_there t place)) head.keyword (file_settings t) r ≡ Ok parts → AreApart 0 (length t) parts
  by_plan head (Err f) headed is e = absurd cc
  by_plan head (Ok plan) headed is e =
      let settings = file_settings t in
      let entry = entry_there t place in
      let own : IsEntryOf t place settings entry = record { utf8 = utf8; small = small; within = within; is = refl; headed = subst IsSome (sym headed) refl } in
      let write = can_write t place settings entry head now (keyword_place settings.keywords keyword) plan own headed (sym is) in
      let change = change_is t place settings entry head.keyword plan own write in
      let same : plan_parts (section_start t place) (heading_line entry) head.keyword settings plan ≡ parts = cc in
      subst (AreApart 0 (length t)) same (omega arith, change.apart.1)

  by_head : (o : Option Head) → (entry_there t place).head ≡ o → entry_parts (section_start t place) now (file_settings t) keyword (entry_there t place) o ≡ Ok parts → AreApart 0 (length t) parts
  by_head None is e = absurd cc
  by_head (Some head) is e = by_plan head (plan_for now (file_settings t) (entry_planning (entry_there t place)) keyword) is refl e

pub completions_apart : CompletionsAreApart
completions_apart t place keyword now parts utf8 small within e = by_head t place keyword now parts utf8 small within (entry_there t place).head refl e

-- which stamps repeat

both_true : (a b : Bool) → (a && b) ≡ true → (a ≡ true) × (b ≡ true)
both_true true true e = (refl, refl)
both_true true false e = absurd cc
both_true false b e = absurd cc

is_repeated : (o : Option (Stamp × Span)) → shifts o ≡ true → IsRepeated o
is_repeated None e = absurd cc
is_repeated (Some s) e = both_true s.0.active (is_some s.0.repeater) e

repeated_shifts : (o : Option (Stamp × Span)) → IsRepeated o → shifts o ≡ true
repeated_shifts None h = absurd h
repeated_shifts (Some s) h = rw h.0 h.1

-- and what is put in their places

put_is : (now : Moment) (s : Stamp × Span) (r : Result Stamp Fault) (a : Option Shift) → shift_answer s.0 now ≡ r → put_at s.1 r ≡ Ok a →
    (new : Stamp) × (shift_answer s.0 now ≡ Ok new) × (a ≡ Some (record { span = s.1; stamp = new }))
put_is now s (Err f) a is e = absurd cc
put_is now s (Ok new) a is e = (new, is, cc)

shift_is : (now : Moment) (o : Option (Stamp × Span)) (a : Option Shift) → shift_at now o ≡ Ok a → IsShiftOf now o a
shift_is now None a e = cc
shift_is now (Some s) a e = elim (cases_Bool (shifts (Some s))) [
  | inl h ↦
      let put : put_at s.1 (shift_answer s.0 now) ≡ Ok a = rw h at e in
      record { repeated = λ _. put_is now s (shift_answer s.0 now) a refl put; single = λ no. absurd (no (is_repeated (Some s) h)) }
  | inr h ↦
      let none : ◌≡◌ {A = Result (Option Shift) Fault} (Ok None) (Ok a) = rw h at e in
      record { repeated = λ r. (let yes = repeated_shifts (Some s) r in absurd cc); single = λ _. cc }
]

by_place_is : (a b : Option Shift) → (by_place a b ≡ (a, b)) ⊎ (by_place a b ≡ (b, a))
by_place_is None b = inl refl
by_place_is (Some a) None = inl refl
by_place_is (Some a) (Some b) = elim (cases_Bool (nat_lt a.span.at b.span.at)) [
  | inl h ↦ inl (rw h refl)
  | inr h ↦ inr (rw h refl)
]

-- a plan with shifts
abbrev IsPlan : Moment → ℕ → Planning → Plan → Type 0
IsPlan now keyword p plan = (plan.keyword ≡ keyword) × AreShifts now p plan.shifts

shifted_plan : (now : Moment) (keyword : ℕ) (p : Planning) (ra rb : Result (Option Shift) Fault) (plan : Plan) → shift_at now p.scheduled ≡ ra → shift_at now p.deadline ≡ rb →
    shift_plan keyword ra rb ≡ Ok plan → IsPlan now keyword p plan
shifted_plan now keyword p (Err f) rb plan a b e = absurd cc
shifted_plan now keyword p (Ok x) (Err f) plan a b e = absurd cc
shifted_plan now keyword p (Ok x) (Ok y) plan a b e =
    let same : record { keyword = keyword; shifts = by_place x y } ≡ plan = cc in
    subst (IsPlan now keyword p) same (
      refl,
      record {
        scheduled = x;
        deadline = y;
        of_scheduled = shift_is now p.scheduled x a;
        of_deadline = shift_is now p.deadline y b;
        are = by_place_is x y;
      },
    )

repeated_plan : (now : Moment) (keyword : ℕ) (p : Planning) (plan : Plan) → repeat_plan now keyword p ≡ Ok plan → IsPlan now keyword p plan
repeated_plan now keyword p plan e = elim (cases_Bool (lacks p.scheduled || lacks p.deadline)) [
  | inl h ↦ (let refused = rw h at e in absurd cc)
  | inr h ↦ shifted_plan now keyword p (shift_at now p.scheduled) (shift_at now p.deadline) plan refl refl (rw h at e)
]

-- whether a task repeats

split : (b x y : Bool) → (b && (x || y)) ≡ true → (b ≡ true) × ((x ≡ true) ⊎ (y ≡ true))
split true true y e = (refl, inl refl)
split true false true e = (refl, inr refl)
split true false false e = absurd cc
split false x y e = absurd cc

joined : (b x y : Bool) → (b ≡ true) × ((x ≡ true) ⊎ (y ≡ true)) → (b && (x || y)) ≡ true
joined true true y h = refl
joined true false true h = refl
joined true false false (b, inl x) = absurd cc
joined true false false (b, inr y) = absurd cc
joined false x y h = let no = h.0 in absurd cc

of_either : (a b : Option (Stamp × Span)) → (shifts a ≡ true) ⊎ (shifts b ≡ true) → IsRepeated a ⊎ IsRepeated b
of_either a b (inl x) = inl (is_repeated a x)
of_either a b (inr y) = inr (is_repeated b y)

to_either : (a b : Option (Stamp × Span)) → IsRepeated a ⊎ IsRepeated b → (shifts a ≡ true) ⊎ (shifts b ≡ true)
to_either a b (inl x) = inl (repeated_shifts a x)
to_either a b (inr y) = inr (repeated_shifts b y)

pub keywords_written : KeywordsAreWritten
keywords_written now settings place p plan e =
    let done = keyword_done settings.keywords place in
    elim (cases_Bool (done && (shifts p.scheduled || shifts p.deadline))) [
      | inl h ↦
          let repeats = split done (shifts p.scheduled) (shifts p.deadline) h in
          record {
            repeated = λ _. repeated_plan now (keyword_first settings.keywords place) p plan (rw h at e);
            single = λ no. absurd (no (repeats.0, of_either p.scheduled p.deadline repeats.1));
          }
      | inr h ↦
          let plain : ◌≡◌ {A = Result Plan Fault} (Ok (plain_plan place)) (Ok plan) = rw h at e in
          record {
            repeated = λ r. (let yes = joined done (shifts p.scheduled) (shifts p.deadline) (r.0, to_either p.scheduled p.deadline r.1) in absurd cc);
            single = λ _. cc;
          }
    ]
