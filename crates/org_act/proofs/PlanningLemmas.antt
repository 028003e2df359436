-- A heading that is planned, in its text.
use Rattle.std.proofs.Common.{◌≡◌, ◌⊎◌, ◌∙◌, ℕ, zero, suc, ◌+◌, ◌-◌, ◌<◌, ◌≤◌, true, false, ◌==◌, inl, inr, List, [], ◌∷◌, ◌++◌, length, take, drop, get_or, refl, sym, ap, subst, arith, length-drop, length-take, append_assoc, length-append}
use Rattle.std.specs.Prelude.{Option, Some, None, Result, Ok, Err, if◌then◌else◌, nat_lt, codes}
use Rattle.std.specs.Option.{option_map}
use Rattle.std.specs.List.{concat}
use Rattle.std.proofs.lemmas.Bool.{cases_Bool}
use Rattle.std.proofs.lemmas.List.{drop-drop, take-append-drop}
use Rattle.org_act.specs.Lines.{first_line, has_feed, heading_at, heading_from, if_heading, line_end}
use Rattle.org_act.specs.Planning.{Put, heading_line, if_sized, line_below, next_line, planned_at, planned_if, planned_text, planning_put, put_at, put_left, put_line, put_nothing, under_heading, with_put}
use Rattle.org_act.specs.PlanningLaws.{HeadingsArePlanned, IsDateIfAny, IsGap, IsOldLine, IsPlanned, SaysDate}
use Rattle.org_act.specs.declared.act.Refusal.{Refusal}
use Rattle.org_act.specs.declared.planning.Planning.{Planning}
use Rattle.org_act.proofs.LineLemmas.{parts}
use Rattle.org_amend.specs.Planning.{dated_line, undated_line}
use Rattle.org_amend.specs.PlanningLaws.{IsDate, IsStampOf, SaysElse, as_line, class_left, said}
use Rattle.org_amend.specs.declared.typed.TypedDate.{TypedDate}
use Rattle.org_amend.proofs.ClassLemmas.{dated_lines_are_planning, other_lines_stay, said_planning}
use Rattle.org_amend.proofs.SaidLemmas.{dates_are_said, lost_stamps_are_unsaid}
use Rattle.org_class.specs.Classes.{classes}
use Rattle.org_class.specs.Drawers.{classes_below}
use Rattle.org_class.specs.Heading.{begins_heading}
use Rattle.org_class.specs.declared.class.Class.TheVariants.{Heading}
use Rattle.org_lines.specs.Cuts.{lines}
use Rattle.org_lines.proofs.LineLemmas.{concat-lines}
use Rattle.org_stamp.specs.Pair.{is_planning, pairs_from}
use Rattle.org_stamp.specs.declared.pair.PlanningKeyword.{PlanningKeyword}
use Rattle.org_stamp.specs.declared.stamp.Stamp.{Stamp}
use Rattle.org_stamp.proofs.SpacedLemmas.{drop_front, take_front}
use Rattle.org_text.specs.Replace.{max_bytes, replace}

-- a text is its first line and what follows it

pub some_or_none : (text : List ℕ) → (text ≡ []) ⊎ (0 < length text)
some_or_none [] = inl refl
some_or_none (b ∷ bs) = inr (omega arith)

pub split : (text : List ℕ) → text ≡ first_line text ++ drop (length (first_line text)) text
split text = elim (some_or_none text) [
  | inl none ↦ subst (λ (t : List ℕ). t ≡ first_line t ++ drop (length (first_line t)) t) (sym none) refl
  | inr some ↦
      let p = parts text some in
      sym (concat-lines text) ∙ (ap concat p.lines_are ∙ ap (λ r. first_line text ++ r) (concat-lines (drop (length (first_line text)) text)))
]

-- where a heading is found one stands

pub record IsThere (at : ℕ) (text : List ℕ) (k : ℕ) : Type 0 where
  pub from : at ≤ k
  pub within : k - at ≤ length text
  pub begins : begins_heading (first_line (drop (k - at) text)) ≡ true

if_there : (line : List ℕ) (at k : ℕ) → if_heading line at ≡ Some k → (begins_heading line ≡ true) × (at ≡ k)
if_there line at k e = elim (cases_Bool (begins_heading line)) [
  | inl h ↦ (let is : ◌≡◌ {A = Option ℕ} (Some at) (Some k) = rw h at e in (h, cc))
  | inr h ↦ absurd (let is : ◌≡◌ {A = Option ℕ} None (Some k) = rw h at e in cc)
]

none_there : (n at : ℕ) (text : List ℕ) (k : ℕ) → text ≡ [] → heading_from n at (lines text) ≡ Some k → ⊥
unfolding heading_from
none_there n at text k none e = (let wrong : ◌≡◌ {A = Option ℕ} None (Some k) = subst (λ (t : List ℕ). heading_from n at (lines t) ≡ Some k) none e in cc)

step_there : (n at : ℕ) (text : List ℕ) (k : ℕ) → 0 < length text → heading_from n at (lines text) ≡ Some k →
    (if n == 1 then if_heading (first_line text) at else heading_from (n - 1) (at + length (first_line text)) (lines (drop (length (first_line text)) text))) ≡ Some k
unfolding heading_from
step_there n at text k some e = sym (ap (heading_from n at) (parts text some).lines_are) ∙ e

there_by : (m n at : ℕ) (text : List ℕ) (k : ℕ) → length text ≤ m → heading_from n at (lines text) ≡ Some k → IsThere at text k
there_by zero n at text k few e = elim (some_or_none text) [
  | inl none ↦ absurd (none_there n at text k none e)
  | inr some ↦ absurd (omega (arith, few, some))
]
there_by (suc m) n at text k few e = elim (some_or_none text) [
  | inl none ↦ absurd (none_there n at text k none e)
  | inr some ↦
      let p = parts text some in
      let h = first_line text in
      let rest = drop (length h) text in
      let step = step_there n at text k some e in
      elim (cases_Bool (n == 1)) [
        | inl one ↦
            let here : if_heading h at ≡ Some k = rw one at step in
            let found = if_there h at k here in
            let none : k - at ≡ 0 = omega (arith, found.1) in
            record { from = omega (arith, found.1); within = omega (arith, none); begins = subst (λ (j : ℕ). begins_heading (first_line (drop j text)) ≡ true) (sym none) found.0 }
        | inr other ↦
            let later : heading_from (n - 1) (at + length h) (lines rest) ≡ Some k = rw other at step in
            let size : length rest ≡ length text - length h = length-drop (length h) text in
            let next = there_by m (n - 1) (at + length h) rest k (omega (arith, size, few, p.some)) later in
            let place : length h + (k - (at + length h)) ≡ k - at = omega (arith, next.from) in
            record {
              from = omega (arith, next.from);
              within = omega (arith, next.within, size, next.from, p.within);
              begins = subst (λ (t : List ℕ). begins_heading (first_line t) ≡ true) (drop-drop (k - (at + length h)) (length h) text ∙ ap (λ j. drop j text) place) next.begins;
            }
      ]
]

pub heading_there : (text : List ℕ) (line at : ℕ) → heading_at text line ≡ Some at → (at ≤ length text) × (begins_heading (first_line (drop at text)) ≡ true)
heading_there text line at e =
    let t = there_by (length text) line 0 text at (omega arith) e in
    let same : at - 0 ≡ at = omega arith in
    (omega (arith, t.within), subst (λ (j : ℕ). begins_heading (first_line (drop j text)) ≡ true) same t.begins)

-- what is put under a heading

no_planning : (word : PlanningKeyword) (line : List ℕ) → is_planning line ≡ false → said word line ≡ None
no_planning word line none = rw none refl

no_line : is_planning [] ≡ false
unfolding pairs_from
no_line = refl

-- the parts under a heading: what stood in the place of the new line, the new line, and the line feed before it
pub record Parted (word : PlanningKeyword) (date : Option TypedDate) (h below : List ℕ) (put : Put) : Type 0 where
  pub gap : List ℕ
  pub old : List ℕ
  pub line : List ℕ
  pub rest : List ℕ
  pub below_is : below ≡ old ++ rest
  pub old_is : IsOldLine below old
  pub gap_is : IsGap gap
  pub deleted_is : put.deleted ≡ length old
  pub inserted_is : put.inserted ≡ gap ++ line
  pub says : SaysDate word date old line
  pub others : SaysElse word old line
  pub classes_are : begins_heading h ≡ true → classes (h ∷ (as_line line ++ lines rest)) ≡ Heading ∷ (class_left line ++ classes_below (lines rest))

pub record Mapped {X Y : Type 0} (f : X → Y) (o : Option X) (y : Y) : Type 0 where
  pub x : X
  pub was : o ≡ Some x
  pub is : f x ≡ y

from_map : {X Y : Type 0} (f : X → Y) (o : Option X) (y : Y) → option_map f o ≡ Some y → Mapped f o y
from_map f None y e = absurd cc
from_map f (Some x) y e = record { x = x; was = refl; is = cc }

dated_classes : (word : PlanningKeyword) (date : TypedDate) (line end new h : List ℕ) (ls : List (List ℕ)) → IsDate date → dated_line word date line end ≡ Some new → begins_heading h ≡ true →
    classes (h ∷ (as_line new ++ ls)) ≡ Heading ∷ (class_left new ++ classes_below ls)
dated_classes word date line end [] h ls real e begins =
    let d = dates_are_said word date line end [] real e in
    absurd (let wrong : false ≡ true = sym no_line ∙ said_planning word [] d.stamp d.said_is in cc)
dated_classes word date line end (b ∷ bs) h ls real e begins =
    let d = dates_are_said word date line end (b ∷ bs) real e in
    let plans : is_planning (b ∷ bs) ≡ true = said_planning word (b ∷ bs) d.stamp d.said_is in
    dated_lines_are_planning word date line end (b ∷ bs) h ls real begins e ∙ (rw plans refl)

unplanned : (h : List ℕ) (ls : List (List ℕ)) → begins_heading h ≡ true → is_planning (get_or ls 0 []) ≡ false → classes (h ∷ ls) ≡ Heading ∷ classes_below ls
unplanned h [] is none = rw is refl
unplanned h (l ∷ ls) is none = rw (is, none) refl

feed_gap : (h : List ℕ) → IsGap (if has_feed h then [] else codes "\n")
feed_gap h = elim (cases_Bool (has_feed h)) [ inl e ↦ rw e (inl refl) | inr e ↦ rw e (inr refl) ]

of_feed : (h new : List ℕ) → under_heading h new ≡ (if has_feed h then [] else codes "\n") ++ new
of_feed h new = elim (cases_Bool (has_feed h)) [ inl e ↦ rw e refl | inr e ↦ rw e refl ]

-- a date in the place of a planning line, and on a line of its own
dated_there : (word : PlanningKeyword) (date : TypedDate) (h below new : List ℕ) (put : Put) → IsDate date → dated_line word date (first_line below) (line_end h) ≡ Some new →
    put_line h (first_line below) new ≡ put → is_planning (first_line below) ≡ true → Parted word (Some date) h below put
dated_there word date h below new put real e is plans =
    let line = first_line below in
    let d = dates_are_said word date line (line_end h) new real e in
    let made : record { deleted = length line; inserted = new } ≡ put = rw plans at is in
    record {
      gap = [];
      old = line;
      line = new;
      rest = drop (length line) below;
      below_is = split below;
      old_is = inr (refl, plans);
      gap_is = inl refl;
      deleted_is = sym (ap (λ (q : Put). q.deleted) made);
      inserted_is = sym (ap (λ (q : Put). q.inserted) made);
      says = (d.stamp, d.said_is, d.is_of);
      others = d.others;
      classes_are = dated_classes word date line (line_end h) new h (lines (drop (length line) below)) real e;
    }

dated_new : (word : PlanningKeyword) (date : TypedDate) (h below new : List ℕ) (put : Put) → IsDate date → dated_line word date (first_line below) (line_end h) ≡ Some new →
    put_line h (first_line below) new ≡ put → is_planning (first_line below) ≡ false → Parted word (Some date) h below put
dated_new word date h below new put real e is none =
    let line = first_line below in
    let d = dates_are_said word date line (line_end h) new real e in
    let made : record { deleted = 0; inserted = under_heading h new } ≡ put = rw none at is in
    let same : (other : PlanningKeyword) → said other line ≡ said other [] = λ other. no_planning other line none ∙ sym (no_planning other [] no_line) in
    record {
      gap = if has_feed h then [] else codes "\n";
      old = [];
      line = new;
      rest = below;
      below_is = refl;
      old_is = inl refl;
      gap_is = feed_gap h;
      deleted_is = sym (ap (λ (q : Put). q.deleted) made);
      inserted_is = sym (ap (λ (q : Put). q.inserted) made) ∙ of_feed h new;
      says = (d.stamp, d.said_is, subst (λ (o : Option Stamp). IsStampOf date o d.stamp) (same word) d.is_of);
      others = λ other else'. d.others other else' ∙ same other;
      classes_are = dated_classes word date line (line_end h) new h (lines below) real e;
    }

undated_there : (word : PlanningKeyword) (h below left : List ℕ) (put : Put) → undated_line word (first_line below) (first_line (drop (length (first_line below)) below)) ≡ Some left →
    put_left (first_line below) left ≡ put → is_planning (first_line below) ≡ true → Parted word None h below put
undated_there word h below left put e made plans =
    let line = first_line below in
    let rest = drop (length line) below in
    let lost = lost_stamps_are_unsaid word line (first_line rest) left e in
    record {
      gap = [];
      old = line;
      line = left;
      rest = rest;
      below_is = split below;
      old_is = inr (refl, plans);
      gap_is = inl refl;
      deleted_is = sym (ap (λ (q : Put). q.deleted) made);
      inserted_is = sym (ap (λ (q : Put). q.inserted) made);
      says = lost.0;
      others = lost.1;
      classes_are = λ begins. other_lines_stay word line left h (lines rest) begins e;
    }

undated_none : (word : PlanningKeyword) (h below : List ℕ) (put : Put) → put_nothing ≡ put → is_planning (first_line below) ≡ false → Parted word None h below put
undated_none word h below put made none = record {
  gap = [];
  old = [];
  line = [];
  rest = below;
  below_is = refl;
  old_is = inl refl;
  gap_is = inl refl;
  deleted_is = sym (ap (λ (q : Put). q.deleted) made);
  inserted_is = sym (ap (λ (q : Put). q.inserted) made);
  says = no_planning word [] no_line;
  others = λ other else'. refl;
  classes_are = λ begins. unplanned h (lines below) begins none;
}

parted : (word : PlanningKeyword) (date : Option TypedDate) (h below : List ℕ) (put : Put) → IsDateIfAny date →
    planning_put word date h (first_line below) (first_line (drop (length (first_line below)) below)) ≡ Some put → Parted word date h below put
parted word (Some date) h below put real e =
    let m = from_map (put_line h (first_line below)) (dated_line word date (first_line below) (line_end h)) put e in
    elim (cases_Bool (is_planning (first_line below))) [
      | inl plans ↦ dated_there word date h below m.x put real m.was m.is plans
      | inr none ↦ dated_new word date h below m.x put real m.was m.is none
    ]
parted word None h below put real e =
    let line = first_line below in
    let next = first_line (drop (length line) below) in
    elim (cases_Bool (is_planning line)) [
      | inl plans ↦
          let left : option_map (put_left line) (undated_line word line next) ≡ Some put = rw plans at e in
          let m = from_map (put_left line) (undated_line word line next) put left in
          undated_there word h below m.x put m.was m.is plans
      | inr none ↦
          let nothing : ◌≡◌ {A = Option Put} (Some put_nothing) (Some put) = rw none at e in
          undated_none word h below put (cc) none
    ]

-- the whole text

put_in : (front h gap old line rest : List ℕ) (put : Put) → put.deleted ≡ length old → put.inserted ≡ gap ++ line →
    replace (front ++ (h ++ (old ++ rest))) (length front + length h) put.deleted put.inserted ≡ front ++ (h ++ (gap ++ (line ++ rest)))
put_in front h gap old line rest put deleted inserted =
    let text = front ++ (h ++ (old ++ rest)) in
    let whole : text ≡ (front ++ h) ++ (old ++ rest) = sym (append_assoc front h (old ++ rest)) in
    let size : length (front ++ h) ≡ length front + length h = length-append front h in
    let taken : take (length front + length h) text ≡ front ++ h = ap (λ k. take k text) (sym size) ∙ (ap (take (length (front ++ h))) whole ∙ take_front (front ++ h) (old ++ rest)) in
    let behind : drop (length front + length h) text ≡ old ++ rest = ap (λ k. drop k text) (sym size) ∙ (ap (drop (length (front ++ h))) whole ∙ drop_front (front ++ h) (old ++ rest)) in
    let left : drop (length front + length h + put.deleted) text ≡ rest =
    sym (drop-drop put.deleted (length front + length h) text) ∙ (ap (drop put.deleted) behind ∙ (ap (λ k. drop k (old ++ rest)) deleted ∙ drop_front old rest)) in
    ap (λ t. (t ++ put.inserted) ++ drop (length front + length h + put.deleted) text) taken
    ∙ (ap (λ r. ((front ++ h) ++ put.inserted) ++ r) left
    ∙ (ap (λ i. ((front ++ h) ++ i) ++ rest) inserted
    ∙ (append_assoc (front ++ h) (gap ++ line) rest
    ∙ (append_assoc front h ((gap ++ line) ++ rest)
    ∙ ap (λ r. front ++ (h ++ r)) (append_assoc gap line rest)))))

pub if_sized_is : (text new : List ℕ) → if_sized text ≡ Ok new → new ≡ text
if_sized_is text new e = elim (cases_Bool (nat_lt max_bytes (length text))) [
  | inl h ↦ absurd (let wrong : ◌≡◌ {A = Result (List ℕ) Refusal} (Err _) (Ok new) = rw h at e in cc)
  | inr h ↦ (let same : ◌≡◌ {A = Result (List ℕ) Refusal} (Ok text) (Ok new) = rw h at e in cc)
]

planned_is : (p : Planning) (text new : List ℕ) (at : ℕ) (put : Put) → IsDateIfAny p.date → heading_at text p.line ≡ Some at → put_at p text at ≡ Some put →
    new ≡ replace text (at + length (heading_line text at)) put.deleted put.inserted → IsPlanned p text new
planned_is p text new at put real place e is =
    let found = heading_there text p.line at place in
    let front = take at text in
    let size : length front ≡ at = omega (arith, length-take at text, found.0) in
    let tail = drop at text in
    let h = first_line tail in
    let below = drop (length h) tail in
    let same : below ≡ drop (at + length h) text = drop-drop (length h) at text in
    let line : line_below text at ≡ first_line below = ap first_line (sym same) in
    let rest : drop (at + length h + length (line_below text at)) text ≡ drop (length (first_line below)) below =
    sym (drop-drop (length (line_below text at)) (at + length h) text) ∙ (ap (drop (length (line_below text at))) (sym same) ∙ ap (λ l. drop (length l) below) line) in
    let next : next_line text at ≡ first_line (drop (length (first_line below)) below) = ap first_line rest in
    let put_is : planning_put p.keyword p.date h (first_line below) (first_line (drop (length (first_line below)) below)) ≡ Some put =
    ap (λ l. planning_put p.keyword p.date h l (first_line (drop (length (first_line below)) below))) (sym line)
    ∙ (ap (planning_put p.keyword p.date h (line_below text at)) (sym next) ∙ e) in
    let parts = parted p.keyword p.date h below put real put_is in
    let text_is : text ≡ front ++ (h ++ (parts.old ++ parts.rest)) = sym (take-append-drop at text) ∙ ap (λ t. front ++ t) (split tail ∙ ap (λ b. h ++ b) parts.below_is) in
    let new_is : new ≡ front ++ (h ++ (parts.gap ++ (parts.line ++ parts.rest))) =
    is ∙ (ap (λ t. replace t (at + length h) put.deleted put.inserted) text_is
    ∙ (ap (λ n. replace (front ++ (h ++ (parts.old ++ parts.rest))) (n + length h) put.deleted put.inserted) (sym size)
    ∙ put_in front h parts.gap parts.old parts.line parts.rest put parts.deleted_is parts.inserted_is)) in
    record {
      front = front;
      heading = h;
      gap = parts.gap;
      old = parts.old;
      line = parts.line;
      rest = parts.rest;
      place = place ∙ ap Some (sym size);
      begins = found.1;
      text_is = text_is;
      old_is = subst (λ b. IsOldLine b parts.old) parts.below_is parts.old_is;
      gap_is = parts.gap_is;
      new_is = new_is;
      says = parts.says;
      others = parts.others;
      classes_are = parts.classes_are found.1;
    }

of_put : (p : Planning) (text new : List ℕ) (at : ℕ) (put : Option Put) → IsDateIfAny p.date → heading_at text p.line ≡ Some at → put_at p text at ≡ put →
    with_put text (at + length (heading_line text at)) put ≡ Ok new → IsPlanned p text new
of_put p text new at None real place e made = absurd cc
of_put p text new at (Some put) real place e made =
    planned_is p text new at put real place e (if_sized_is (replace text (at + length (heading_line text at)) put.deleted put.inserted) new made)

of_place : (p : Planning) (text new : List ℕ) (found : Option ℕ) → IsDateIfAny p.date → heading_at text p.line ≡ found → planned_if p text found ≡ Ok new → IsPlanned p text new
unfolding planned_at
of_place p text new None real place made = absurd cc
of_place p text new (Some at) real place made = of_put p text new at (put_at p text at) real place refl made

pub headings_are_planned : HeadingsArePlanned
unfolding planned_text
headings_are_planned p text new real made = of_place p text new (heading_at text p.line) real refl made
