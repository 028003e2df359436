-- A clock that begins in a text.
use Rattle.std.proofs.Common.{◌≡◌, ◌⊎◌, ◌∙◌, inl, inr, ℕ, ◌+◌, ◌<◌, ◌≤◌, Bool, true, false, List, [], ◌∷◌, ◌++◌, codes, length, take, drop, refl, sym, ap, subst, arith, append_assoc, append-nil, length-take}
use Rattle.std.specs.Prelude.{Option, Some, None, Result, Ok, Err, if◌then◌else◌, slice_get}
use Rattle.std.specs.List.{concat}
use Rattle.std.proofs.lemmas.Bool.{cases_Bool, cond_both}
use Rattle.std.proofs.lemmas.List.{take-append-drop}
use Rattle.org_act.specs.ClockBegins.{ActsBeginOneClock, AreBegun, HasBegun, IsBreak, alone, drawer}
use Rattle.org_act.specs.ClockSections.{span_at}
use Rattle.org_act.specs.Clocking.{begun_at, is_ended, step_part, with_part}
use Rattle.org_act.specs.declared.act.Refusal.{Refusal}
use Rattle.org_act.specs.declared.clock_act.ClockStep.TheVariants.{In}
use Rattle.org_act.proofs.ClockTextLemmas.{IsDone, IsThere, is_done, is_there, part_made}
use Rattle.org_amend.specs.Begun.{clock_drawer, clock_line, clock_text, has_return, line_break}
use Rattle.org_amend.specs.Clocks.{moment_stamp, running_in}
use Rattle.org_amend.specs.Laws.{EndsStamp}
use Rattle.org_amend.specs.Places.{clock_place, front_end, front_in, is_front, is_logbook, logbook_in, place_at, place_of}
use Rattle.org_amend.specs.Within.{LiesInside}
use Rattle.org_amend.specs.declared.place.ClockPlace.{ClockPlace}
use Rattle.org_amend.specs.declared.place.ClockPlace.TheVariants.{InDrawer, UnderFront}
use Rattle.org_amend.specs.declared.running.RunningClock.{RunningClock}
use Rattle.org_amend.proofs.EndLemmas.{begun_clocks_run}
use Rattle.org_amend.proofs.WithinLemmas.{front_within, logbook_within}
use Rattle.org_base.specs.Spans.{bytes_in}
use Rattle.org_base.specs.declared.span.Span.{Span}
use Rattle.org_cal.specs.Days.{IsDay}
use Rattle.org_cal.specs.declared.moment.Moment.{Moment}
use Rattle.org_cal.specs.declared.time_of_day.TheConstants.{MINUTES_PER_DAY}
use Rattle.org_class.specs.Classes.{classes_in}
use Rattle.org_class.specs.Drawers.{is_drawer_end}
use Rattle.org_class.specs.declared.class.Class.{Class}
use Rattle.org_lines.specs.Cuts.{lines_in}
use Rattle.org_stamp.specs.Print.{stamp_text}
use Rattle.org_store.specs.Begun.{section_of, section_start}
use Rattle.org_text.specs.Replace.{replace}

-- what ends a line begins with no dash, and lets a drawer's lines be its lines

break_is : (section : List ℕ) → IsBreak (line_break section)
break_is section = elim (cases_Bool (has_return section)) [
  | inl with_return ↦ inr (ap (λ (b : Bool). if b then codes "\r\n" else codes "\n") with_return)
  | inr without ↦ inl (ap (λ (b : Bool). if b then codes "\r\n" else codes "\n") without)
]

ends_stamp : (end : List ℕ) → IsBreak end → EndsStamp end
ends_stamp end (inl is) = subst EndsStamp (sym is) refl
ends_stamp end (inr is) = subst EndsStamp (sym is) refl

opens_drawer : (end : List ℕ) → IsBreak end → is_logbook (codes ":LOGBOOK:" ++ end) ≡ true
opens_drawer end (inl is) = ap (λ e. is_logbook (codes ":LOGBOOK:" ++ e)) is
opens_drawer end (inr is) = ap (λ e. is_logbook (codes ":LOGBOOK:" ++ e)) is

ends_drawer : (end : List ℕ) → IsBreak end → is_drawer_end (codes ":END:" ++ end) ≡ true
ends_drawer end (inl is) = ap (λ e. is_drawer_end (codes ":END:" ++ e)) is
ends_drawer end (inr is) = ap (λ e. is_drawer_end (codes ":END:" ++ e)) is

-- lines with what ends them

ended_lines : (a e c z : List ℕ) → (a ++ (e ++ (c ++ z))) ++ e ≡ (a ++ e) ++ (c ++ ((z ++ e) ++ []))
ended_lines a e c z =
    append_assoc a (e ++ (c ++ z)) e
    ∙ (ap (λ x. a ++ x) (append_assoc e (c ++ z) e ∙ ap (λ x. e ++ x) (append_assoc c z e))
    ∙ (sym (append_assoc a e (c ++ (z ++ e))) ∙ ap (λ x. (a ++ e) ++ (c ++ x)) (sym (append-nil (z ++ e)))))

open_lines : (a e c z : List ℕ) → e ++ (a ++ (e ++ (c ++ z))) ≡ e ++ ((a ++ e) ++ (c ++ (z ++ [])))
open_lines a e c z = ap (λ x. e ++ x) (sym (append_assoc a e (c ++ z)) ∙ ap (λ x. (a ++ e) ++ (c ++ x)) (sym (append-nil z)))

-- what is put in, as lines

record AreLines (now : Moment) (ins : List ℕ) : Type 0 where
  pub gap : List ℕ
  pub own : List (List ℕ)
  pub gap_is : (gap ≡ []) ⊎ IsBreak gap
  pub own_is : AreBegun now own
  pub ins_is : ins ≡ gap ++ concat own

line_lines : (now : Moment) (opening end : List ℕ) → IsDay now.day → now.minute < MINUTES_PER_DAY → IsBreak end → AreLines now (clock_line now opening end)
line_lines now opening end day time is =
    let line = clock_line now opening end in
    record { gap = []; own = line ∷ []; gap_is = inl refl; own_is = alone now line (begun_clocks_run now opening end day time (ends_stamp end is)); ins_is = sym (append-nil line) }

drawer_lines_are : (now : Moment) (is_ended : Bool) (end : List ℕ) → IsDay now.day → now.minute < MINUTES_PER_DAY → IsBreak end → AreLines now (clock_drawer now is_ended end)
drawer_lines_are now true end day time is =
    let clock = clock_text (stamp_text (moment_stamp now)) end in
    let first = codes ":LOGBOOK:" ++ end in
    let last = codes ":END:" ++ end in
    record {
      gap = [];
      own = first ∷ clock ∷ last ∷ [];
      gap_is = inl refl;
      own_is = drawer now first clock last (opens_drawer end is) (begun_clocks_run now [] end day time (ends_stamp end is)) (ends_drawer end is);
      ins_is = ended_lines (codes ":LOGBOOK:") end clock (codes ":END:");
    }
drawer_lines_are now false end day time is =
    let clock = clock_text (stamp_text (moment_stamp now)) end in
    let first = codes ":LOGBOOK:" ++ end in
    let last = codes ":END:" in
    record {
      gap = end;
      own = first ∷ clock ∷ last ∷ [];
      gap_is = inr is;
      own_is = drawer now first clock last (opens_drawer end is) (begun_clocks_run now [] end day time (ends_stamp end is)) refl;
      ins_is = open_lines (codes ":LOGBOOK:") end clock last;
    }

-- the place lies in the section

front_low : (cs : List Class) (place at : ℕ) (ls : List (List ℕ)) → at ≤ front_end cs place at ls
unfolding front_end
front_low cs place at [] = omega arith
front_low cs place at (l ∷ ls) =
    cond_both (is_front (slice_get cs place)) (front_end cs (place + 1) (at + length l) ls) at (λ n. at ≤ n)
    (λ _. let next = front_low cs (place + 1) (at + length l) ls in omega (arith, next))
    (λ _. omega arith)

abbrev IsBetween : Span → ℕ → Type 0
IsBetween section at = (section.at ≤ at) × (at ≤ section.at + section.len)

place_between : (text : List ℕ) (section : Span) (cs : List Class) → section.at + section.len ≤ length text → IsBetween section (place_at (clock_place text section cs))
place_between text section cs within = by (logbook_in text section cs) (logbook_within text section cs within)
  where
    by : (o : Option Span) → LiesInside section o → IsBetween section (place_at (place_of o (front_in text section cs)))
    by None inside = (front_low cs 0 section.at (lines_in text section), front_within text section cs within)
    by (Some line) inside = ((let low = inside.0 in omega (arith, low)), inside.1)

-- what the act makes

put_in : (text new ins gap own : List ℕ) (at : ℕ) → new ≡ replace text at 0 ins → ins ≡ gap ++ own → new ≡ take at text ++ (gap ++ (own ++ drop at text))
put_in text new ins gap own at made is =
    let front = take at text in
    let back = drop at text in
    let same : at + 0 ≡ at = omega arith in
    made
    ∙ (ap (λ k. (front ++ ins) ++ drop k text) same
    ∙ (append_assoc front ins back
    ∙ (ap (λ i. front ++ (i ++ back)) is
    ∙ ap (λ x. front ++ x) (append_assoc gap own back))))

pub acts_begin_one_clock : ActsBeginOneClock
acts_begin_one_clock line now text new day time e = by (running_in text section (classes_in text section)) refl d.made
  where
    d : IsDone (record { line = line; step = In now }) text new
    d = is_done (record { line = line; step = In now }) text new e

    section : Span
    section = span_at text d.place

    t : IsThere text d.place
    t = is_there text line d.place d.begun

    end : List ℕ
    end = line_break (bytes_in text section)

    at_place : (at : ℕ) (ins : List ℕ) → running_in text section (classes_in text section) ≡ None → IsBetween section at → AreLines now ins →
        with_part text (Ok (record { at = at; del = 0; ins = ins })) ≡ Ok new → HasBegun line now text new
    at_place at ins none between are made =
        let low : section_start text d.place ≤ at = between.0 in
        let high : at ≤ section_start text d.place + length (section_of text d.place) = between.1 in
        let size : length (take at text) ≡ at = omega (arith, length-take at text, high, t.within) in
        record {
          place = d.place;
          begun = d.begun;
          none = none;
          front = take at text;
          gap = are.gap;
          own = are.own;
          back = drop at text;
          low = omega (arith, size, low);
          high = omega (arith, size, high);
          text_is = sym (take-append-drop at text);
          gap_is = are.gap_is;
          own_is = are.own_is;
          new_is = put_in text new ins are.gap (concat are.own) at (part_made text new (record { at = at; del = 0; ins = ins }) made) are.ins_is;
        }

    put : (p : ClockPlace) → running_in text section (classes_in text section) ≡ None → IsBetween section (place_at p) → with_part text (Ok (begun_at text section now p)) ≡ Ok new → HasBegun line now text new
    put (InDrawer opening) none between made =
        at_place (opening.at + opening.len) (clock_line now (bytes_in text opening) end) none between
        (line_lines now (bytes_in text opening) end day time (break_is (bytes_in text section))) made
    put (UnderFront at) none between made =
        at_place at (clock_drawer now (is_ended text at) end) none between
        (drawer_lines_are now (is_ended text at) end day time (break_is (bytes_in text section))) made

    by : (o : Option RunningClock) → running_in text section (classes_in text section) ≡ o → with_part text (step_part (In now) text section o) ≡ Ok new → HasBegun line now text new
    by (Some clock) found made = absurd (let wrong : ◌≡◌ {A = Result (List ℕ) Refusal} (Err _) (Ok new) = made in cc)
    by None found made = put (clock_place text section (classes_in text section)) found (place_between text section (classes_in text section) t.within) made
