-- A clock that is cancelled, in its text.
use Rattle.std.proofs.Common.{◌≡◌, ◌∙◌, inl, inr, ℕ, ◌+◌, ◌-◌, ◌≤◌, List, [], ◌∷◌, ◌++◌, length, take, drop, refl, sym, ap, subst, arith, append-nil, length-drop}
use Rattle.std.specs.Prelude.{Option, Some, None, Ok}
use Rattle.std.specs.List.{AllByRecursion, concat, flat_map, slice_range}
use Rattle.std.specs.Str.{IsUtf8}
use Rattle.std.proofs.lemmas.Bool.{cases_Bool}
use Rattle.std.proofs.lemmas.Grind.{flat_map-append}
use Rattle.std.proofs.lemmas.List.Elements.{recursion_from_All}
use Rattle.std.proofs.lemmas.List.{drop-append-le, drop-drop, take-append-le}
use Rattle.org_act.specs.ClockSections.{span_at}
use Rattle.org_act.specs.ClockTexts.{ActsCancelOneClock, IsLostAt}
use Rattle.org_act.specs.Clocking.{step_part, with_part, without}
use Rattle.org_act.specs.declared.clock_act.ClockStep.TheVariants.{Cancel}
use Rattle.org_act.proofs.ClockTextLemmas.{IsDone, IsThere, in_text, is_done, is_there, its_heading, lost_section, part_made, replaced_in}
use Rattle.org_amend.specs.CancelLaws.{HasLost}
use Rattle.org_amend.specs.Cancelled.{LiesIn, behind_clock, cancelled_part, closing_len, emptied_in, front_lines, guarded_part, has_front, section_without}
use Rattle.org_amend.specs.Clocks.{running_in}
use Rattle.org_amend.specs.Places.{logbook_in}
use Rattle.org_amend.specs.Within.{IsWithin}
use Rattle.org_amend.specs.declared.running.RunningClock.{RunningClock}
use Rattle.org_amend.proofs.CancelLemmas.{others_stay}
use Rattle.org_amend.proofs.CutLemmas.{front_text}
use Rattle.org_amend.proofs.DrawerLemmas.{emptied_within}
use Rattle.org_amend.proofs.WithinLemmas.{closing_within, logbook_within, running_within}
use Rattle.org_base.specs.Spans.{bytes_in}
use Rattle.org_base.specs.declared.span.Span.{Span}
use Rattle.org_class.specs.Classes.{classes_in}
use Rattle.org_class.specs.Heading.{begins_heading}
use Rattle.org_class.specs.declared.class.Class.{Class}
use Rattle.org_lines.specs.Cuts.{lines, lines_in}
use Rattle.org_lines.proofs.LineLemmas.{concat-lines, range_is, utf8_lines}
use Rattle.org_store.specs.Begun.{section_of, section_start}
use Rattle.org_store.proofs.StartLemmas.{lines_of_sections}
use Rattle.org_stamp.proofs.SpacedLemmas.{drop_front, take_front}
use Rattle.org_text.specs.Replace.{replace}

-- a section of text is text

all_back : (xs ys : List (List ℕ)) → AllByRecursion IsUtf8 (xs ++ ys) → AllByRecursion IsUtf8 ys
all_back [] ys h = h
all_back (x ∷ xs) ys h = all_back xs ys h.1

section_text : (text : List ℕ) (place : ℕ) → IsUtf8 text → IsThere text place → IsUtf8 (section_of text place)
section_text text place utf8 t =
    let s = section_of text place in
    let all : AllByRecursion IsUtf8 (lines text) = recursion_from_All IsUtf8 (lines text) (utf8_lines (length text) text (omega arith) utf8) in
    let is : lines text ≡ flat_map lines t.before ++ (lines s ++ flat_map lines t.after) = lines_of_sections text ∙ (ap (flat_map lines) t.sections_were ∙ flat_map-append lines t.before (s ∷ t.after)) in
    let rest = all_back (flat_map lines t.before) (lines s ++ flat_map lines t.after) (subst (AllByRecursion IsUtf8) is all) in
    subst IsUtf8 (concat-lines s) (front_text (lines s) (flat_map lines t.after) rest)

-- what goes lies in the section

guarded_within : (text : List ℕ) (section : Span) (cs : List Class) (part : Span) → LiesIn section part → LiesIn section (guarded_part text section cs part)
guarded_within text section cs part inside = elim (cases_Bool (has_front (section_without text section part) (front_lines cs))) [
  | inl same ↦ rw same inside
  | inr other ↦ rw other (inside.0, omega (arith, inside.1))
]

cancelled_within : (text : List ℕ) (section : Span) (cs : List Class) (clock : RunningClock) → section.at + section.len ≤ length text → IsWithin section clock → LiesIn section (cancelled_part text section cs clock)
unfolding cancelled_part
cancelled_within text section cs clock within is =
    let short = closing_within text (behind_clock section clock) (omega (arith, within, is.high)) in
    guarded_within text section cs (emptied_in text section cs clock)
    (emptied_within section (logbook_in text section cs) clock (closing_len (lines_in text (behind_clock section clock))) (logbook_within text section cs within) is (omega (arith, short, is.high)))

-- and is taken out of it

without_is : (a s c : List ℕ) (section part : Span) (p : ℕ) → section.at ≡ length a → section.len ≡ length s → part.at ≡ length a + p → p + part.len ≤ length s →
    section_without (a ++ (s ++ c)) section part ≡ take p s ++ drop (p + part.len) s
without_is a s c section part p at len place within =
    let t = a ++ (s ++ c) in
    let q = p + part.len in
    let behind : drop section.at t ≡ s ++ c = ap (λ k. drop k t) at ∙ drop_front a (s ++ c) in
    let mid : part.at ≡ section.at + p = omega (arith, at, place) in
    let front : slice_range t section.at part.at ≡ take p s =
    ap (slice_range t section.at) mid ∙ (range_is t section.at p ∙ (ap (take p) behind ∙ take-append-le p s c (omega (arith, within)))) in
    let from : part.at + part.len ≡ section.at + q = omega (arith, mid) in
    let end : section.at + section.len ≡ section.at + q + (length s - q) = omega (arith, len, within) in
    let size : length (drop q s) ≡ length s - q = length-drop q s in
    let back : slice_range t (part.at + part.len) (section.at + section.len) ≡ drop q s =
    ap (λ k. slice_range t k (section.at + section.len)) from
    ∙ (ap (slice_range t (section.at + q)) end
    ∙ (range_is t (section.at + q) (length s - q)
    ∙ (ap (take (length s - q)) (sym (drop-drop q section.at t) ∙ (ap (drop q) behind ∙ drop-append-le q s c within))
    ∙ (ap (λ k. take k (drop q s ++ c)) (sym size) ∙ take_front (drop q s) c)))) in
    ap (λ x. x ++ slice_range t (part.at + part.len) (section.at + section.len)) front ∙ ap (λ y. take p s ++ y) back

cancel_made : (text new : List ℕ) (place : ℕ) (part : Span) (t : IsThere text place) → LiesIn (span_at text place) part → new ≡ replace text part.at part.len [] →
    new ≡ concat t.before ++ (section_without text (span_at text place) part ++ concat t.after)
cancel_made text new place part t inside is =
    let s = section_of text place in
    let a = concat t.before in
    let c = concat t.after in
    let p = part.at - section_start text place in
    let at : part.at ≡ length a + p = omega (arith, t.at_is, inside.0) in
    let within : p + part.len ≤ length s = omega (arith, t.at_is, inside.1, at) in
    let inner : (take p s ++ []) ++ drop (p + part.len) s ≡ take p s ++ drop (p + part.len) s = ap (λ x. x ++ drop (p + part.len) s) (append-nil (take p s)) in
    let left : section_without text (span_at text place) part ≡ take p s ++ drop (p + part.len) s =
    ap (λ x. section_without x (span_at text place) part) t.text_is ∙ without_is a s c (span_at text place) part p t.at_is refl at within in
    is
    ∙ (ap (λ x. replace x part.at part.len []) t.text_is
    ∙ (replaced_in a s c [] part.at part.len p at within ∙ ap (λ x. a ++ (x ++ c)) (inner ∙ sym left)))

pub acts_cancel_one_clock : ActsCancelOneClock
acts_cancel_one_clock line text new utf8 e = by (running_in text section (classes_in text section)) refl d.made
  where
    d : IsDone (record { line = line; step = Cancel }) text new
    d = is_done (record { line = line; step = Cancel }) text new e

    place : ℕ
    place = d.place

    section : Span
    section = span_at text place

    t : IsThere text place
    t = is_there text line place d.begun

    by : (o : Option RunningClock) → running_in text section (classes_in text section) ≡ o → with_part text (step_part Cancel text section o) ≡ Ok new → IsLostAt line text new
    by None found made = absurd cc
    by (Some clock) found made =
        let part = cancelled_part text section (classes_in text section) clock in
        let inside = cancelled_within text section (classes_in text section) clock t.within (running_within text section (classes_in text section) clock t.within found) in
        let begins = its_heading text line place d.begun d.heading in
        let bytes = t.bytes_are in
        let text_own : IsUtf8 (bytes_in text section) = subst IsUtf8 (sym bytes) (section_text text place utf8 t) in
        let raw = others_stay text section clock t.within text_own (ap begins_heading bytes ∙ begins) found in
        let own = section_without text section part in
        let lost : HasLost clock.from (section_of text place) own = subst (λ (s : List ℕ). HasLost clock.from s own) bytes raw in
        record {
          place = place;
          begun = d.begun;
          from = clock.from;
          old = section_of text place;
          own = own;
          changes = in_text text new place own t begins (lost_section clock.from (section_of text place) own lost begins t.one) lost.last_ends
              (cancel_made text new place part t inside (part_made text new (without part) made));
          lost = lost;
        }
