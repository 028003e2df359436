-- An act on the clock of a heading, in its text.
use Rattle.std.proofs.Common.{◌≡◌, ◌∙◌, inl, inr, ℕ, suc, ◌+◌, ◌-◌, ◌≤◌, true, false, List, [], ◌∷◌, ◌++◌, length, map, take, drop, refl, sym, ap, subst, arith, append_assoc, length-append, length-take}
use Rattle.std.specs.Prelude.{Option, Some, None, Result, Ok, Err, nat_le, slice_get}
use Rattle.std.specs.List.{concat, list_any}
use Rattle.std.proofs.lemmas.Bool.{cases_Bool, leb-true, or_from, or_parts}
use Rattle.std.proofs.lemmas.List.{drop-append-le, take-append-le}
use Rattle.std.proofs.lemmas.List.Folds.{concat-append, list_any-append}
use Rattle.org_act.specs.ClockSections.{span_at}
use Rattle.org_act.specs.ClockTexts.{ActsEndOneClock, ChangesSection, EndsAt}
use Rattle.org_act.specs.Clocking.{clocked_by, clocked_in, clocked_text, inserted_at, step_in, step_on, step_part, with_part}
use Rattle.org_act.specs.Laws.{answered}
use Rattle.org_act.specs.declared.act.Refusal.{Refusal}
use Rattle.org_act.specs.declared.clock_act.ClockAct.{ClockAct}
use Rattle.org_act.specs.declared.clock_act.ClockStep.TheVariants.{Out}
use Rattle.org_act.proofs.ClockSpanLemmas.{no_section, section_found}
use Rattle.org_act.proofs.GivenLemmas.{gives}
use Rattle.org_act.proofs.PlaceLemmas.{heading_begins}
use Rattle.org_act.proofs.PlanLemmas.{sized_is}
use Rattle.org_act.proofs.SectionLemmas.{at_place, blank_begins, clock_begins, inner_lines, one_section, put_text, same_settings, setting_given}
use Rattle.org_amend.specs.CancelLaws.{AreGone, AreKept, HasLost, alone, drawer}
use Rattle.org_amend.specs.Clocks.{end_text, minute_at, running_in}
use Rattle.org_amend.specs.EndLaws.{HasEnded}
use Rattle.org_amend.specs.Laws.{with_text}
use Rattle.org_amend.specs.Within.{IsWithin}
use Rattle.org_amend.specs.declared.running.RunningClock.{RunningClock}
use Rattle.org_amend.proofs.ClockLineLemmas.{clock_read_is}
use Rattle.org_amend.proofs.EndedLemmas.{one_clock_ends}
use Rattle.org_amend.proofs.WithinLemmas.{running_within}
use Rattle.org_base.specs.Spans.{bytes_in}
use Rattle.org_base.specs.declared.fault.Fault.{Fault}
use Rattle.org_base.specs.declared.span.Span.{Span}
use Rattle.org_class.specs.Classes.{classes, classes_in, section_classes, section_settings}
use Rattle.org_class.specs.Heading.{begins_heading}
use Rattle.org_class.specs.Sections.{ends_line, is_headed, sections}
use Rattle.org_class.specs.declared.class.Class.{Class}
use Rattle.org_class.specs.declared.class.Class.TheVariants.{Clock, Heading, Plain}
use Rattle.org_class.proofs.Boundaries.{AreSections, are_sections}
use Rattle.org_class.proofs.Cuts.{concat-sections}
use Rattle.org_class.proofs.Runs.{first_line_headed}
use Rattle.org_complete.specs.Completion.{sized}
use Rattle.org_complete.specs.Parts.{Part}
use Rattle.org_complete.proofs.StartLemmas.{heading_there}
use Rattle.org_lines.specs.Cuts.{lines}
use Rattle.org_lines.proofs.LineLemmas.{range_is}
use Rattle.org_store.specs.Begun.{IsBegunBy, has_heading, is_heading_line, section_of, section_start}
use Rattle.org_stamp.proofs.SpacedLemmas.{drop_front, take_front}
use Rattle.org_text.specs.Replace.{replace}

-- what an act that is done replaced

answered_is : (r : Result (List ℕ) Fault) (new : List ℕ) → answered r ≡ Ok new → r ≡ Ok new
answered_is (Ok text) new e = cc
answered_is (Err fault) new e = absurd cc

pub part_made : (text new : List ℕ) (p : Part) → with_part text (Ok p) ≡ Ok new → new ≡ replace text p.at p.del p.ins
part_made text new p e = sized_is (replace text p.at p.del p.ins) new (answered_is (sized (replace text p.at p.del p.ins)) new e)

pub record IsDone (act : ClockAct) (text new : List ℕ) : Type 0 where
  pub place : ℕ
  pub begun : IsBegunBy text act.line place
  pub heading : has_heading text act.line ≡ true
  pub made : step_in act.step text (span_at text place) ≡ Ok new

done_by : (act : ClockAct) (text new : List ℕ) → clocked_by act text ≡ Ok new → IsDone act text new
done_by act text new e = elim (cases_Bool (has_heading text act.line)) [
  | inl h ↦
      let b = heading_begins text act.line h in
      record { place = b.place; begun = b.begun; heading = h; made = ap (step_on act.step text) (sym (section_found text act.line b.place b.begun h)) ∙ e }
  | inr h ↦ absurd (let wrong : ◌≡◌ {A = Result (List ℕ) Refusal} (Err _) (Ok new) = ap (step_on act.step text) (sym (no_section text act.line h)) ∙ e in cc)
]

pub is_done : (act : ClockAct) (text new : List ℕ) → clocked_text act text ≡ Ok new → IsDone act text new
unfolding clocked_text
is_done act text new e = by (sized text) refl e
  where
    by : (r : Result (List ℕ) Fault) → sized text ≡ r → clocked_in act r ≡ Ok new → IsDone act text new
    by (Err fault) was e = absurd cc
    by (Ok whole) was e = done_by act text new (ap (clocked_by act) (sym (sized_is text whole was)) ∙ e)

-- the section that begins with a line

pub record IsThere (text : List ℕ) (place : ℕ) : Type 0 where
  pub before : List (List ℕ)
  pub after : List (List ℕ)
  pub place_is : length before ≡ place
  pub sections_were : sections text ≡ before ++ section_of text place ∷ after
  pub text_is : text ≡ concat before ++ (section_of text place ++ concat after)
  pub at_is : section_start text place ≡ length (concat before)
  pub bytes_are : bytes_in text (span_at text place) ≡ section_of text place
  pub within : section_start text place + length (section_of text place) ≤ length text
  pub one : sections (section_of text place) ≡ section_of text place ∷ []

its_own : (before : List (List ℕ)) (s : List ℕ) (after : List (List ℕ)) → AreSections (before ++ s ∷ after) → sections s ≡ s ∷ []
its_own [] s after h = h.0
its_own (b ∷ before) s after h = its_own before s after h.2

pub is_there : (text : List ℕ) (line place : ℕ) → IsBegunBy text line place → IsThere text place
is_there text line place begun =
    let ss = sections text in
    let before = take place ss in
    let after = drop (suc place) ss in
    let old = section_of text place in
    let were : ss ≡ before ++ old ∷ after = at_place ss place begun.within in
    let text_is : text ≡ concat before ++ (old ++ concat after) = sym (concat-sections text) ∙ (ap concat were ∙ concat-append before (old ∷ after)) in
    let at = length (concat before) in
    let behind : drop at text ≡ old ++ concat after = ap (drop at) text_is ∙ drop_front (concat before) (old ++ concat after) in
    let bytes : bytes_in text (span_at text place) ≡ old = range_is text at (length old) ∙ (ap (take (length old)) behind ∙ take_front old (concat after)) in
    let sizes : length text ≡ at + (length old + length (concat after)) = ap length text_is ∙ (length-append (concat before) (old ++ concat after) ∙ ap (λ n. at + n) (length-append old (concat after))) in
    record {
      before = before;
      after = after;
      place_is = omega (arith, length-take place ss, begun.within);
      sections_were = were;
      text_is = text_is;
      at_is = refl;
      bytes_are = bytes;
      within = omega (arith, sizes);
      one = its_own before old after (subst AreSections were (are_sections text));
    }

first_is_headed : (ls : List (List ℕ)) → is_heading_line (slice_get ls 0) ≡ is_headed ls
first_is_headed [] = refl
first_is_headed (l ∷ ls) = refl

pub its_heading : (text : List ℕ) (line place : ℕ) → IsBegunBy text line place → has_heading text line ≡ true → begins_heading (section_of text place) ≡ true
its_heading text line place begun h =
    sym (first_line_headed (section_of text place)) ∙ (sym (first_is_headed (lines (section_of text place))) ∙ (sym (heading_there text line place begun) ∙ h))

-- bytes of a part of a text are replaced

take_over : (a y : List ℕ) (p : ℕ) → take (length a + p) (a ++ y) ≡ a ++ take p y
take_over [] y p = let same : 0 + p ≡ p = omega arith in ap (λ k. take k y) same
take_over (x ∷ a) y p = let same : suc (length a) + p ≡ suc (length a + p) = omega arith in ap (λ k. take k (x ∷ (a ++ y))) same ∙ ap (λ r. x ∷ r) (take_over a y p)

drop_over : (a y : List ℕ) (p : ℕ) → drop (length a + p) (a ++ y) ≡ drop p y
drop_over [] y p = let same : 0 + p ≡ p = omega arith in ap (λ k. drop k y) same
drop_over (x ∷ a) y p = let same : suc (length a) + p ≡ suc (length a + p) = omega arith in ap (λ k. drop k (x ∷ (a ++ y))) same ∙ drop_over a y p

pub replaced_in : (a s c ins : List ℕ) (at del p : ℕ) → at ≡ length a + p → p + del ≤ length s → replace (a ++ (s ++ c)) at del ins ≡ a ++ (((take p s ++ ins) ++ drop (p + del) s) ++ c)
replaced_in a s c ins at del p is within =
    let t = a ++ (s ++ c) in
    let x = take p s in
    let z = drop (p + del) s in
    let front : take at t ≡ a ++ x = ap (λ k. take k t) is ∙ (take_over a (s ++ c) p ∙ ap (λ y. a ++ y) (take-append-le p s c (omega (arith, within)))) in
    let end : at + del ≡ length a + (p + del) = omega (arith, is) in
    let back : drop (at + del) t ≡ z ++ c = ap (λ k. drop k t) end ∙ (drop_over a (s ++ c) (p + del) ∙ drop-append-le (p + del) s c within) in
    ap (λ f. (f ++ ins) ++ drop (at + del) t) front
    ∙ (ap (λ b. ((a ++ x) ++ ins) ++ b) back
    ∙ (ap (λ f. f ++ (z ++ c)) (append_assoc a x ins) ∙ (append_assoc a (x ++ ins) (z ++ c) ∙ ap (λ y. a ++ y) (sym (append_assoc (x ++ ins) z c)))))

-- a section's first line is its heading's, and no other one is

pub head_class : (s : List ℕ) → begins_heading s ≡ true → slice_get (section_classes s) 0 ≡ Some Heading
head_class s begins = by (lines s) refl
  where
    by : (ls : List (List ℕ)) → lines s ≡ ls → slice_get (section_classes s) 0 ≡ Some Heading
    by [] is = absurd (let wrong : false ≡ true = sym (ap is_headed is) ∙ (first_line_headed s ∙ begins) in cc)
    by (l ∷ ls) is =
        let first : begins_heading l ≡ true = sym (ap is_headed is) ∙ (first_line_headed s ∙ begins) in
        ap (λ xs. slice_get (classes xs) 0) is ∙ (rw first refl)

record IsFirst (before : List (List ℕ)) : Type 0 where
  b : List ℕ
  bs : List (List ℕ)
  is : before ≡ b ∷ bs

first_line : (s : List ℕ) (before : List (List ℕ)) (cs es : List Class) (c : Class) → begins_heading s ≡ true → section_classes s ≡ cs ++ c ∷ es → length cs ≡ length before → (c ≡ Heading → ⊥) → IsFirst before
first_line s (b ∷ bs) cs es c begins were size other = record { b = b; bs = bs; is = refl }
first_line s [] [] es c begins were size other = absurd (let same : ◌≡◌ {A = Option Class} (Some c) (Some Heading) = sym (ap (λ xs. slice_get xs 0) were) ∙ head_class s begins in other cc)
first_line s [] (d ∷ cs) es c begins were size other = absurd (omega (arith, size))

none_in : (xs ys : List (List ℕ)) → list_any begins_heading (xs ++ ys) ≡ false → (list_any begins_heading xs ≡ false) × (list_any begins_heading ys ≡ false)
none_in xs ys h = or_parts (list_any begins_heading xs) (list_any begins_heading ys) (sym (list_any-append begins_heading xs ys) ∙ h)

none_of : (xs ys : List (List ℕ)) → list_any begins_heading xs ≡ false → list_any begins_heading ys ≡ false → list_any begins_heading (xs ++ ys) ≡ false
none_of xs ys h k = list_any-append begins_heading xs ys ∙ or_from (list_any begins_heading xs) (list_any begins_heading ys) h k

pub record IsSection (old own : List ℕ) : Type 0 where
  begins : begins_heading own ≡ true
  one : sections own ≡ own ∷ []
  settings : section_settings own ≡ section_settings old

-- lines of a section that are no heading lines take the place of others
put_lines : (old own : List ℕ) (xs ys vs zs : List (List ℕ)) (cs ds fs es : List Class) → length cs ≡ length xs → length ds ≡ length ys → length fs ≡ length vs → begins_heading old ≡ true → sections old ≡ old ∷ [] → IsFirst xs →
    lines old ≡ xs ++ (ys ++ zs) → section_classes old ≡ cs ++ (ds ++ es) → lines own ≡ xs ++ (vs ++ zs) → section_classes own ≡ cs ++ (fs ++ es) →
    gives setting_given ys ds ≡ [] → gives setting_given vs fs ≡ [] → list_any begins_heading vs ≡ false → IsSection old own
put_lines old own xs ys vs zs cs ds fs es one two three begun single first was_lines was_classes are_lines are_classes none_were none_are none =
    let b = first.b in
    let bs = first.bs in
    let was : lines old ≡ b ∷ (bs ++ (ys ++ zs)) = was_lines ∙ ap (λ x. x ++ (ys ++ zs)) first.is in
    let are : lines own ≡ b ∷ (bs ++ (vs ++ zs)) = are_lines ∙ ap (λ x. x ++ (vs ++ zs)) first.is in
    let inner = inner_lines old b (bs ++ (ys ++ zs)) single was in
    let parts = none_in bs (ys ++ zs) inner in
    let rest = none_in ys zs parts.1 in
    let clean : list_any begins_heading (bs ++ (vs ++ zs)) ≡ false = none_of bs (vs ++ zs) parts.0 (none_of vs zs none rest.1) in
    let head : begins_heading b ≡ true = sym (ap is_headed was) ∙ (first_line_headed old ∙ begun) in
    record {
      begins = sym (first_line_headed own) ∙ (ap is_headed are ∙ head);
      one = one_section own b (bs ++ (vs ++ zs)) are clean;
      settings = same_settings old own xs ys vs zs cs ds fs es one two three was_lines was_classes are_lines are_classes none_were none_are;
    }

one_setting : (l : List ℕ) → gives setting_given (l ∷ []) (Clock ∷ []) ≡ []
unfolding gives
one_setting l = refl

ended_section : (from to : ℕ) (old own : List ℕ) → HasEnded from to old own → begins_heading old ≡ true → sections old ≡ old ∷ [] → IsSection old own
ended_section from to old own h begun single =
    let other : Clock ≡ Heading → ⊥ = λ e. cc in
    let first = first_line old h.before h.before_classes h.after_classes Clock begun h.classes_were h.before_size other in
    let none = clock_begins h.ended (clock_read_is h.ended (record { from = from; to = Some to }) h.ends) in
    put_lines old own h.before (h.line ∷ []) (h.ended ∷ []) h.after h.before_classes (Clock ∷ []) (Clock ∷ []) h.after_classes h.before_size refl refl begun single first
    h.lines_were h.classes_were h.lines_are h.classes_are (one_setting h.line) (one_setting h.ended) (rw none refl)

record AreOfGone (gone : List (List ℕ)) (cs : List Class) : Type 0 where
  c : Class
  more : List Class
  is : cs ≡ c ∷ more
  other : c ≡ Heading → ⊥
  size : length cs ≡ length gone
  none : gives setting_given gone cs ≡ []

of_gone : (from : ℕ) (gone : List (List ℕ)) (cs : List Class) → AreGone from gone cs → AreOfGone gone cs
unfolding gives
of_gone _ _ _ (alone from clock runs) = record { c = Clock; more = []; is = refl; other = λ e. cc; size = refl; none = refl }
of_gone _ _ _ (drawer from first clock last opens runs ends) = record { c = Plain; more = Clock ∷ Plain ∷ []; is = refl; other = λ e. cc; size = refl; none = refl }

record AreOfKept (kept : List (List ℕ)) : Type 0 where
  size : length (map (λ (l : List ℕ). Plain) kept) ≡ length kept
  none : gives setting_given kept (map (λ (l : List ℕ). Plain) kept) ≡ []
  clean : list_any begins_heading kept ≡ false

of_kept : (kept : List (List ℕ)) → AreKept kept → AreOfKept kept
unfolding gives
of_kept kept (inl none) = subst AreOfKept (sym none) (record { size = refl; none = refl; clean = refl })
of_kept kept (inr (line, is, blank)) = let clean = blank_begins line blank in subst AreOfKept (sym is) (record { size = refl; none = refl; clean = rw clean refl })

pub lost_section : (from : ℕ) (old own : List ℕ) → HasLost from old own → begins_heading old ≡ true → sections old ≡ old ∷ [] → IsSection old own
lost_section from old own h begun single =
    let gone = of_gone from h.gone h.gone_classes h.are_gone in
    let kept = of_kept h.kept h.are_kept in
    let were : section_classes old ≡ h.before_classes ++ gone.c ∷ (gone.more ++ h.after_classes) = h.classes_were ∙ ap (λ cs. h.before_classes ++ (cs ++ h.after_classes)) gone.is in
    let first = first_line old h.before h.before_classes (gone.more ++ h.after_classes) gone.c begun were h.before_size gone.other in
    put_lines old own h.before h.gone h.kept h.after h.before_classes h.gone_classes (map (λ (l : List ℕ). Plain) h.kept) h.after_classes h.before_size gone.size kept.size begun single first
    h.lines_were h.classes_were h.lines_are h.classes_are gone.none kept.none kept.clean

-- the section in the text

pub in_text : (text new : List ℕ) (place : ℕ) (own : List ℕ) (t : IsThere text place) → begins_heading (section_of text place) ≡ true → IsSection (section_of text place) own →
    (ends_line (section_of text place) ≡ true → ends_line own ≡ true) → new ≡ concat t.before ++ (own ++ concat t.after) → ChangesSection place text new (section_of text place) own
in_text text new place own t begun s ends is =
    let put = put_text t.before (section_of text place) own t.after text new t.sections_were begun s.begins s.one ends s.settings is in
    record {
      before = t.before;
      after = t.after;
      place_is = t.place_is;
      sections_were = t.sections_were;
      sections_are = put.sections_are;
      begins = begun;
      settings_are = put.settings_are;
    }

-- a clock ends

end_made : (text new put : List ℕ) (place : ℕ) (clock : RunningClock) (t : IsThere text place) → IsWithin (span_at text place) clock → new ≡ replace text clock.end 0 put →
    new ≡ concat t.before ++ (with_text (section_of text place) (clock.end - section_start text place) put ++ concat t.after)
end_made text new put place clock t within is =
    let s = section_of text place in
    let p = clock.end - section_start text place in
    let at : clock.end ≡ length (concat t.before) + p = omega (arith, t.at_is, within.low, within.stamp_low) in
    let none : p + 0 ≡ p = omega arith in
    let inner : (take p s ++ put) ++ drop (p + 0) s ≡ with_text s p put = ap (λ k. (take p s ++ put) ++ drop k s) none ∙ append_assoc (take p s) put (drop p s) in
    is
    ∙ (ap (λ x. replace x clock.end 0 put) t.text_is
    ∙ (replaced_in (concat t.before) s (concat t.after) put clock.end 0 p at (omega (arith, within.stamp_high, within.high, t.at_is, at))
    ∙ ap (λ x. concat t.before ++ (x ++ concat t.after)) inner))

pub acts_end_one_clock : ActsEndOneClock
acts_end_one_clock line now text new day time e = by (running_in text section (classes_in text section)) refl d.made
  where
    d : IsDone (record { line = line; step = Out now }) text new
    d = is_done (record { line = line; step = Out now }) text new e

    place : ℕ
    place = d.place

    section : Span
    section = span_at text place

    t : IsThere text place
    t = is_there text line place d.begun

    by : (o : Option RunningClock) → running_in text section (classes_in text section) ≡ o → with_part text (step_part (Out now) text section o) ≡ Ok new → EndsAt line now text new
    by None found made = absurd cc
    by (Some clock) found made = elim (cases_Bool (nat_le clock.from (minute_at now))) [
      | inr late ↦ absurd (let wrong : ◌≡◌ {A = Result (List ℕ) Refusal} (Err _) (Ok new) = rw late at made in cc)
      | inl early ↦
          let put = end_text now (minute_at now - clock.from) in
          let done : with_part text (Ok (inserted_at clock.end put)) ≡ Ok new = rw early at made in
          let within = running_within text section (classes_in text section) clock t.within found in
          let begins = its_heading text line place d.begun d.heading in
          let bytes = t.bytes_are in
          let raw = one_clock_ends text section clock now (minute_at now - clock.from) t.within (ap begins_heading bytes ∙ begins) day time found in
          let own = with_text (section_of text place) (clock.end - section.at) put in
          let ended : HasEnded clock.from (minute_at now) (section_of text place) own =
          subst (λ (s : List ℕ). HasEnded clock.from (minute_at now) s (with_text s (clock.end - section.at) put)) bytes raw in
          record {
            place = place;
            begun = d.begun;
            from = clock.from;
            old = section_of text place;
            own = own;
            changes = in_text text new place own t begins (ended_section clock.from (minute_at now) (section_of text place) own ended begins t.one) ended.last_ends
                (end_made text new put place clock t within (part_made text new (inserted_at clock.end put) done));
            in_time = leb-true clock.from (minute_at now) early;
            ended = ended;
          }
    ]
