-- A running clock's line with its end.
use Rattle.std.proofs.Common.{◌≡◌, ◌==◌, ◌&&◌, ℕ, ◌+◌, ◌≤◌, ◌<◌, inl, inr, Bool, true, false, List, [], ◌∷◌, ◌++◌, length, take, drop, refl, sym, subst, ◌∙◌, ap, arith, codes, length-append, length-drop, length-take, append_assoc}
use Rattle.std.specs.Prelude.{Option, Some, None, if◌then◌else◌, nat_eq, unwrap_or}
use Rattle.std.specs.List.{prefix_len, starts_with}
use Rattle.std.specs.Option.{option_and_then, option_map}
use Rattle.std.proofs.lemmas.Bool.{cases_Bool}
use Rattle.std.proofs.lemmas.Bool.Decides.{Decides-eqb}
use Rattle.std.proofs.lemmas.List.{take-append-drop}
use Rattle.std.proofs.lemmas.Option.{option_and_then_some}
use Rattle.std.proofs.lemmas.Slice.Eq.{starts_is}
use Rattle.org_amend.specs.Begun.{indent_of}
use Rattle.org_amend.specs.Clocks.{end_text, from_stamp, from_unended, hours_text, minute_at, moment_stamp, since, stamp_end, stamp_len}
use Rattle.org_amend.specs.Laws.{BegunClocksRun, EndedClocksAreRead, EndsStamp, with_text}
use Rattle.org_base.specs.Words.{is_space}
use Rattle.org_cal.specs.Days.{IsDay}
use Rattle.org_cal.specs.Minutes.{minute_at as minute_of_pair}
use Rattle.org_cal.specs.declared.moment.Moment.{Moment}
use Rattle.org_cal.specs.declared.time_of_day.TheConstants.{MINUTES_PER_DAY}
use Rattle.org_cal.proofs.TextLemmas.{chosen}
use Rattle.org_drawer.specs.Clock.{clock_of}
use Rattle.org_drawer.specs.declared.clock.ClockLine.{ClockLine}
use Rattle.org_stamp.specs.CanPrint.{CanPrint}
use Rattle.org_stamp.specs.Pair.{clock_stamp, past_spaces}
use Rattle.org_stamp.proofs.PairWords.{if_inactive}
use Rattle.org_stamp.specs.Print.{stamp_text}
use Rattle.org_stamp.specs.Read.{joined, ranged, same_bool, single_of, stamp_of}
use Rattle.org_stamp.specs.Spaced.{IsGap}
use Rattle.org_stamp.specs.Stamp.{IsSingle, IsStamp, with_last}
use Rattle.org_stamp.specs.declared.stamp.Stamp.{Stamp}
use Rattle.org_stamp.proofs.PairLemmas.{NoSpace}
use Rattle.org_stamp.proofs.PrintedLemmas.{printed_is_stamp}
use Rattle.org_stamp.proofs.ReadLemmas.{single_found, single_only}
use Rattle.org_stamp.proofs.SpacedLemmas.{drop_front, gap_front, take_front}
use Rattle.org_stamp.proofs.SpelledMarkLemmas.{mapped}

-- white space, and then what begins with none

gap_ends : (gap body : List ℕ) → IsGap gap → NoSpace body → prefix_len is_space (gap ++ body) ≡ length gap
gap_ends [] [] h none = refl
gap_ends [] (b ∷ bs) h none = rw none refl
gap_ends (b ∷ gap) body h none = elim (cases_Bool (is_space b)) [
  | inl space ↦ rw space (let more = gap_ends gap body (rw space at h) none in omega (arith, more))
  | inr letter ↦ absurd (let wrong : false ≡ true = rw letter at h in cc)
]

past : (gap body : List ℕ) → IsGap gap → NoSpace body → past_spaces (gap ++ body) ≡ body
past gap body h none = ap (λ k. drop k (gap ++ body)) (gap_ends gap body h none) ∙ drop_front gap body

single_begins : (single tail : List ℕ) (s : Stamp) → IsSingle single s → s.active ≡ false → NoSpace (single ++ tail)
single_begins single tail s h inactive =
    let is : single ≡ 91 ∷ (h.inner ++ 93 ∷ []) = rw inactive at h.bytes_is in
    subst (λ t. NoSpace (t ++ tail)) (sym is) refl

-- the parts of a running clock's line
pub record AreParts (line gap between stamp rest : List ℕ) (s : Stamp) : Type 0 where
  pub line_is : line ≡ gap ++ (codes "CLOCK:" ++ (between ++ (stamp ++ rest)))
  pub gap_is : IsGap gap
  pub between_is : IsGap between
  pub stamp_is : IsSingle stamp s
  pub inactive : s.active ≡ false

pub record IsSplit (line : List ℕ) (from : ℕ) : Type 0 where
  pub gap : List ℕ
  pub between : List ℕ
  pub stamp : List ℕ
  pub rest : List ℕ
  pub s : Stamp
  pub parts : AreParts line gap between stamp rest s
  pub from_is : from ≡ minute_of_pair (s.day, s.time)
  pub end_is : stamp_end line ≡ length gap + (6 + (length between + length stamp))

unended_is : (from : ℕ) (to : Option ℕ) (since : ℕ) → from_unended from to ≡ Some since → (since ≡ from) × (to ≡ None)
unended_is from None since e = ((let same : since ≡ from = cc in same), refl)
unended_is from (Some to) since e = absurd cc

-- a running clock's line is read as one
pub since_is : (line : List ℕ) (from : ℕ) → since line ≡ Some from → clock_of line ≡ Some (record { from = from; to = None })
since_is line from e = option_and_then_some _ (clock_of line) from e (λ clock was unended.
    let h = unended_is clock.from clock.to from unended in
    was ∙ (ap (λ f. Some (record { from = f; to = clock.to })) (sym h.0) ∙ ap (λ t. Some (record { from = from; to = t })) h.1))

-- a range has day, time and brackets of its first stamp
record IsSame (s t : Stamp) : Type 0 where
  pub active : t.active ≡ s.active
  pub day : t.day ≡ s.day
  pub time : t.time ≡ s.time

joined_same : (s : Stamp) (n : ℕ) (o : Option (Stamp × ℕ)) → IsSame s (joined s n o).0
joined_same s n None = record { active = refl; day = refl; time = refl }
joined_same s n (Some t) = elim (cases_Bool (same_bool s.active t.0.active)) [
  | inl is ↦ rw is (record { active = refl; day = refl; time = refl })
  | inr other ↦ rw other (record { active = refl; day = refl; time = refl })
]

ranged_same : (s : Stamp) (n : ℕ) (rest : List ℕ) → IsSame s (ranged s n rest).0
ranged_same s n [] = record { active = refl; day = refl; time = refl }
ranged_same s n (a ∷ []) = record { active = refl; day = refl; time = refl }
ranged_same s n (a ∷ b ∷ rest) = elim (cases_Bool ((a == 45) && (b == 45))) [
  | inl is ↦ rw is (joined_same s n (single_of rest))
  | inr other ↦ rw other (record { active = refl; day = refl; time = refl })
]

taken : (n : ℕ) (bs : List ℕ) → n ≤ length bs → length (take n bs) ≡ n
taken n bs h = omega (arith, length-take n bs)

unended_from : (from : ℕ) (to : Option ℕ) (since : ℕ) → from_unended from to ≡ Some since → since ≡ from
unended_from from None since e = cc
unended_from from (Some to) since e = absurd cc

some_same : (s t : Stamp) → ◌≡◌ {A = Option Stamp} (Some s) (Some t) → t ≡ s
some_same s t e = cc

inactive_is : (s t : Stamp) → if_inactive s ≡ Some t → (s.active ≡ false) × (t ≡ s)
inactive_is s t e = by s.active refl e
  where
    by : (a : Bool) → s.active ≡ a → (if a then None else Some s) ≡ Some t → (s.active ≡ false) × (t ≡ s)
    by true is e = absurd cc
    by false is e = (is, some_same s t e)

-- how long the parts are together
pub size_of : (gap between rest : List ℕ) → length (gap ++ (codes "CLOCK:" ++ (between ++ rest))) ≡ length gap + (6 + (length between + length rest))
size_of gap between rest =
    let word : length (codes "CLOCK:") ≡ 6 = refl in
    omega (arith, length-append gap (codes "CLOCK:" ++ (between ++ rest)), length-append (codes "CLOCK:") (between ++ rest), length-append between rest, word)

-- where its stamp begins and ends
end_at : (line gap between rest : List ℕ) (s : Stamp) (n : ℕ) → from_stamp line ≡ rest → single_of rest ≡ Some (s, n) →
    length line ≡ length gap + (6 + (length between + length rest)) → stamp_end line ≡ length gap + (6 + (length between + n))
end_at line gap between rest s n is read size =
    let len : stamp_len (from_stamp line) ≡ n = ap stamp_len is ∙ (ap (λ o. unwrap_or (option_map (λ found. found.1) o) 0) read) in
    let left : length (from_stamp line) ≡ length rest = ap length is in
    omega (arith, len, left, size)

pub split_line : (line : List ℕ) (from : ℕ) → since line ≡ Some from → IsSplit line from
split_line line from e =
    option_and_then_some _ (clock_of line) from e (λ clock was unended.
    mapped _ (clock_stamp line) clock was (λ t stamped made.
    chosen (starts_with nat_eq (past_spaces line) (codes "CLOCK:")) _ _ _ stamped (λ starts next.
    option_and_then_some _ (stamp_of (from_stamp line)) t next (λ found read only.
    mapped _ (single_of (from_stamp line)) found read (λ single one ranges.
    let text = past_spaces line in
    let rest = from_stamp line in
    let s = single.0 in
    let n = single.1 in
    let gap = take (prefix_len is_space line) line in
    let tail = drop 6 text in
    let between = take (prefix_len is_space tail) tail in
    let there = single_found rest s n one in
    let same : IsSame s found.0 = subst (λ (f : Stamp × ℕ). IsSame s f.0) ranges (ranged_same s n (drop n rest)) in
    let kept = inactive_is found.0 t only in
    let spelled : text ≡ codes "CLOCK:" ++ tail = (starts_is Decides-eqb text (codes "CLOCK:") (starts_with nat_eq text (codes "CLOCK:")) refl).0 starts in
    let whole : line ≡ gap ++ text = sym (take-append-drop (prefix_len is_space line) line) in
    let below : tail ≡ between ++ rest = sym (take-append-drop (prefix_len is_space tail) tail) in
    let cut : rest ≡ take n rest ++ drop n rest = sym (take-append-drop n rest) in
    let line_is : line ≡ gap ++ (codes "CLOCK:" ++ (between ++ rest)) = whole ∙ ap (λ x. gap ++ x) (spelled ∙ ap (λ x. codes "CLOCK:" ++ x) below) in
    let size : length line ≡ length gap + (6 + (length between + length rest)) =
    ap length line_is ∙ size_of gap between rest in
    let day : t.day ≡ s.day = ap (λ (x : Stamp). x.day) kept.1 ∙ same.day in
    let time : t.time ≡ s.time = ap (λ (x : Stamp). x.time) kept.1 ∙ same.time in
    let began : clock.from ≡ minute_of_pair (t.day, t.time) = sym (ap (λ (c : ClockLine). c.from) made) in
    record {
      gap = gap;
      between = between;
      stamp = take n rest;
      rest = drop n rest;
      s = s;
      parts = record {
        line_is = line_is ∙ ap (λ x. gap ++ (codes "CLOCK:" ++ (between ++ x))) cut;
        gap_is = gap_front line;
        between_is = gap_front tail;
        stamp_is = there.1;
        inactive = sym same.active ∙ kept.0;
      };
      from_is = unended_from clock.from clock.to from unended ∙ (began ∙ (ap (λ d. minute_of_pair (d, t.time)) day ∙ ap (λ o. minute_of_pair (s.day, o)) time));
      end_is = end_at line gap between rest s n refl one size ∙ ap (λ k. length gap + (6 + (length between + k))) (sym (taken n rest there.0));
    }))) (λ no none. absurd cc)))

-- the moment is printed as one stamp

can_print : (now : Moment) → IsDay now.day → now.minute < MINUTES_PER_DAY → CanPrint (moment_stamp now)
can_print now day time = record { day = day; time = time; end_time = tt; end_of_start = tt; repeater = tt; delay = tt; last = tt; last_time = tt }

only_single : (bytes : List ℕ) (s : Stamp) → s.last ≡ None → IsStamp bytes s → IsSingle bytes s
only_single bytes s none (inl single) = single
only_single bytes s none (inr range) = absurd (let some : ◌≡◌ {A = Option (ℕ × Option ℕ)} (Some (range.second.day, range.second.time)) None = sym (ap (λ (x : Stamp). x.last) range.stamp_is) ∙ none in cc)

printed : (now : Moment) → IsDay now.day → now.minute < MINUTES_PER_DAY → IsSingle (stamp_text (moment_stamp now)) (moment_stamp now)
printed now day time = only_single (stamp_text (moment_stamp now)) (moment_stamp now) refl (printed_is_stamp (moment_stamp now) (can_print now day time))

-- two stamps are a range, whatever follows
range_read : (first second rest : List ℕ) (s t : Stamp) → IsSingle first s → IsSingle second t → s.active ≡ false → t.active ≡ false →
    option_and_then (λ found. if_inactive found.0) (stamp_of (first ++ (codes "--" ++ (second ++ rest)))) ≡ Some (with_last s t)
range_read first second rest s t first_is second_is s_inactive t_inactive =
    let back = codes "--" ++ (second ++ rest) in
    let one : single_of (first ++ back) ≡ Some (s, length first) = single_only first back s first_is in
    let two : single_of (second ++ rest) ≡ Some (t, length second) = single_only second rest t second_is in
    let left : drop (length first) (first ++ back) ≡ back = drop_front first back in
    let both : ranged s (length first) back ≡ (with_last s t, length first + 2 + length second) = rw (two, s_inactive, t_inactive) refl in
    rw (one, left, both, s_inactive) refl

-- a clock line is read by what stands from its stamp on
clock_read : (gap between text : List ℕ) → IsGap gap → IsGap between → NoSpace text →
    clock_stamp (gap ++ (codes "CLOCK:" ++ (between ++ text))) ≡ option_and_then (λ found. if_inactive found.0) (stamp_of text)
clock_read gap between text gap_is between_is none =
    let line = gap ++ (codes "CLOCK:" ++ (between ++ text)) in
    let front : past_spaces line ≡ codes "CLOCK:" ++ (between ++ text) = past gap (codes "CLOCK:" ++ (between ++ text)) gap_is refl in
    let back : past_spaces (between ++ text) ≡ text = past between text between_is none in
    rw (front, back) refl

-- the line with the end put in
pub put_in : (gap between stamp rest text : List ℕ) (n : ℕ) (line : List ℕ) → line ≡ gap ++ (codes "CLOCK:" ++ (between ++ (stamp ++ rest))) →
    n ≡ length gap + (6 + (length between + length stamp)) → with_text line n text ≡ gap ++ (codes "CLOCK:" ++ (between ++ (stamp ++ (text ++ rest))))
put_in gap between stamp rest text n line line_is n_is =
    let front = gap ++ (codes "CLOCK:" ++ (between ++ stamp)) in
    let joins : (x : List ℕ) → front ++ x ≡ gap ++ (codes "CLOCK:" ++ (between ++ (stamp ++ x))) = λ x.
    append_assoc gap (codes "CLOCK:" ++ (between ++ stamp)) x
    ∙ (ap (λ y. gap ++ y) (append_assoc (codes "CLOCK:") (between ++ stamp) x)
    ∙ ap (λ y. gap ++ (codes "CLOCK:" ++ y)) (append_assoc between stamp x)) in
    let is : line ≡ front ++ rest = line_is ∙ sym (joins rest) in
    let size : n ≡ length front = n_is ∙ sym (size_of gap between stamp) in
    let taken_is : take n line ≡ front = ap (λ k. take k line) size ∙ (ap (take (length front)) is ∙ take_front front rest) in
    let left : drop n line ≡ rest = ap (λ k. drop k line) size ∙ (ap (drop (length front)) is ∙ drop_front front rest) in
    ap (λ x. x ++ (text ++ drop n line)) taken_is ∙ (ap (λ x. front ++ (text ++ x)) left ∙ joins (text ++ rest))

pub ended_clocks_are_read : EndedClocksAreRead
ended_clocks_are_read line from minutes now day time runs =
    let h = split_line line from runs in
    let stamp = stamp_text (moment_stamp now) in
    let more = codes " => " ++ hours_text minutes in
    let new : with_text line (stamp_end line) (end_text now minutes) ≡ h.gap ++ (codes "CLOCK:" ++ (h.between ++ (h.stamp ++ (codes "--" ++ (stamp ++ (more ++ h.rest)))))) =
    put_in h.gap h.between h.stamp h.rest (end_text now minutes) (stamp_end line) line h.parts.line_is h.end_is
    ∙ ap (λ x. h.gap ++ (codes "CLOCK:" ++ (h.between ++ (h.stamp ++ (codes "--" ++ x))))) (append_assoc stamp more h.rest) in
    let text = h.stamp ++ (codes "--" ++ (stamp ++ (more ++ h.rest))) in
    let read : clock_stamp (h.gap ++ (codes "CLOCK:" ++ (h.between ++ text))) ≡ Some (with_last h.s (moment_stamp now)) =
    clock_read h.gap h.between text h.parts.gap_is h.parts.between_is (single_begins h.stamp _ h.s h.parts.stamp_is h.parts.inactive)
    ∙ range_read h.stamp stamp (more ++ h.rest) h.s (moment_stamp now) h.parts.stamp_is (printed now day time) h.parts.inactive refl in
    ap clock_of new
    ∙ (ap (option_map (λ (s : Stamp). record { from = minute_of_pair (s.day, s.time); to = option_map minute_of_pair s.last })) read
    ∙ ap (λ k. Some (record { from = k; to = Some (minute_at now) })) (sym h.from_is))

-- a clock line that goes on with the end of the line runs

alone : (s : Stamp) (n : ℕ) (rest : List ℕ) → EndsStamp rest → ranged s n rest ≡ (s, n)
alone s n [] e = refl
alone s n (b ∷ []) e = refl
alone s n (b ∷ c ∷ rest) e = rw e refl

single_read : (first rest : List ℕ) (s : Stamp) → IsSingle first s → s.active ≡ false → EndsStamp rest →
    option_and_then (λ found. if_inactive found.0) (stamp_of (first ++ rest)) ≡ Some s
single_read first rest s first_is inactive ends =
    let one : single_of (first ++ rest) ≡ Some (s, length first) = single_only first rest s first_is in
    let left : drop (length first) (first ++ rest) ≡ rest = drop_front first rest in
    let only : ranged s (length first) rest ≡ (s, length first) = alone s (length first) rest ends in
    rw (one, left, only, inactive) refl

pub begun_clocks_run : BegunClocksRun
begun_clocks_run now opening end day time ends =
    let stamp = stamp_text (moment_stamp now) in
    let text = stamp ++ end in
    let gap = indent_of opening in
    let is = printed now day time in
    let read : clock_stamp (gap ++ (codes "CLOCK:" ++ (codes " " ++ text))) ≡ Some (moment_stamp now) =
    clock_read gap (codes " ") text (gap_front opening) refl (single_begins stamp end (moment_stamp now) is refl)
    ∙ single_read stamp end (moment_stamp now) is refl ends in
    ap (option_map (λ (s : Stamp). record { from = minute_of_pair (s.day, s.time); to = option_map minute_of_pair s.last })) read

-- a stamp ends in its line
pub stamp_end_within : (line : List ℕ) → stamp_end line ≤ length line
stamp_end_within line =
    let rest = from_stamp line in
    let short : length rest ≤ length line = simp length-drop (omega arith) in
    let stamp : stamp_len rest ≤ length rest = stamp_within rest (single_of rest) refl in
    omega arith
  where
    stamp_within : (rest : List ℕ) (found : Option (Stamp × ℕ)) → single_of rest ≡ found → unwrap_or (option_map (λ f. f.1) found) 0 ≤ length rest
    stamp_within rest None is = omega arith
    stamp_within rest (Some found) is = (single_found rest found.0 found.1 is).0
