-- A heading that is added to a text, among its sections.
use Rattle.std.proofs.Common.{◌≡◌, ◌⊎◌, ◌∙◌, ℕ, Bool, zero, suc, ◌+◌, ◌-◌, ◌<◌, ◌≤◌, true, false, ◌==◌, ◌&&◌, inl, inr, List, [], ◌∷◌, ◌++◌, length, take, drop, get_or, refl, sym, ap, subst, arith, length-drop, length-take, append_assoc, append-nil}
use Rattle.std.specs.Prelude.{Option, Some, None, Result, Ok, Err, if◌then◌else◌, nat_le, slice_index}
use Rattle.std.specs.List.{concat, flat_map}
use Rattle.std.proofs.lemmas.Bool.{and_parts, cases_Bool, eqb-true}
use Rattle.std.proofs.lemmas.Bool.Decides.{nat_tests}
use Rattle.std.proofs.lemmas.List.{drop-drop, take-append-drop}
use Rattle.std.proofs.Math.Seq.{take-add}
use Rattle.org_act.specs.Adding.{added_at, added_in, added_text, at_level, break_of, end_below, gap_behind, last_spot, spot_at, spot_below, spot_of, with_entry}
use Rattle.org_act.specs.AddingLaws.{AreDeeper, EndsBelow, HeadingsAreAdded, IsAdded, IsLastBelow, IsPlace}
use Rattle.org_act.specs.Lines.{first_line, has_feed, heading_at, subtree_end}
use Rattle.org_act.specs.PlanningLaws.{IsGap}
use Rattle.org_act.specs.declared.addition.Addition.{Addition}
use Rattle.org_act.specs.declared.addition.Spot.{Spot}
use Rattle.org_act.proofs.LineLemmas.{parts}
use Rattle.org_act.proofs.PlanLemmas.{sized_is}
use Rattle.org_act.proofs.PlanningLemmas.{heading_there, if_sized_is, some_or_none, split}
use Rattle.org_amend.specs.Entries.{entry_text}
use Rattle.org_amend.specs.EntryLaws.{IsDateOrNone}
use Rattle.org_amend.specs.declared.head.Unreadable.{Unreadable}
use Rattle.org_amend.proofs.EntryLemmas.{entries_are_read_back}
use Rattle.org_base.specs.declared.fault.Fault.{Fault}
use Rattle.org_class.specs.Classes.{section_settings, setting_lines}
use Rattle.org_class.specs.Heading.{begins_heading, stars}
use Rattle.org_class.specs.Sections.{ends_line, is_cut, is_headed, sections}
use Rattle.org_class.proofs.Boundaries.{ends_line-append}
use Rattle.org_class.proofs.Cuts.{cuts_into_sections, setting_lines_of_sections}
use Rattle.org_class.proofs.HeadingLemmas.{heading_front}
use Rattle.org_class.proofs.Runs.{first_line_headed}
use Rattle.org_complete.specs.Completion.{sized}
use Rattle.org_lines.specs.Cuts.{lines}
use Rattle.org_store.specs.Outline.{file_settings}
use Rattle.org_stamp.proofs.SpacedLemmas.{drop_front, take_front}
use Rattle.org_text.specs.Replace.{replace}

-- a text whose last byte is a line feed ends with a line

pub feed_ends : (l : List ℕ) → has_feed l ≡ true → ends_line l ≡ true
feed_ends [] h = refl
feed_ends (b ∷ []) h = h
feed_ends (b ∷ c ∷ bs) h =
    let last : length (b ∷ c ∷ bs) - 1 ≡ suc (length (c ∷ bs) - 1) = omega arith in
    feed_ends (c ∷ bs) (subst (λ (k : ℕ). (slice_index (b ∷ c ∷ bs) k == 10) ≡ true) last h)

-- the first line of a text is a heading line where the text begins with one
first_headed : (text : List ℕ) → begins_heading (first_line text) ≡ true → begins_heading text ≡ true
first_headed text h = by (lines text) refl h
  where
    by : (ls : List (List ℕ)) → lines text ≡ ls → begins_heading (get_or ls 0 []) ≡ true → begins_heading text ≡ true
    by [] e h = absurd (let wrong : false ≡ true = h in cc)
    by (l ∷ ls) e h = sym (first_line_headed text) ∙ (ap is_headed e ∙ h)

-- where a subtree ends the text ends, or a heading begins that is no deeper; all before it are

pub record IsEnd (level at : ℕ) (text : List ℕ) (k : ℕ) : Type 0 where
  pub from : at ≤ k
  pub within : k - at ≤ length text
  pub cut : (drop (k - at) text ≡ []) ⊎ (begins_heading (drop (k - at) text) ≡ true)
  pub between : List (List ℕ)
  pub lines_are : lines text ≡ between ++ lines (drop (k - at) text)
  pub bytes_are : concat between ≡ take (k - at) text
  pub deeper : AreDeeper level between
  pub ends : EndsBelow level (drop (k - at) text)

no_deeper : (s level : ℕ) → nat_le s level ≡ true → s ≤ level
no_deeper s level le = grind (arith, nat_tests)

deeper : (s level : ℕ) → nat_le s level ≡ false → level < s
deeper s level other = grind (arith, nat_tests)

is_deeper : (b : Bool) (s level : ℕ) → (b && nat_le s level) ≡ false → b ≡ true → level < s
is_deeper true s level other is = deeper s level other
is_deeper false s level other is = absurd (let wrong : false ≡ true = is in cc)

-- the first line of a text is its front
front_line : (text : List ℕ) → take (length (first_line text)) text ≡ first_line text
front_line text =
    ap (λ t. take (length (first_line text)) t) (split text) ∙ take_front (first_line text) (drop (length (first_line text)) text)

end_none : (level at : ℕ) (text : List ℕ) → text ≡ [] → subtree_end level at (lines text) ≡ at
unfolding subtree_end
end_none level at text none = ap (λ (t : List ℕ). subtree_end level at (lines t)) none

end_step : (level at : ℕ) (text : List ℕ) → 0 < length text → subtree_end level at (lines text)
    ≡ (if begins_heading (first_line text) && nat_le (stars (first_line text)) level then at else subtree_end level (at + length (first_line text)) (lines (drop (length (first_line text)) text)))
unfolding subtree_end
end_step level at text some = ap (subtree_end level at) (parts text some).lines_are

moved : (a b : List ℕ) → a ≡ b → (a ≡ []) ⊎ (begins_heading a ≡ true) → (b ≡ []) ⊎ (begins_heading b ≡ true)
moved a b same (inl none) = inl (sym same ∙ none)
moved a b same (inr begins) = inr (subst (λ (t : List ℕ). begins_heading t ≡ true) same begins)

end_empty : (level at : ℕ) (text : List ℕ) → text ≡ [] → IsEnd level at text (subtree_end level at (lines text))
end_empty level at text none =
    let e = end_none level at text none in
    let zero' : at - at ≡ 0 = omega arith in
    subst (IsEnd level at text) (sym e) (record {
      from = omega arith;
      within = omega arith;
      cut = inl (ap (λ j. drop j text) zero' ∙ none);
      between = [];
      lines_are = sym (ap (λ j. lines (drop j text)) zero');
      bytes_are = sym (ap (λ j. take j text) zero');
      deeper = tt;
      ends = inl (ap (λ j. drop j text) zero' ∙ none);
    })

end_by : (m level at : ℕ) (text : List ℕ) → length text ≤ m → IsEnd level at text (subtree_end level at (lines text))
end_by zero level at text few = elim (some_or_none text) [
  | inl none ↦ end_empty level at text none
  | inr some ↦ absurd (omega (arith, few, some))
]
end_by (suc m) level at text few = elim (some_or_none text) [
  | inl none ↦ end_empty level at text none
  | inr some ↦
      let p = parts text some in
      let h = first_line text in
      let rest = drop (length h) text in
      let step = end_step level at text some in
      elim (cases_Bool (begins_heading h && nat_le (stars h) level)) [
        | inl here ↦
            let e : subtree_end level at (lines text) ≡ at = step ∙ (rw here refl) in
            let both = and_parts (begins_heading h) (nat_le (stars h) level) here in
            let none : at - at ≡ 0 = omega arith in
            subst (IsEnd level at text) (sym e) (record {
              from = omega arith;
              within = omega arith;
              cut = inr (subst (λ j. begins_heading (drop j text) ≡ true) (sym none) (first_headed text both.0));
              between = [];
              lines_are = sym (ap (λ j. lines (drop j text)) none);
              bytes_are = sym (ap (λ j. take j text) none);
              deeper = tt;
              ends = subst (λ j. EndsBelow level (drop j text)) (sym none) (inr (both.0, no_deeper (stars h) level both.1));
            })
        | inr there ↦
            let k = subtree_end level (at + length h) (lines rest) in
            let e : subtree_end level at (lines text) ≡ k = step ∙ (rw there refl) in
            let size : length rest ≡ length text - length h = length-drop (length h) text in
            let next = end_by m level (at + length h) rest (omega (arith, size, few, p.some)) in
            let sum : length h + (k - (at + length h)) ≡ k - at = omega (arith, next.from) in
            let same : drop (k - (at + length h)) rest ≡ drop (k - at) text = drop-drop (k - (at + length h)) (length h) text ∙ ap (λ j. drop j text) sum in
            subst (IsEnd level at text) (sym e) (record {
              from = omega (arith, next.from);
              within = omega (arith, next.within, size, next.from, p.within);
              cut = moved (drop (k - (at + length h)) rest) (drop (k - at) text) same next.cut;
              between = h ∷ next.between;
              lines_are = p.lines_are ∙ (ap (λ ls. h ∷ ls) next.lines_are ∙ ap (λ t. h ∷ (next.between ++ lines t)) same);
              bytes_are =
                  ap (λ front. front ++ concat next.between) (sym (front_line text))
                  ∙ (ap (λ bs. take (length h) text ++ bs) next.bytes_are
                  ∙ (sym (take-add (length h) (k - (at + length h)) text) ∙ ap (λ n. take n text) sum));
              deeper = (is_deeper (begins_heading h) (stars h) level there, next.deeper);
              ends = subst (EndsBelow level) same next.ends;
            })
      ]
]

first_short : (text : List ℕ) → length (first_line text) ≤ length text
first_short text = elim (some_or_none text) [
  | inl none ↦ subst (λ (t : List ℕ). length (first_line t) ≤ length t) (sym none) (omega arith)
  | inr some ↦ (parts text some).within
]

-- a place among the lines of a text: it may be cut there

record IsSpot (text : List ℕ) (at : ℕ) : Type 0 where
  pub within : at ≤ length text
  pub cut : (drop at text ≡ []) ⊎ (begins_heading (drop at text) ≡ true)

all_dropped : (text : List ℕ) → drop (length text) text ≡ []
all_dropped [] = refl
all_dropped (b ∷ bs) = all_dropped bs

below_spot : (text : List ℕ) (at : ℕ) → at ≤ length text → IsSpot text (end_below text (first_line (drop at text)) at)
below_spot text at le =
    let tail = drop at text in
    let h = first_line tail in
    let from = at + length h in
    let size : length tail ≡ length text - at = length-drop at text in
    let short : length h ≤ length tail = first_short tail in
    let rest = drop from text in
    let left : length rest ≡ length text - from = length-drop from text in
    let e = end_by (length rest) (stars h) from rest (omega arith) in
    let k = subtree_end (stars h) from (lines rest) in
    let sum : from + (k - from) ≡ k = omega (arith, e.from) in
    let same : drop (k - from) rest ≡ drop k text = drop-drop (k - from) from text ∙ ap (λ j. drop j text) sum in
    record { within = omega (arith, e.within, e.from, left, size, short, le); cut = moved (drop (k - from) rest) (drop k text) same e.cut }

spot_there : (text : List ℕ) (under : Option ℕ) (spot : Spot) → spot_of text under ≡ Some spot → IsSpot text spot.at
unfolding spot_of
spot_there text None spot e =
    let same : last_spot text ≡ spot = cc in
    subst (λ (s : Spot). IsSpot text s.at) same (record { within = omega arith; cut = inl (all_dropped text) })
spot_there text (Some line) spot e = by (heading_at text line) refl e
  where
    by : (found : Option ℕ) → heading_at text line ≡ found → spot_at text found ≡ Some spot → IsSpot text spot.at
    by None place made = absurd cc
    by (Some at) place made =
        let same : spot_below text (first_line (drop at text)) at ≡ spot = cc in
        subst (λ (s : Spot). IsSpot text s.at) same (below_spot text at (heading_there text line at place).0)

-- the text before, with what is put behind it, may be cut before a heading

some_len : (b : ℕ) (bs : List ℕ) → (length (b ∷ bs) == 0) ≡ false
some_len b bs = elim (cases_Bool (length (b ∷ bs) == 0)) [
  | inl e ↦ absurd (let wrong = eqb-true (length (b ∷ bs)) 0 e in omega arith)
  | inr e ↦ e
]

with_feed : (b : ℕ) (bs : List ℕ) → has_feed (b ∷ bs) ≡ true → gap_behind (b ∷ bs) ≡ []
unfolding gap_behind
with_feed b bs feed = rw (some_len b bs, feed) refl

without_feed : (b : ℕ) (bs : List ℕ) → has_feed (b ∷ bs) ≡ false → gap_behind (b ∷ bs) ≡ 10 ∷ []
unfolding gap_behind
without_feed b bs other = rw (some_len b bs, other) refl

gap_case : (front : List ℕ) → (front ++ gap_behind front ≡ []) ⊎ (ends_line (front ++ gap_behind front) ≡ true)
unfolding gap_behind
gap_case [] = inl refl
gap_case (b ∷ bs) = elim (cases_Bool (has_feed (b ∷ bs))) [
  | inl feed ↦ inr (let none : gap_behind (b ∷ bs) ≡ [] = with_feed b bs feed in ap (λ g. ends_line ((b ∷ bs) ++ g)) none ∙ (ap ends_line (append-nil (b ∷ bs)) ∙ feed_ends (b ∷ bs) feed))
  | inr other ↦ inr (let one : gap_behind (b ∷ bs) ≡ 10 ∷ [] = without_feed b bs other in ap (λ g. ends_line ((b ∷ bs) ++ g)) one ∙ ends_line-append (b ∷ bs) [] 10)
]

gap_line : (front : List ℕ) → IsGap (gap_behind front)
unfolding gap_behind
gap_line [] = inl refl
gap_line (b ∷ bs) = elim (cases_Bool (has_feed (b ∷ bs))) [
  | inl feed ↦ inl (with_feed b bs feed)
  | inr other ↦ inr (without_feed b bs other)
]

-- the place is behind all, or behind all that is below a heading

headed_some : (text : List ℕ) → begins_heading (first_line text) ≡ true → 0 < length text
headed_some text begins = elim (some_or_none text) [
  | inl none ↦ absurd (let wrong : false ≡ true = subst (λ (t : List ℕ). begins_heading (first_line t) ≡ true) none begins in cc)
  | inr some ↦ some
]

last_below : (text : List ℕ) (line at : ℕ) → heading_at text line ≡ Some at →
    IsLastBelow text (take (end_below text (first_line (drop at text)) at) text) (drop (end_below text (first_line (drop at text)) at) text) (stars (first_line (drop at text)) + 1) line
last_below text line at place =
    let there = heading_there text line at place in
    let tail = drop at text in
    let h = first_line tail in
    let from = at + length h in
    let rest = drop from text in
    let e = end_by (length rest) (stars h) from rest (omega arith) in
    let k = subtree_end (stars h) from (lines rest) in
    let j = k - from in
    let sum : from + j ≡ k = omega (arith, e.from) in
    let whole : at + (length h + j) ≡ k = omega (arith, e.from) in
    let same : drop j rest ≡ drop k text = drop-drop j from text ∙ ap (λ n. drop n text) sum in
    let behind : drop (length h) tail ≡ rest = drop-drop (length h) at text in
    let front : length (take at text) ≡ at = omega (arith, length-take at text, there.0) in
    record {
      before = take at text;
      heading = h;
      below = e.between;
      heading_is = place ∙ ap Some (sym front);
      begins = there.1;
      front_is =
          ap (λ n. take n text) (sym whole)
          ∙ (take-add at (length h + j) text
          ∙ ap (λ bs. take at text ++ bs) (take-add (length h) j tail
          ∙ (ap (λ bs. bs ++ take j (drop (length h) tail)) (front_line tail)
          ∙ ap (λ bs. h ++ bs) (ap (take j) behind ∙ sym e.bytes_are))));
      lines_are =
          ap (λ n. lines (drop n text)) front
          ∙ ((parts tail (headed_some tail there.1)).lines_are
          ∙ (ap (λ t. h ∷ lines t) behind
          ∙ (ap (λ ls. h ∷ ls) e.lines_are ∙ ap (λ t. h ∷ (e.between ++ lines t)) same)));
      deeper = e.deeper;
      ends = subst (EndsBelow (stars h)) same e.ends;
      level_is = refl;
    }

place_there : (text : List ℕ) (under : Option ℕ) (spot : Spot) → spot_of text under ≡ Some spot → IsPlace text (take spot.at text) (drop spot.at text) spot.level under
unfolding spot_of
place_there text None spot e =
    let same : last_spot text ≡ spot = cc in
    subst (λ (s : Spot). IsPlace text (take s.at text) (drop s.at text) s.level None) same (all_dropped text, refl)
place_there text (Some line) spot e = by (heading_at text line) refl e
  where
    by : (found : Option ℕ) → heading_at text line ≡ found → spot_at text found ≡ Some spot → IsPlace text (take spot.at text) (drop spot.at text) spot.level (Some line)
    by None place made = absurd cc
    by (Some at) place made =
        let same : spot_below text (first_line (drop at text)) at ≡ spot = cc in
        subst (λ (s : Spot). IsPlace text (take s.at text) (drop s.at text) s.level (Some line)) same (last_below text line at place)

cut_before : (front own back : List ℕ) → begins_heading own ≡ true → has_feed own ≡ true → is_cut (front ++ gap_behind front) (own ++ back) ≡ true
cut_before front [] back begins ends = absurd (let wrong : false ≡ true = begins in cc)
cut_before front (x ∷ own) back begins ends =
    by (front ++ gap_behind front) (gap_case front)
  where
    by : (f : List ℕ) → (f ≡ []) ⊎ (ends_line f ≡ true) → is_cut f ((x ∷ own) ++ back) ≡ true
    by [] h = refl
    by (y ∷ f) (inl none) = absurd (let wrong = none in cc)
    by (y ∷ f) (inr line) = rw (line, heading_front own back x (feed_ends (x ∷ own) ends) ∙ begins) refl

cut_behind : (own back : List ℕ) → has_feed own ≡ true → (back ≡ []) ⊎ (begins_heading back ≡ true) → is_cut own back ≡ true
cut_behind [] back ends h = refl
cut_behind (x ∷ own) [] ends h = refl
cut_behind (x ∷ own) (y ∷ back) ends (inl none) = absurd (let wrong = none in cc)
cut_behind (x ∷ own) (y ∷ back) ends (inr begins) = rw (feed_ends (x ∷ own) ends, begins) refl

settings_one : (own : List ℕ) → sections own ≡ own ∷ [] → section_settings own ≡ [] → setting_lines own ≡ []
settings_one own one none = ap (flat_map section_settings) one ∙ (append-nil (section_settings own) ∙ none)

put_there : (front back gap own : List ℕ) → replace (front ++ back) (length front) 0 (gap ++ own) ≡ (front ++ gap) ++ (own ++ back)
put_there front back gap own =
    let zero' : length front + 0 ≡ length front = omega arith in
    ap (λ t. (t ++ (gap ++ own)) ++ drop (length front + 0) (front ++ back)) (take_front front back)
    ∙ (ap (λ k. (front ++ (gap ++ own)) ++ drop k (front ++ back)) zero'
    ∙ (ap (λ r. (front ++ (gap ++ own)) ++ r) (drop_front front back)
    ∙ (ap (λ t. t ++ back) (sym (append_assoc front gap own)) ∙ append_assoc (front ++ gap) own back)))

added_is : (a : Addition) (text new own : List ℕ) (spot : Spot) → IsDateOrNone a.entry.scheduled → IsDateOrNone a.entry.deadline → spot_of text a.under ≡ Some spot →
    entry_text (file_settings (text ++ a.behind.now)) (at_level a.entry spot.level) (break_of text) ≡ Ok own →
    new ≡ replace text spot.at 0 (gap_behind (take spot.at text) ++ own) → IsAdded a text new
added_is a text new own spot s d place written is =
    let there = spot_there text a.under spot place in
    let front = take spot.at text in
    let back = drop spot.at text in
    let gap = gap_behind front in
    let size : length front ≡ spot.at = omega (arith, length-take spot.at text, there.within) in
    let text_is : text ≡ front ++ back = sym (take-append-drop spot.at text) in
    let read = entries_are_read_back (file_settings (text ++ a.behind.now)) (at_level a.entry spot.level) (break_of text) own s d written in
    let new_is : new ≡ (front ++ gap) ++ (own ++ back) =
    is ∙ (ap (λ t. replace t spot.at 0 (gap ++ own)) text_is ∙ (ap (λ k. replace (front ++ back) k 0 (gap ++ own)) (sym size) ∙ put_there front back gap own)) in
    let before = cut_before front own back read.begins read.ends in
    let behind = cut_behind own back read.ends there.cut in
    record {
      front = front;
      gap = gap;
      own = own;
      back = back;
      level = spot.level;
      text_is = text_is;
      place = place_there text a.under spot place;
      gap_is = gap_line front;
      new_is = new_is;
      read = read;
      sections_are =
          ap sections new_is ∙ (cuts_into_sections (front ++ gap) (own ++ back) before
          ∙ ap (λ ss. sections (front ++ gap) ++ ss) (cuts_into_sections own back behind ∙ ap (λ ss. ss ++ sections back) read.one));
      settings_are =
          ap setting_lines new_is ∙ (setting_lines_of_sections (front ++ gap) (own ++ back) before
          ∙ ap (λ ss. setting_lines (front ++ gap) ++ ss) (setting_lines_of_sections own back behind ∙ ap (λ ss. ss ++ setting_lines back) (settings_one own read.one read.no_settings)));
    }

with_lines : (a : Addition) (text new : List ℕ) (spot : Spot) (r : Result (List ℕ) Unreadable) → IsDateOrNone a.entry.scheduled → IsDateOrNone a.entry.deadline → spot_of text a.under ≡ Some spot →
    entry_text (file_settings (text ++ a.behind.now)) (at_level a.entry spot.level) (break_of text) ≡ r → with_entry text spot.at r ≡ Ok new → IsAdded a text new
with_lines a text new spot (Err why) s d place written e = absurd cc
with_lines a text new spot (Ok own) s d place written e =
    added_is a text new own spot s d place written (if_sized_is (replace text spot.at 0 (gap_behind (take spot.at text) ++ own)) new e)

with_spot : (a : Addition) (text new : List ℕ) (found : Option Spot) → IsDateOrNone a.entry.scheduled → IsDateOrNone a.entry.deadline → spot_of text a.under ≡ found →
    added_at a text (file_settings (text ++ a.behind.now)) found ≡ Ok new → IsAdded a text new
with_spot a text new None s d place e = absurd cc
with_spot a text new (Some spot) s d place e = with_lines a text new spot (entry_text (file_settings (text ++ a.behind.now)) (at_level a.entry spot.level) (break_of text)) s d place refl e

with_whole : (a : Addition) (text new : List ℕ) (r : Result (List ℕ) Fault) → IsDateOrNone a.entry.scheduled → IsDateOrNone a.entry.deadline → sized (text ++ a.behind.now) ≡ r → added_in a text r ≡ Ok new → IsAdded a text new
with_whole a text new (Err fault) s d is e = absurd cc
with_whole a text new (Ok whole) s d is e =
    let same : whole ≡ text ++ a.behind.now = sized_is (text ++ a.behind.now) whole is in
    with_spot a text new (spot_of text a.under) s d refl (subst (λ (w : List ℕ). added_at a text (file_settings w) (spot_of text a.under) ≡ Ok new) same e)

pub headings_are_added : HeadingsAreAdded
unfolding added_text
headings_are_added a text new s d e = with_whole a text new (sized (text ++ a.behind.now)) s d refl e
