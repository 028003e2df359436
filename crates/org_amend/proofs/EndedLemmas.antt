-- The section of a heading whose running clock gets its end.
use Rattle.std.proofs.Common.{◌≡◌, ◌∙◌, inl, inr, ℕ, suc, ◌+◌, ◌-◌, ◌<◌, ◌≤◌, ◌==◌, Bool, true, false, List, [], ◌∷◌, ◌++◌, length, take, drop, refl, sym, ap, subst, arith, codes, append_assoc, append-nil, length-append, length-take}
use Rattle.std.specs.Prelude.{Option, Some, None, slice_get}
use Rattle.std.specs.List.{concat, list_any}
use Rattle.std.specs.Option.{option_map}
use Rattle.std.proofs.lemmas.Bool.{cases_Bool}
use Rattle.std.proofs.lemmas.List.{take-append-drop, take-take}
use Rattle.std.proofs.lemmas.List.Folds.{concat-append}
use Rattle.org_amend.specs.Clocks.{end_text, first_running, minute_at, or_later, running_line, running_of, since, stamp_end}
use Rattle.org_amend.specs.EndLaws.{OneClockEnds}
use Rattle.org_amend.specs.Laws.{with_text}
use Rattle.org_amend.specs.declared.running.RunningClock.{RunningClock}
use Rattle.org_amend.proofs.BodyLemmas.{IsTail}
use Rattle.org_amend.proofs.ClockLineLemmas.{body_line, clock_class, clock_no_hash, clock_quiet, clock_read_is, ends_no_block}
use Rattle.org_amend.proofs.CutLemmas.{back_lines, first_ended, front_lines_are}
use Rattle.org_amend.proofs.EndLemmas.{ended_clocks_are_read, since_is, size_of, split_line, stamp_end_within}
use Rattle.org_amend.proofs.FeedLemmas.{end_has, feeds, feeds_end, line_feeds, none_in, none_taken, only_part, put_before_line, without_front}
use Rattle.org_amend.proofs.LocatedLemmas.{located}
use Rattle.org_amend.proofs.RunningLemmas.{found_clocks_run}
use Rattle.org_amend.proofs.ReplacedLemmas.{replaced}
use Rattle.org_base.specs.Spans.{bytes_in}
use Rattle.org_class.proofs.LineLemmas.{first_line}
use Rattle.org_class.specs.Blocks.{body_classes, ends_block}
use Rattle.org_class.specs.Classes.{classes, section_classes}
use Rattle.org_class.specs.Sections.{ends_line}
use Rattle.org_class.proofs.Boundaries.{ends_line-append}
use Rattle.org_class.specs.declared.class.Class.{Class}
use Rattle.org_class.specs.declared.class.Class.TheVariants.{Heading, Planning, DrawerOpen, Node, DrawerEnd, Clock, Setting, Comment, BlockOpen, Verbatim, BlockEnd, Plain}
use Rattle.org_lines.specs.Cuts.{lines}
use Rattle.org_lines.proofs.LineLemmas.{concat-lines}
use Rattle.org_stamp.proofs.SpacedLemmas.{drop_front, take_front}

-- up to the end of its stamp a clock's line has no line feed
stamped_feeds : (t line : List ℕ) (ls : List (List ℕ)) (from : ℕ) → lines t ≡ line ∷ ls → since line ≡ Some from → feeds (take (stamp_end line) line) ≡ false
stamped_feeds t line ls from first runs =
    let h = split_line line from runs in
    let inner = h.parts.stamp_is.inner in
    let w : List ℕ = h.gap ++ (codes "CLOCK:" ++ (h.between ++ 91 ∷ inner)) in
    let inactive = h.parts.inactive in
    let stamp : h.stamp ≡ 91 ∷ (inner ++ 93 ∷ []) = rw inactive at h.parts.stamp_is.bytes_is in
    let joins : (x : List ℕ) → w ++ x ≡ h.gap ++ (codes "CLOCK:" ++ (h.between ++ ((91 ∷ inner) ++ x))) = λ x.
    append_assoc h.gap (codes "CLOCK:" ++ (h.between ++ 91 ∷ inner)) x
    ∙ (ap (λ y. h.gap ++ y) (append_assoc (codes "CLOCK:") (h.between ++ 91 ∷ inner) x)
    ∙ ap (λ y. h.gap ++ (codes "CLOCK:" ++ y)) (append_assoc h.between (91 ∷ inner) x)) in
    let behind : h.stamp ++ h.rest ≡ (91 ∷ inner) ++ (93 ∷ h.rest) = ap (λ x. x ++ h.rest) stamp ∙ ap (λ x. 91 ∷ x) (append_assoc inner (93 ∷ []) h.rest) in
    let is : line ≡ w ++ (93 ∷ h.rest) = h.parts.line_is ∙ (ap (λ x. h.gap ++ (codes "CLOCK:" ++ (h.between ++ x))) behind ∙ sym (joins (93 ∷ h.rest))) in
    let size : length line ≡ length w + suc (length h.rest) = ap length is ∙ length-append w (93 ∷ h.rest) in
    let count : length h.stamp ≡ suc (length inner + 1) = ap length stamp ∙ ap suc (length-append inner (93 ∷ [])) in
    let whole : length w ≡ length h.gap + (6 + (length h.between + suc (length inner))) = size_of h.gap h.between (91 ∷ inner) in
    let end : stamp_end line ≡ length (w ++ 93 ∷ []) = omega (arith, h.end_is, count, whole, length-append w (93 ∷ [])) in
    let taken : take (stamp_end line) line ≡ w ++ 93 ∷ [] =
    ap (λ k. take k line) end ∙ (ap (take (length (w ++ 93 ∷ []))) (is ∙ sym (append_assoc w (93 ∷ []) h.rest)) ∙ take_front (w ++ 93 ∷ []) h.rest) in
    let front : take (length w) (take (length line - 1) line) ≡ w =
    take-take (length w) (length line - 1) line (omega (arith, size)) ∙ (ap (take (length w)) is ∙ take_front w (93 ∷ h.rest)) in
    let none : feeds w ≡ false = subst (λ x. feeds x ≡ false) front (none_taken (length w) (take (length line - 1) line) (line_feeds t line ls first)) in
    subst (λ x. feeds x ≡ false) (sym taken) (none_in w (93 ∷ []) none refl)

-- the lines from the clock's on, with its end

fed_line : (f : List ℕ) → feeds (f ++ 10 ∷ []) ≡ false → ⊥
fed_line [] h = cc
fed_line (b ∷ f) h = elim (cases_Bool (b == 10)) [
  | inl e ↦ (let wrong : true ≡ false = rw e at h in cc)
  | inr e ↦ fed_line f (rw e at h)
]

ended_lines : (t line text : List ℕ) (after : List (List ℕ)) (from : ℕ) → lines t ≡ line ∷ after → since line ≡ Some from → feeds text ≡ false →
    lines (take (stamp_end line) line ++ (text ++ (drop (stamp_end line) line ++ concat after))) ≡ with_text line (stamp_end line) text ∷ after
ended_lines t line text after from first runs none =
    let x = take (stamp_end line) line in
    let whole : line ≡ x ++ drop (stamp_end line) line = sym (take-append-drop (stamp_end line) line) in
    by x (drop (stamp_end line) line) whole (stamped_feeds t line after from first runs) after first
  where
    by : (x y : List ℕ) → line ≡ x ++ y → feeds x ≡ false → (after : List (List ℕ)) → lines t ≡ line ∷ after → lines (x ++ (text ++ (y ++ concat after))) ≡ (x ++ (text ++ y)) ∷ after
    by x [] whole clean [] first =
        let is : line ≡ x = whole ∙ append-nil x in
        let text_is : t ≡ line = sym (concat-lines t) ∙ (ap concat first ∙ append-nil line) in
        let some = (first_line t line [] first).some in
        let long : 0 < length (x ++ (text ++ [])) = omega (arith, some, ap length is, length-append x (text ++ [])) in
        only_part (x ++ (text ++ [])) (none_in x (text ++ []) clean (none_in text [] none refl)) long
    by x [] whole clean (m ∷ ms) first =
        let e = first_ended t line m ms first in
        let is : x ≡ e.front ++ 10 ∷ [] = sym (append-nil x) ∙ (sym whole ∙ e.is) in
        absurd (fed_line e.front (subst (λ l. feeds l ≡ false) is clean))
    by x (b ∷ y) whole clean after first =
        let all : lines (x ++ ((b ∷ y) ++ concat after)) ≡ (x ++ b ∷ y) ∷ after =
        ap lines (sym (append_assoc x (b ∷ y) (concat after))) ∙ (ap (λ l. lines (l ++ concat after)) (sym whole) ∙ (back_lines t [] (line ∷ after) first ∙ ap (λ l. l ∷ after) whole)) in
        let behind = without_front x ((b ∷ y) ++ concat after) (b ∷ y) after clean (omega arith) all in
        let made = put_before_line (x ++ text) ((b ∷ y) ++ concat after) (b ∷ y) after (none_in x text clean none) behind in
        ap lines (sym (append_assoc x text ((b ∷ y) ++ concat after))) ∙ (made ∙ ap (λ l. l ∷ after) (append_assoc x text (b ∷ y)))

-- the section with the end in it
section_is : (a line text c : List ℕ) (s : List ℕ) (p e : ℕ) → s ≡ a ++ (line ++ c) → p ≡ length a + e → e ≤ length line → with_text s p text ≡ a ++ (take e line ++ (text ++ (drop e line ++ c)))
section_is a line text c s p e is place within =
    let x = take e line in
    let y = drop e line in
    let size : length x ≡ e = omega (arith, length-take e line, within) in
    let split : line ++ c ≡ x ++ (y ++ c) = ap (λ l. l ++ c) (sym (take-append-drop e line)) ∙ append_assoc x y c in
    let whole : s ≡ (a ++ x) ++ (y ++ c) = is ∙ (ap (λ l. a ++ l) split ∙ sym (append_assoc a x (y ++ c))) in
    let at : p ≡ length (a ++ x) = omega (arith, place, size, length-append a x) in
    let front : take p s ≡ a ++ x = ap (λ k. take k s) at ∙ (ap (take (length (a ++ x))) whole ∙ take_front (a ++ x) (y ++ c)) in
    let back : drop p s ≡ y ++ c = ap (λ k. drop k s) at ∙ (ap (drop (length (a ++ x))) whole ∙ drop_front (a ++ x) (y ++ c)) in
    ap (λ f. f ++ (text ++ drop p s)) front ∙ (ap (λ b. (a ++ x) ++ (text ++ b)) back ∙ append_assoc a x (text ++ (y ++ c)))

-- where the section ended with a line, it does so still

ends_behind : (a x t : List ℕ) (back : List ℕ) → (back ≡ [] → ends_line (a ++ (x ++ [])) ≡ false) → ends_line (a ++ (x ++ back)) ≡ true → ends_line (a ++ (x ++ (t ++ back))) ≡ true
ends_behind a x t [] none ends = absurd (let wrong : false ≡ true = sym (none refl) ∙ ends in cc)
ends_behind a x t (z ∷ back) none ends =
    ap ends_line (sym (append_assoc a x (t ++ z ∷ back)) ∙ sym (append_assoc (a ++ x) t (z ∷ back)))
    ∙ (ends_line-append ((a ++ x) ++ t) back z ∙ (sym (ends_line-append (a ++ x) back z) ∙ (ap ends_line (append_assoc a x (z ∷ back)) ∙ ends)))

no_end : (a x : List ℕ) → 0 < length x → feeds x ≡ false → ends_line (a ++ (x ++ [])) ≡ false
no_end a [] some none = absurd (omega (arith, some))
no_end a (w ∷ x) some none = ap (λ y. ends_line (a ++ y)) (append-nil (w ∷ x)) ∙ (ends_line-append a x w ∙ feeds_end (w ∷ x) some none)

nothing_left : (y c : List ℕ) → y ++ c ≡ [] → y ≡ []
nothing_left [] c e = refl
nothing_left (b ∷ y) c e = absurd cc

last_ends : (t s a line text c : List ℕ) (ls : List (List ℕ)) (from : ℕ) → lines t ≡ line ∷ ls → since line ≡ Some from → s ≡ a ++ (line ++ c) → ends_line s ≡ true →
    ends_line (a ++ (take (stamp_end line) line ++ (text ++ (drop (stamp_end line) line ++ c)))) ≡ true
last_ends t s a line text c ls from first runs is ends =
    let x = take (stamp_end line) line in
    let y = drop (stamp_end line) line in
    let whole : line ≡ x ++ y = sym (take-append-drop (stamp_end line) line) in
    let all : s ≡ a ++ (x ++ (y ++ c)) = is ∙ ap (λ l. a ++ l) (ap (λ l. l ++ c) whole ∙ append_assoc x y c) in
    ends_behind a x text (y ++ c) (λ none.
    let same : line ≡ x = whole ∙ (ap (λ r. x ++ r) (nothing_left y c none) ∙ append-nil x) in
    let some = (first_line t line ls first).some in
    no_end a x (omega (arith, some, ap length same)) (stamped_feeds t line ls from first runs)) (ap ends_line (sym all) ∙ ends)

-- that none runs doesn't depend on where the lines stand

none_line : (at to : ℕ) (l : List ℕ) (o : Option ℕ) → since l ≡ o → running_line at l ≡ None → running_line to l ≡ None
none_line at to l None was h = ap (option_map (λ from. record { at = to; len = length l; end = to + stamp_end l; from = from })) was
none_line at to l (Some from) was h = absurd (let wrong : ◌≡◌ {A = Option RunningClock} (Some (record { at = at; len = length l; end = at + stamp_end l; from = from })) None = rw was at h in cc)

none_of : (class : Option Class) (at to : ℕ) (l : List ℕ) → running_of class at l ≡ None → running_of class to l ≡ None
none_of None at to l h = refl
none_of (Some Clock) at to l h = none_line at to l (since l) refl h
none_of (Some Heading) at to l h = refl
none_of (Some Planning) at to l h = refl
none_of (Some DrawerOpen) at to l h = refl
none_of (Some Node) at to l h = refl
none_of (Some DrawerEnd) at to l h = refl
none_of (Some Setting) at to l h = refl
none_of (Some Comment) at to l h = refl
none_of (Some BlockOpen) at to l h = refl
none_of (Some Verbatim) at to l h = refl
none_of (Some BlockEnd) at to l h = refl
none_of (Some Plain) at to l h = refl

pub none_later : (a b : Option RunningClock) → or_later a b ≡ None → (a ≡ None) × (b ≡ None)
none_later None b h = (refl, h)
none_later (Some r) b h = absurd cc

none_moved : (cs : List Class) (place at to : ℕ) (ls : List (List ℕ)) → first_running cs place at ls ≡ None → first_running cs place to ls ≡ None
unfolding first_running
none_moved cs place at to [] h = refl
none_moved cs place at to (l ∷ ls) h =
    let both = none_later (running_of (slice_get cs place) at l) (first_running cs (place + 1) (at + length l) ls) h in
    let here = none_of (slice_get cs place) at to l both.0 in
    ap (λ o. or_later o (first_running cs (place + 1) (to + length l) ls)) here ∙ none_moved cs (place + 1) (at + length l) (to + length l) ls both.1

none_behind : (test : List ℕ → Bool) (l : List ℕ) (ls : List (List ℕ)) → list_any test (l ∷ ls) ≡ false → list_any test ls ≡ false
none_behind test l ls h = elim (cases_Bool (test l)) [
  | inl e ↦ absurd (let wrong : true ≡ false = rw e at h in cc)
  | inr e ↦ rw e at h
]

pub one_clock_ends : OneClockEnds
one_clock_ends text section clock now minutes within begins day time found =
    let s = bytes_in text section in
    let l = located text section clock begins (found_clocks_run (section_classes s) 0 section.at (lines s) clock found) in
    let put = end_text now minutes in
    let ended = with_text l.line (stamp_end l.line) put in
    let read = ended_clocks_are_read l.line clock.from minutes now day time l.runs in
    let is = clock_read_is ended (record { from = clock.from; to = Some (minute_at now) }) read in
    let no_hash = clock_no_hash ended is in
    let whole : s ≡ concat (l.h ∷ l.bs) ++ (l.line ++ concat l.after) = sym (concat-lines s) ∙ (ap concat l.lines_are ∙ concat-append (l.h ∷ l.bs) (l.line ∷ l.after)) in
    let place : clock.end - section.at ≡ length (concat (l.h ∷ l.bs)) + stamp_end l.line = omega (arith, l.end_is, l.at_is) in
    let made = section_is (concat (l.h ∷ l.bs)) l.line put (concat l.after) s (clock.end - section.at) (stamp_end l.line) whole place (stamp_end_within l.line) in
    let back : lines (concat (l.line ∷ l.after)) ≡ l.line ∷ l.after = back_lines s (l.h ∷ l.bs) (l.line ∷ l.after) l.lines_are in
    let rest = take (stamp_end l.line) l.line ++ (put ++ (drop (stamp_end l.line) l.line ++ concat l.after)) in
    let lines_are : lines (with_text s (clock.end - section.at) put) ≡ (l.h ∷ l.bs) ++ ended ∷ l.after =
    ap lines made
    ∙ (front_lines_are s l.line rest (l.h ∷ l.bs) l.after l.lines_are
    ∙ ap (λ ls. (l.h ∷ l.bs) ++ ls) (ended_lines (concat (l.line ∷ l.after)) l.line put l.after clock.from back l.runs (end_has now minutes))) in
    let tail : IsTail l.line l.after (ended ∷ l.after) (Clock ∷ body_classes None l.after) =
    record {
      classed = body_line ended l.after no_hash ∙ ap (λ c. c ∷ body_classes None l.after) (clock_class ended is);
      ends = λ name none. let own = ends_no_block name ended no_hash in rw own (none_behind (ends_block name) l.line l.after none);
    } in
    let there = ap (λ ls. slice_get (classes ls) (length (l.h ∷ l.bs))) (sym l.lines_are) ∙ l.class_is in
    let r = replaced l.h l.bs l.line l.after (ended ∷ l.after) Clock (Clock ∷ body_classes None l.after) l.begins refl tail (inr (clock_quiet ended l.after is)) there in
    record {
      before = l.h ∷ l.bs;
      line = l.line;
      ended = ended;
      after = l.after;
      before_classes = Heading ∷ r.before;
      after_classes = body_classes None l.after;
      lines_were = l.lines_are;
      lines_are = lines_are;
      classes_were = ap classes l.lines_are ∙ r.old;
      classes_are = ap classes lines_are ∙ r.new;
      before_size = ap suc r.size;
      last_ends = λ ends. ap ends_line made ∙ last_ends (concat (l.line ∷ l.after)) s (concat (l.h ∷ l.bs)) l.line put (concat l.after) l.after clock.from back l.runs whole ends;
      none_before = none_moved (section_classes s) 0 section.at 0 (l.h ∷ l.bs) l.none_before;
      ran = since_is l.line clock.from l.runs;
      ends = read;
    }
