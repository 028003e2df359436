-- A clock that is cancelled: what is left.
use Rattle.std.proofs.Common.{◌≡◌, ◌∙◌, inl, inr, ℕ, suc, ◌+◌, ◌≤◌, ◌==◌, true, false, List, [], ◌∷◌, ◌++◌, length, map, refl, sym, ap, subst, arith, append_assoc, append-nil, length-append}
use Rattle.std.specs.Prelude.{Some, None, slice_get}
use Rattle.std.specs.List.{AllByRecursion, concat, slice_range}
use Rattle.std.specs.Str.{IsUtf8, is_utf8}
use Rattle.std.proofs.lemmas.Bool.{and_parts, cases_Bool, eq-eqb, eqb-true}
use Rattle.std.proofs.lemmas.List.Elements.{recursion_from_All}
use Rattle.std.proofs.lemmas.Str.{is_utf8-from_IsUtf8}
use Rattle.org_amend.specs.CancelLaws.{AreKept, HasLost, OthersStay}
use Rattle.org_amend.specs.Cancelled.{but_end, cancelled_part, emptied_in, end_len, front_lines, guarded_part, has_front, section_without}
use Rattle.org_amend.proofs.BodyLemmas.{IsTail, body_front}
use Rattle.org_amend.proofs.CutLemmas.{HasEnd, IsCut, IsEnd, back_lines, cut_back, cut_front, cut_middle, end_line, end_of, first_ended, front_lines_are, front_text}
use Rattle.org_amend.proofs.GoesLemmas.{Goes, cut_of, found_goes}
use Rattle.org_amend.proofs.LocatedLemmas.{located}
use Rattle.org_amend.proofs.RunningLemmas.{found_clocks_run}
use Rattle.org_amend.proofs.ReplacedLemmas.{AreReplaced, IsQuiet, quiet_front, replaced}
use Rattle.org_base.specs.Spans.{bytes_in}
use Rattle.org_base.specs.Words.{is_blank}
use Rattle.org_base.specs.declared.span.Span.{Span}
use Rattle.org_class.specs.Blocks.{body_classes, ends_block}
use Rattle.org_class.specs.Classes.{classes, section_classes}
use Rattle.org_class.specs.Sections.{ends_line}
use Rattle.org_class.proofs.Boundaries.{ends_line-append}
use Rattle.org_class.specs.declared.class.Class.TheVariants.{Heading, Plain}
use Rattle.org_lines.specs.Cuts.{lines}
use Rattle.org_lines.proofs.LineLemmas.{utf8_lines}
use Rattle.org_stamp.specs.Pair.{pairs_from}

-- what is left of the section

left_is : (text : List ℕ) (section part : Span) (a b c : List ℕ) → IsCut text section a b c → part.at ≡ section.at + length a → part.len ≡ length b → section_without text section part ≡ a ++ c
left_is text section part a b c cut at len =
    let end : part.at + part.len ≡ section.at + length a + length b = omega (arith, at, len) in
    ap (λ k. slice_range text section.at k ++ slice_range text (part.at + part.len) (section.at + section.len)) at
    ∙ (ap (λ k. slice_range text section.at (section.at + length a) ++ slice_range text k (section.at + section.len)) end
    ∙ (ap (λ x. x ++ slice_range text (section.at + length a + length b) (section.at + section.len)) (cut_front text section a b c cut)
    ∙ ap (λ x. a ++ x) (cut_back text section a b c cut)))

part_is : (text : List ℕ) (section part : Span) (a b c : List ℕ) → IsCut text section a b c → part.at ≡ section.at + length a → part.len ≡ length b → bytes_in text part ≡ b
part_is text section part a b c cut at len =
    let end : part.at + part.len ≡ section.at + length a + length b = omega (arith, at, len) in
    ap (λ k. slice_range text k (part.at + part.len)) at ∙ (ap (slice_range text (section.at + length a)) end ∙ cut_middle text section a b c cut)

-- an empty line stays
end_left : (text : List ℕ) (section part : Span) (a b c : List ℕ) → IsCut text section a b c → part.at ≡ section.at + length a → part.len ≡ length b → (e : HasEnd b) →
    section_without text section (but_end text part) ≡ a ++ (e.end ++ c)
end_left text section part a b c cut at len e =
    let bytes = part_is text section part a b c cut at len in
    let split : b ++ c ≡ e.front ++ (e.end ++ c) = ap (λ x. x ++ c) e.is ∙ append_assoc e.front e.end c in
    let sizes : length b ≡ length e.front + length e.end = ap length e.is ∙ length-append e.front e.end in
    let whole : length (e.end ++ c) ≡ length e.end + length c = length-append e.end c in
    let shorter : IsCut text section a e.front (e.end ++ c) = record { is = cut.is ∙ ap (λ x. a ++ x) split; size = omega (arith, cut.size, sizes, whole) } in
    let ends : end_len (bytes_in text part) ≡ end_len b = ap end_len bytes in
    left_is text section (but_end text part) a e.front (e.end ++ c) shorter at (omega (arith, ends, len, e.front_len))

-- the classes

plain_end : (end : List ℕ) (after : List (List ℕ)) → IsEnd end → body_classes None (end ∷ after) ≡ Plain ∷ body_classes None after
plain_end end after (inl is) = ap (λ (e : List ℕ). body_classes None (e ∷ after)) is
plain_end end after (inr is) = ap (λ (e : List ℕ). body_classes None (e ∷ after)) is

end_ends : (name end : List ℕ) → IsEnd end → ends_block name end ≡ false
end_ends name end (inl is) = ap (ends_block name) is
end_ends name end (inr is) = ap (ends_block name) is

quiet_end : (end : List ℕ) (after : List (List ℕ)) → IsEnd end → IsQuiet (end ∷ after)
unfolding pairs_from
quiet_end end after (inl is) = subst (λ (e : List ℕ). IsQuiet (e ∷ after)) (sym is) (record { plans = refl; opens = refl; node = refl; ends = refl })
quiet_end end after (inr is) = subst (λ (e : List ℕ). IsQuiet (e ∷ after)) (sym is) (record { plans = refl; opens = refl; node = refl; ends = refl })

quiet_none : IsQuiet []
unfolding pairs_from
quiet_none = record { plans = refl; opens = refl; node = refl; ends = refl }

blank_end : (end : List ℕ) → IsEnd end → is_blank end ≡ true
blank_end end (inl is) = ap is_blank is
blank_end end (inr is) = ap is_blank is

-- the section that is left, with these lines in the place of those that go
lost : (text : List ℕ) (section : Span) (from : ℕ) (part : Span) (left : List ℕ) (kept : List (List ℕ)) (o : Goes text section from part) → AreKept kept → (ends_line (bytes_in text section) ≡ true → ends_line left ≡ true) → lines left ≡ (o.h ∷ o.bs) ++ (kept ++ o.after) →
    AreReplaced o.h o.bs o.g (o.gs ++ o.after) (kept ++ o.after) o.c (map (λ (l : List ℕ). Plain) kept ++ body_classes None o.after) → HasLost from (bytes_in text section) left
lost text section from part left kept o are ends lines_are r =
    let was : section_classes (bytes_in text section) ≡ Heading ∷ (r.before ++ o.c ∷ body_classes None (o.gs ++ o.after)) = ap classes o.lines_are ∙ r.old in
    let rest : o.c ∷ body_classes None (o.gs ++ o.after) ≡ (o.c ∷ o.gcs) ++ body_classes None o.after = ap (λ cs. o.c ∷ cs) o.behind in
    record {
      before = o.h ∷ o.bs;
      gone = o.g ∷ o.gs;
      kept = kept;
      after = o.after;
      before_classes = Heading ∷ r.before;
      gone_classes = o.c ∷ o.gcs;
      after_classes = body_classes None o.after;
      lines_were = o.lines_are;
      lines_are = lines_are;
      classes_were = was ∙ ap (λ cs. Heading ∷ (r.before ++ cs)) rest;
      classes_are = ap classes lines_are ∙ r.new;
      before_size = ap suc r.size;
      last_ends = ends;
      are_gone = o.gone;
      are_kept = are;
    }

-- the lines before go on with the lines behind
left_lines : (text : List ℕ) (section : Span) (from : ℕ) (part : Span) (o : Goes text section from part) (u : List ℕ) → lines (concat (o.h ∷ o.bs) ++ u) ≡ (o.h ∷ o.bs) ++ lines u
left_lines text section from part o u = front_lines_are (bytes_in text section) o.g u (o.h ∷ o.bs) (o.gs ++ o.after) o.lines_are

after_lines : (text : List ℕ) (section : Span) (from : ℕ) (part : Span) (o : Goes text section from part) → lines (concat o.after) ≡ o.after
after_lines text section from part o =
    back_lines (bytes_in text section) ((o.h ∷ o.bs) ++ (o.g ∷ o.gs)) o.after (o.lines_are ∙ sym (append_assoc (o.h ∷ o.bs) (o.g ∷ o.gs) o.after))

-- the last line that goes is ended, where more lines follow

record EndsFed (b : List ℕ) : Type 0 where
  front : List ℕ
  is : b ≡ front ++ 10 ∷ []

ends_fed : (t l g : List ℕ) (gs ys : List (List ℕ)) → lines t ≡ (g ∷ gs) ++ l ∷ ys → EndsFed (concat (g ∷ gs))
ends_fed t l g [] ys h = let e = first_ended t g l ys h in record { front = e.front; is = append-nil g ∙ e.is }
ends_fed t l g (x ∷ gs) ys h =
    let more = ends_fed (concat ((x ∷ gs) ++ l ∷ ys)) l x gs ys (back_lines t (g ∷ []) ((x ∷ gs) ++ l ∷ ys) h) in
    record { front = g ++ more.front; is = ap (λ b. g ++ b) more.is ∙ sym (append_assoc g more.front (10 ∷ [])) }

gone_end : (text : List ℕ) (section : Span) (from : ℕ) (part : Span) (o : Goes text section from part) (a : List ℕ) (as' : List (List ℕ)) → o.after ≡ a ∷ as' → HasEnd (concat (o.g ∷ o.gs))
gone_end text section from part o a as' is =
    let behind : lines (concat ((o.g ∷ o.gs) ++ o.after)) ≡ (o.g ∷ o.gs) ++ o.after = back_lines (bytes_in text section) (o.h ∷ o.bs) ((o.g ∷ o.gs) ++ o.after) o.lines_are in
    let fed = ends_fed (concat ((o.g ∷ o.gs) ++ o.after)) a o.g o.gs as' (behind ∙ ap (λ ls. (o.g ∷ o.gs) ++ ls) is) in
    end_of (concat (o.g ∷ o.gs)) fed.front fed.is

-- so the section ends with a line where it did

front_ends : (text : List ℕ) (section : Span) (from : ℕ) (part : Span) (o : Goes text section from part) → ends_line (concat (o.h ∷ o.bs)) ≡ true
front_ends text section from part o =
    let fed = ends_fed (bytes_in text section) o.g o.h o.bs (o.gs ++ o.after) o.lines_are in
    ap ends_line fed.is ∙ ends_line-append fed.front [] 10

end_behind : (s a b c : List ℕ) → s ≡ a ++ (b ++ c) → ends_line a ≡ true → ends_line s ≡ true → ends_line (a ++ c) ≡ true
end_behind s a b [] is front ends = ap ends_line (append-nil a) ∙ front
end_behind s a b (z ∷ c) is front ends = ends_line-append a c z ∙ (sym (ends_line-append (a ++ b) c z) ∙ (ap ends_line (append_assoc a b (z ∷ c) ∙ sym is) ∙ ends))

end_last : (s a b end c : List ℕ) → s ≡ a ++ (b ++ c) → ends_line (a ++ end) ≡ true → ends_line s ≡ true → ends_line ((a ++ end) ++ c) ≡ true
end_last s a b end [] is front ends = ap ends_line (append-nil (a ++ end)) ∙ front
end_last s a b end (z ∷ c) is front ends = ends_line-append (a ++ end) c z ∙ (sym (ends_line-append (a ++ b) c z) ∙ (ap ends_line (append_assoc a b (z ∷ c) ∙ sym is) ∙ ends))

ends_with : (a end : List ℕ) → IsEnd end → ends_line (a ++ end) ≡ true
ends_with a end (inl is) = ap (λ e. ends_line (a ++ e)) is ∙ ends_line-append a [] 10
ends_with a end (inr is) = ap (λ e. ends_line (a ++ e)) is ∙ ends_line-append a (10 ∷ []) 13

-- nothing stays in their place, or an empty line

there : (text : List ℕ) (section : Span) (from : ℕ) (part : Span) (o : Goes text section from part) → slice_get (classes (o.h ∷ (o.bs ++ o.g ∷ (o.gs ++ o.after)))) (length (o.h ∷ o.bs)) ≡ Some o.c
there text section from part o = ap (λ ls. slice_get (classes ls) (length (o.h ∷ o.bs))) (sym o.lines_are) ∙ o.class_is

whole_left : (text : List ℕ) (section : Span) (from : ℕ) (part : Span) → section.at + section.len ≤ length text → (o : Goes text section from part) → section_without text section part ≡ concat (o.h ∷ o.bs) ++ concat o.after
whole_left text section from part within o =
    left_is text section part (concat (o.h ∷ o.bs)) (concat (o.g ∷ o.gs)) (concat o.after) (cut_of text section (o.h ∷ o.bs) (o.g ∷ o.gs) o.after within o.lines_are) o.at_is o.len_is

whole_lines : (text : List ℕ) (section : Span) (from : ℕ) (part : Span) → section.at + section.len ≤ length text → (o : Goes text section from part) → lines (section_without text section part) ≡ (o.h ∷ o.bs) ++ o.after
whole_lines text section from part within o =
    ap lines (whole_left text section from part within o)
    ∙ (left_lines text section from part o (concat o.after) ∙ ap (λ ls. (o.h ∷ o.bs) ++ ls) (after_lines text section from part o))

whole_goes : (text : List ℕ) (section : Span) (from : ℕ) (part : Span) → section.at + section.len ≤ length text → (o : Goes text section from part) →
    has_front (section_without text section part) (front_lines (section_classes (bytes_in text section))) ≡ true → HasLost from (bytes_in text section) (section_without text section part)
whole_goes text section from part within o same =
    let left = section_without text section part in
    let front = front_lines (section_classes (bytes_in text section)) in
    let both = and_parts (is_utf8 left) (front_lines (section_classes left) == front) same in
    let fronts : front_lines (section_classes left) ≡ front = eqb-true (front_lines (section_classes left)) front both.1 in
    let is = whole_lines text section from part within o in
    let stays : front_lines (classes (o.h ∷ (o.bs ++ o.after))) ≡ front_lines (classes (o.h ∷ (o.bs ++ o.g ∷ (o.gs ++ o.after)))) =
    ap (λ ls. front_lines (classes ls)) (sym is) ∙ (fronts ∙ ap (λ ls. front_lines (classes ls)) o.lines_are) in
    let r = replaced o.h o.bs o.g (o.gs ++ o.after) o.after o.c (body_classes None o.after) o.begins o.alone_is (record { classed = refl; ends = o.ends }) (inl stays) (there text section from part o) in
    let ends : ends_line (bytes_in text section) ≡ true → ends_line left ≡ true = λ e.
    ap ends_line (whole_left text section from part within o)
    ∙ end_behind (bytes_in text section) (concat (o.h ∷ o.bs)) (concat (o.g ∷ o.gs)) (concat o.after) (cut_of text section (o.h ∷ o.bs) (o.g ∷ o.gs) o.after within o.lines_are).is (front_ends text section from part o) e in
    lost text section from part left [] o (inl refl) ends is r

end_stays : (text : List ℕ) (section : Span) (from : ℕ) (part : Span) → section.at + section.len ≤ length text → (o : Goes text section from part) → HasEnd (concat (o.g ∷ o.gs)) →
    HasLost from (bytes_in text section) (section_without text section (but_end text part))
end_stays text section from part within o e =
    let left = section_without text section (but_end text part) in
    let a = concat (o.h ∷ o.bs) in
    let cut = cut_of text section (o.h ∷ o.bs) (o.g ∷ o.gs) o.after within o.lines_are in
    let is : lines left ≡ (o.h ∷ o.bs) ++ (e.end ∷ o.after) =
    ap lines (end_left text section part a (concat (o.g ∷ o.gs)) (concat o.after) cut o.at_is o.len_is e)
    ∙ (left_lines text section from part o (e.end ++ concat o.after)
    ∙ ap (λ ls. (o.h ∷ o.bs) ++ ls) (end_line e.end (concat o.after) e.end_is ∙ ap (λ ls. e.end ∷ ls) (after_lines text section from part o))) in
    let tail : IsTail o.g (o.gs ++ o.after) (e.end ∷ o.after) (Plain ∷ body_classes None o.after) =
    record { classed = plain_end e.end o.after e.end_is; ends = λ name h. let none = end_ends name e.end e.end_is in rw none (o.ends name h) } in
    let r = replaced o.h o.bs o.g (o.gs ++ o.after) (e.end ∷ o.after) o.c (Plain ∷ body_classes None o.after) o.begins o.alone_is tail (inr (quiet_end e.end o.after e.end_is)) (there text section from part o) in
    let fed : ends_line (a ++ e.end) ≡ true = ends_with a e.end e.end_is in
    let ends : ends_line (bytes_in text section) ≡ true → ends_line left ≡ true = λ was.
    ap ends_line (end_left text section part a (concat (o.g ∷ o.gs)) (concat o.after) cut o.at_is o.len_is e ∙ sym (append_assoc a e.end (concat o.after)))
    ∙ end_last (bytes_in text section) a (concat (o.g ∷ o.gs)) e.end (concat o.after) cut.is fed was in
    lost text section from part left (e.end ∷ []) o (inr (e.end, refl, blank_end e.end e.end_is)) ends is r

-- where no line follows, the front is what it was
last_front : (text : List ℕ) (section : Span) (from : ℕ) (part : Span) → section.at + section.len ≤ length text → IsUtf8 (bytes_in text section) → (o : Goes text section from part) → o.after ≡ [] →
    has_front (section_without text section part) (front_lines (section_classes (bytes_in text section))) ≡ true
last_front text section from part within utf8 o none =
    let left = section_without text section part in
    let s = bytes_in text section in
    let tail : IsTail o.g (o.gs ++ o.after) o.after (body_classes None o.after) = record { classed = refl; ends = o.ends } in
    let r = replaced o.h o.bs o.g (o.gs ++ o.after) o.after o.c (body_classes None o.after) o.begins o.alone_is tail (inr (subst IsQuiet (sym none) quiet_none)) (there text section from part o) in
    let fronts : front_lines (section_classes left) ≡ front_lines (section_classes s) =
    ap (λ ls. front_lines (classes ls)) (whole_lines text section from part within o)
    ∙ (quiet_front o.h o.bs o.g (o.gs ++ o.after) o.after o.c (body_classes None o.after) o.alone_is (body_front o.after) r ∙ ap (λ ls. front_lines (classes ls)) (sym o.lines_are)) in
    let texts : AllByRecursion IsUtf8 (lines s) = recursion_from_All IsUtf8 (lines s) (utf8_lines (length s) s (omega arith) utf8) in
    let front : IsUtf8 (concat (o.h ∷ o.bs)) = front_text (o.h ∷ o.bs) ((o.g ∷ o.gs) ++ o.after) (subst (AllByRecursion IsUtf8) o.lines_are texts) in
    let is : left ≡ concat (o.h ∷ o.bs) = whole_left text section from part within o ∙ (ap (λ ls. concat (o.h ∷ o.bs) ++ concat ls) none ∙ append-nil (concat (o.h ∷ o.bs))) in
    let text_left : is_utf8 left ≡ true = is_utf8-from_IsUtf8 left (subst IsUtf8 (sym is) front) in
    let same : (front_lines (section_classes left) == front_lines (section_classes s)) ≡ true = eq-eqb (front_lines (section_classes left)) (front_lines (section_classes s)) fronts in
    rw (text_left, same) refl

part_goes : (text : List ℕ) (section : Span) (from : ℕ) (part : Span) → section.at + section.len ≤ length text → IsUtf8 (bytes_in text section) → Goes text section from part →
    HasLost from (bytes_in text section) (section_without text section (guarded_part text section (section_classes (bytes_in text section)) part))
part_goes text section from part within utf8 o =
    let cs = section_classes (bytes_in text section) in
    elim (cases_Bool (has_front (section_without text section part) (front_lines cs))) [
      | inl same ↦
          let is : guarded_part text section cs part ≡ part = rw same refl in
          subst (λ (p : Span). HasLost from (bytes_in text section) (section_without text section p)) (sym is) (whole_goes text section from part within o same)
      | inr other ↦
          let is : guarded_part text section cs part ≡ but_end text part = rw other refl in
          let e : HasEnd (concat (o.g ∷ o.gs)) = by o.after refl other in
          subst (λ (p : Span). HasLost from (bytes_in text section) (section_without text section p)) (sym is) (end_stays text section from part within o e)
    ]
  where
    by : (after : List (List ℕ)) → o.after ≡ after → has_front (section_without text section part) (front_lines (section_classes (bytes_in text section))) ≡ false → HasEnd (concat (o.g ∷ o.gs))
    by [] none other = absurd (let wrong : false ≡ true = sym other ∙ last_front text section from part within utf8 o none in cc)
    by (a ∷ as') is other = gone_end text section from part o a as' is

pub others_stay : OthersStay
unfolding cancelled_part
others_stay text section clock within utf8 begins found =
    let cs = section_classes (bytes_in text section) in
    let f = found_clocks_run cs 0 section.at (lines (bytes_in text section)) clock found in
    part_goes text section clock.from (emptied_in text section cs clock) within utf8 (found_goes text section clock within (located text section clock begins f))
