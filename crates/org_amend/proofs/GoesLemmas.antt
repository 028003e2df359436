-- A clock that is cancelled: which lines go.
use Rattle.std.proofs.Common.{◌≡◌, ◌∙◌, inl, inr, ℕ, ◌+◌, ◌-◌, ◌≤◌, ◌==◌, ◌&&◌, Bool, true, false, List, [], ◌∷◌, ◌++◌, length, refl, sym, ap, subst, arith, append_assoc, append-nil, length-append}
use Rattle.std.specs.Prelude.{Option, Some, None, nat_lt, slice_get}
use Rattle.std.specs.List.{concat, list_any, slice_range}
use Rattle.std.proofs.lemmas.Bool.{and_parts, cases_Bool, eqb-true}
use Rattle.std.proofs.lemmas.List.Folds.{concat-append}
use Rattle.org_amend.specs.CancelLaws.{AreGone, alone, drawer}
use Rattle.org_amend.specs.Cancelled.{behind_clock, closing_len, emptied_in, emptied_part, line_part}
use Rattle.org_amend.specs.Clocks.{since}
use Rattle.org_amend.specs.Places.{logbook_in}
use Rattle.org_amend.specs.declared.place.DrawerName.TheVariants.{Logbook}
use Rattle.org_amend.specs.declared.running.RunningClock.{RunningClock}
use Rattle.org_amend.proofs.BodyLemmas.{is_alone}
use Rattle.org_amend.proofs.ClockLineLemmas.{body_line, clock_class, clock_no_hash, clock_read_is, end_class, end_no_hash}
use Rattle.org_amend.proofs.CutLemmas.{AreSome, IsCut, back_lines, cut_back, lines_some, same_place}
use Rattle.org_amend.proofs.DrawerLemmas.{IsDrawer, drawer_found}
use Rattle.org_amend.proofs.EndLemmas.{since_is}
use Rattle.org_amend.proofs.LocatedLemmas.{IsLocated, first_class}
use Rattle.org_base.specs.Spans.{bytes_in}
use Rattle.org_base.specs.declared.span.Span.{Span}
use Rattle.org_class.specs.Blocks.{body_classes, ends_block}
use Rattle.org_class.specs.Classes.{classes, section_classes}
use Rattle.org_class.specs.Drawers.{is_drawer_end}
use Rattle.org_class.specs.Heading.{begins_heading}
use Rattle.org_class.specs.declared.class.Class.{Class}
use Rattle.org_class.specs.declared.class.Class.TheVariants.{Clock, Heading, Plain}
use Rattle.org_lines.specs.Cuts.{lines, lines_in}
use Rattle.org_lines.proofs.LineLemmas.{concat-lines, length_range}
use Rattle.org_stamp.specs.Pair.{is_clock}

-- lines of a section that go: where they stand, and how the lines behind them are read
pub record Goes (text : List ℕ) (section : Span) (from : ℕ) (part : Span) : Type 0 where
  pub h : List ℕ
  pub bs : List (List ℕ)
  pub g : List ℕ
  pub gs : List (List ℕ)
  pub after : List (List ℕ)
  pub c : Class
  pub gcs : List Class
  pub begins : begins_heading h ≡ true
  pub lines_are : lines (bytes_in text section) ≡ (h ∷ bs) ++ ((g ∷ gs) ++ after)
  pub at_is : part.at ≡ section.at + length (concat (h ∷ bs))
  pub len_is : part.len ≡ length (concat (g ∷ gs))
  pub alone_is : is_alone c ≡ true
  pub class_is : slice_get (section_classes (bytes_in text section)) (length (h ∷ bs)) ≡ Some c
  pub behind : body_classes None (gs ++ after) ≡ gcs ++ body_classes None after
  pub ends : (name : List ℕ) → list_any (ends_block name) (g ∷ (gs ++ after)) ≡ false → list_any (ends_block name) after ≡ false
  pub gone : AreGone from (g ∷ gs) (c ∷ gcs)

-- the section is cut there

pub cut_of : (text : List ℕ) (section : Span) (xs ys zs : List (List ℕ)) → section.at + section.len ≤ length text → lines (bytes_in text section) ≡ xs ++ (ys ++ zs) → IsCut text section (concat xs) (concat ys) (concat zs)
cut_of text section xs ys zs within h =
    let is : bytes_in text section ≡ concat xs ++ (concat ys ++ concat zs) =
    sym (concat-lines (bytes_in text section)) ∙ (ap concat h ∙ (concat-append xs (ys ++ zs) ∙ ap (λ x. concat xs ++ x) (concat-append ys zs))) in
    let size : section.len ≡ length (concat xs ++ (concat ys ++ concat zs)) = sym (length_range text section.at section.len within) ∙ ap length is in
    record { is = is; size = size ∙ (length-append (concat xs) (concat ys ++ concat zs) ∙ ap (λ n. length (concat xs) + n) (length-append (concat ys) (concat zs))) }

-- the lines that go with the clock that is found

record InLines (text : List ℕ) (section : Span) (r : RunningClock) (h : List ℕ) (bs : List (List ℕ)) (line : List ℕ) (after : List (List ℕ)) : Type 0 where
  begins : begins_heading h ≡ true
  lines_are : lines (bytes_in text section) ≡ (h ∷ bs) ++ line ∷ after
  class_is : slice_get (section_classes (bytes_in text section)) (length (h ∷ bs)) ≡ Some Clock
  runs : since line ≡ Some r.from
  at_is : r.at ≡ section.at + length (concat (h ∷ bs))
  len_is : r.len ≡ length line

none_behind : (test : List ℕ → Bool) (l : List ℕ) (ls : List (List ℕ)) → list_any test (l ∷ ls) ≡ false → list_any test ls ≡ false
none_behind test l ls h = elim (cases_Bool (test l)) [
  | inl e ↦ absurd (let wrong : true ≡ false = rw e at h in cc)
  | inr e ↦ rw e at h
]

only_line : (text : List ℕ) (section : Span) (r : RunningClock) (h : List ℕ) (bs : List (List ℕ)) (line : List ℕ) (after : List (List ℕ)) → InLines text section r h bs line after → Goes text section r.from (line_part r)
only_line text section r h bs line after i = record {
  h = h;
  bs = bs;
  g = line;
  gs = [];
  after = after;
  c = Clock;
  gcs = [];
  begins = i.begins;
  lines_are = i.lines_are;
  at_is = i.at_is;
  len_is = i.len_is ∙ ap length (sym (append-nil line));
  alone_is = refl;
  class_is = i.class_is;
  behind = refl;
  ends = λ name none. none_behind (ends_block name) line after none;
  gone = alone r.from line i.runs;
}

-- the end of the drawer follows
record EndsFirst (after : List (List ℕ)) : Type 0 where
  e : List ℕ
  rest : List (List ℕ)
  is : after ≡ e ∷ rest
  ends : is_drawer_end e ≡ true
  closing : closing_len after ≡ length e

ends_first : (after : List (List ℕ)) → nat_lt 0 (closing_len after) ≡ true → EndsFirst after
ends_first [] h = absurd cc
ends_first (e ∷ rest) h = elim (cases_Bool (is_drawer_end e)) [
  | inl ends ↦ record { e = e; rest = rest; is = refl; ends = ends; closing = rw ends refl }
  | inr other ↦ absurd (let wrong : false ≡ true = rw other at h in cc)
]

clock_reads : (line : List ℕ) (from : ℕ) → since line ≡ Some from → is_clock line ≡ true
clock_reads line from runs = clock_read_is line (record { from = from; to = None }) (since_is line from runs)

behind_drawer : (line e : List ℕ) (after : List (List ℕ)) (from : ℕ) → since line ≡ Some from → is_drawer_end e ≡ true → body_classes None (line ∷ e ∷ after) ≡ Clock ∷ Plain ∷ body_classes None after
behind_drawer line e after from runs ends =
    let is = clock_reads line from runs in
    body_line line (e ∷ after) (clock_no_hash line is)
    ∙ (ap (λ c. c ∷ body_classes None (e ∷ after)) (clock_class line is)
    ∙ (ap (λ cs. Clock ∷ cs) (body_line e after (end_no_hash e ends)) ∙ ap (λ c. Clock ∷ c ∷ body_classes None after) (end_class e ends)))

with_drawer : (text : List ℕ) (section : Span) (r : RunningClock) (h : List ℕ) (bs : List (List ℕ)) (line : List ℕ) (after : List (List ℕ)) (d : Span) → InLines text section r h bs line after →
    IsDrawer Logbook (section_classes (bytes_in text section)) 0 section.at (lines (bytes_in text section)) d → d.at + d.len ≡ r.at → (n : ℕ) → n ≡ closing_len after → nat_lt 0 n ≡ true →
    Goes text section r.from (record { at = d.at; len = d.len + r.len + n })
with_drawer text section r h bs line after d i dr next n n_is some =
    let s = bytes_in text section in
    let e = ends_first after (subst (λ k. nat_lt 0 k ≡ true) n_is some) in
    let before = dr.before ++ dr.line ∷ [] in
    let size : length (concat before) ≡ length (concat dr.before) + length dr.line =
    ap length (concat-append dr.before (dr.line ∷ [])) ∙ (length-append (concat dr.before) (dr.line ++ []) ∙ ap (λ x. length (concat dr.before) + length x) (append-nil dr.line)) in
    let lines_are : (h ∷ bs) ++ line ∷ after ≡ before ++ dr.after = sym i.lines_are ∙ (dr.lines_are ∙ sym (append_assoc dr.before (dr.line ∷ []) dr.after)) in
    let same : (h ∷ bs) ≡ before = (same_place (h ∷ bs) (line ∷ after) before dr.after (subst AreSome i.lines_are (lines_some (lines s) s refl)) lines_are (omega (arith, size, next, dr.at_is, dr.len_is, i.at_is))).0 in
    by dr.before refl same e
  where
    by : (front : List (List ℕ)) → dr.before ≡ front → (h ∷ bs) ≡ dr.before ++ dr.line ∷ [] → EndsFirst after → Goes text section r.from (record { at = d.at; len = d.len + r.len + n })
    by [] none same e =
        let s = bytes_in text section in
        let one : h ∷ bs ≡ dr.line ∷ [] = same ∙ ap (λ ls. ls ++ dr.line ∷ []) none in
        let zero' : 0 + length dr.before ≡ 0 = ap (λ ls. 0 + length ls) none in
        let plain : slice_get (section_classes s) 0 ≡ Some Plain = ap (slice_get (section_classes s)) (sym zero') ∙ dr.class_is in
        let first : slice_get (section_classes s) 0 ≡ Some Heading = ap (λ ls. slice_get (classes ls) 0) i.lines_are ∙ first_class h (bs ++ line ∷ after) i.begins in
        absurd (let wrong : ◌≡◌ {A = Option Class} (Some Plain) (Some Heading) = sym plain ∙ first in cc)
    by (x ∷ front) is same e =
        let s = bytes_in text section in
        let all : h ∷ bs ≡ x ∷ (front ++ dr.line ∷ []) = same ∙ ap (λ ls. ls ++ dr.line ∷ []) is in
        let first : h ≡ x = cc in
        let rest : bs ≡ front ++ dr.line ∷ [] = cc in
        let before : dr.before ≡ h ∷ front = is ∙ ap (λ y. y ∷ front) (sym first) in
        let len : length dr.before ≡ length (h ∷ front) = ap length before in
        let count : 0 + length dr.before ≡ length (h ∷ front) = omega (arith, len) in
        let sizes : length (concat (dr.line ∷ line ∷ e.e ∷ [])) ≡ length dr.line + (length line + (length e.e + 0)) =
        length-append dr.line (line ++ (e.e ++ [])) ∙ ap (λ k. length dr.line + k) (length-append line (e.e ++ []) ∙ ap (λ k. length line + k) (length-append e.e [])) in
        record {
          h = h;
          bs = front;
          g = dr.line;
          gs = line ∷ e.e ∷ [];
          after = e.rest;
          c = Plain;
          gcs = Clock ∷ Plain ∷ [];
          begins = i.begins;
          lines_are =
              i.lines_are
              ∙ (ap (λ ls. (h ∷ ls) ++ line ∷ after) rest
              ∙ (append_assoc (h ∷ front) (dr.line ∷ []) (line ∷ after) ∙ ap (λ ls. (h ∷ front) ++ dr.line ∷ line ∷ ls) e.is));
          at_is = dr.at_is ∙ ap (λ ls. section.at + length (concat ls)) before;
          len_is = omega (arith, sizes, dr.len_is, i.len_is, n_is, e.closing);
          alone_is = refl;
          class_is = ap (slice_get (section_classes s)) (sym count) ∙ dr.class_is;
          behind = behind_drawer line e.e e.rest r.from i.runs e.ends;
          ends = λ name none. none_behind (ends_block name) e.e e.rest (none_behind (ends_block name) line (e.e ∷ e.rest) (none_behind (ends_block name) dr.line (line ∷ e.e ∷ e.rest) none));
          gone = drawer r.from dr.line line e.e dr.opens_so i.runs e.ends;
        }

emptied_goes : (text : List ℕ) (section : Span) (r : RunningClock) (h : List ℕ) (bs : List (List ℕ)) (line : List ℕ) (after : List (List ℕ)) → InLines text section r h bs line after →
    (o : Option Span) → logbook_in text section (section_classes (bytes_in text section)) ≡ o → (n : ℕ) → n ≡ closing_len after → Goes text section r.from (emptied_part o r n)
emptied_goes text section r h bs line after i None was n n_is = only_line text section r h bs line after i
emptied_goes text section r h bs line after i (Some d) was n n_is = elim (cases_Bool ((d.at + d.len == r.at) && nat_lt 0 n)) [
  | inr other ↦ rw other (only_line text section r h bs line after i)
  | inl both ↦
      let parts = and_parts (d.at + d.len == r.at) (nat_lt 0 n) both in
      let dr = drawer_found Logbook (section_classes (bytes_in text section)) 0 section.at (lines (bytes_in text section)) d was in
      let made = with_drawer text section r h bs line after d i dr (eqb-true (d.at + d.len) r.at parts.0) n n_is parts.1 in
      rw both made
]

behind_is : (text : List ℕ) (section : Span) (r : RunningClock) (h : List ℕ) (bs : List (List ℕ)) (line : List ℕ) (after : List (List ℕ)) → section.at + section.len ≤ length text →
    InLines text section r h bs line after → lines_in text (behind_clock section r) ≡ after
behind_is text section r h bs line after within i =
    let a = concat (h ∷ bs) in
    let one : concat (line ∷ []) ≡ line = append-nil line in
    let cut = cut_of text section (h ∷ bs) (line ∷ []) after within i.lines_are in
    let size : length (concat (line ∷ [])) ≡ length line = ap length one in
    let from : r.at + r.len ≡ section.at + length a + length (concat (line ∷ [])) = omega (arith, i.at_is, i.len_is, size) in
    let end : r.at + r.len + (section.at + section.len - (r.at + r.len)) ≡ section.at + section.len = omega (arith, from, cut.size) in
    let bytes : bytes_in text (behind_clock section r) ≡ concat after =
    ap (slice_range text (r.at + r.len)) end ∙ (ap (λ k. slice_range text k (section.at + section.len)) from ∙ cut_back text section a (concat (line ∷ [])) (concat after) cut) in
    ap lines bytes ∙ back_lines (bytes_in text section) ((h ∷ bs) ++ line ∷ []) after (i.lines_are ∙ sym (append_assoc (h ∷ bs) (line ∷ []) after))

pub found_goes : (text : List ℕ) (section : Span) (r : RunningClock) → section.at + section.len ≤ length text → IsLocated text section r →
    Goes text section r.from (emptied_in text section (section_classes (bytes_in text section)) r)
found_goes text section r within l =
    let i : InLines text section r l.h l.bs l.line l.after = record { begins = l.begins; lines_are = l.lines_are; class_is = l.class_is; runs = l.runs; at_is = l.at_is; len_is = l.len_is } in
    emptied_goes text section r l.h l.bs l.line l.after i (logbook_in text section (section_classes (bytes_in text section))) refl (closing_len (lines_in text (behind_clock section r)))
    (ap closing_len (behind_is text section r l.h l.bs l.line l.after within i))
