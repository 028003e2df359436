-- A completion is one change of the text, from the keyword to the end of the last stamp that shifts.
use Rattle.std.proofs.Common.{◌≡◌, ℕ, zero, suc, ◌+◌, ◌-◌, ◌<◌, ◌≤◌, ◌^◌, true, inl, inr, Some, None, Option, List, [], ◌∷◌, ◌++◌, length, take, drop, get_or, refl, sym, ap, ◌∙◌, subst, arith, length-append, length-drop, append-nil, append_assoc}
use Rattle.std.specs.Prelude.{Ok, IfSome, IsSome, slice_get}
use Rattle.std.specs.List.{All, concat, slice_range, prefix_len}
use Rattle.std.specs.Str.{IsUtf8, IsCharBoundary}
use Rattle.std.proofs.lemmas.Bool.{cases_Bool}
use Rattle.std.proofs.lemmas.List.{drop-drop, take-append-le, drop-append-le}
use Rattle.std.proofs.Math.Seq.{drop-append_seam}
use Rattle.std.proofs.lemmas.List.Elements.{All-head, All-tail}
use Rattle.std.proofs.lemmas.Str.{IsUtf8-nil, IsUtf8-between, IsCharBoundary-from_rest}
use Rattle.org_base.specs.Words.{is_space}
use Rattle.org_base.specs.declared.span.Span.{Span}
use Rattle.org_class.specs.Heading.{stars}
use Rattle.org_class.proofs.HeadingWords.{is_star}
use Rattle.org_class.specs.Sections.{sections, spans_from}
use Rattle.org_cal.specs.declared.moment.Moment.{Moment}
use Rattle.org_drawer.specs.declared.planning.Planning.{Planning}
use Rattle.org_entry.specs.Entry.{entry_of, heading_line}
use Rattle.org_entry.specs.declared.entry.Entry.{Entry}
use Rattle.org_entry.specs.Planning.{entry_planning}
use Rattle.org_complete.specs.Completion.{keyword_span, gap_behind, shift_part, plan_parts}
use Rattle.org_complete.proofs.CompletionWords.{keyword_part, plan_of}
use Rattle.org_complete.specs.Parts.{Part, AreApart, with_parts, end_of_parts, joined_parts, one_part}
use Rattle.org_complete.specs.Written.{shift_end, shift_text, plan_end, plan_text, IsBehind, CanWrite}
use Rattle.org_complete.specs.declared.plan.Plan.{Plan}
use Rattle.org_complete.specs.declared.plan.Shift.{Shift}
use Rattle.org_complete.proofs.EntryLemmas.{HasPlaces, entry_places, no_head}
use Rattle.org_complete.proofs.PartLemmas.{parts_are_one_change}
use Rattle.org_complete.proofs.PairLemmas.{IsLaid, IsWithin}
use Rattle.org_complete.proofs.PlanLemmas.{HasRoom, AreTextStamps, plan_fits}
use Rattle.org_base.specs.Spans.{bytes_in}
use Rattle.org_head.specs.declared.head.Head.{Head}
use Rattle.org_store.specs.Begun.{is_heading_line, section_of, section_start}
use Rattle.org_lines.specs.Cuts.{lines}
use Rattle.org_settings.specs.Keywords.{keyword_word}
use Rattle.org_settings.specs.Settings.{FileSettings}
use Rattle.org_stamp.specs.Print.{stamp_text}
use Rattle.org_stamp.specs.declared.stamp.Stamp.{Stamp}
use Rattle.org_text.specs.Replace.{max_bytes, replace}
use Rattle.org_utf8.specs.Laws.{IsTextPart, IsTextStamp, IsTextPlanning, IsTextHead, IsTextEntry}
use Rattle.org_utf8.proofs.Entries.{entries_are_text}
use Rattle.org_utf8.proofs.Runs.{boundary_behind, utf8_behind, coarse_eq, coarse_space}
use Rattle.org_utf8.proofs.Spans.{text_part, IsFront, front_boundary, front_cut, front_byte}
use Rattle.org_utf8.proofs.Texts.{IsPlaced, section_placed, boundary_placed, utf8_sections}

nowhere : Span
nowhere = record { at = 0; len = 0 }

-- where the section at a place begins
start_of_span : (at : ℕ) (ss : List (List ℕ)) (i : ℕ) (d : Span) → i < length ss → (get_or (spans_from at ss) i d).at ≡ at + length (concat (take i ss))
start_of_span at [] i d lt = absurd (omega arith)
start_of_span at (s ∷ ss) zero d lt = omega arith
start_of_span at (s ∷ ss) (suc i) d lt =
    let more = start_of_span (at + length s) ss i d (omega arith) in
    omega (arith, more, length-append s (concat (take i ss)))

section_begins : (t : List ℕ) (place : ℕ) (d : Span) → place < length (sections t) → (get_or (spans_from 0 (sections t)) place d).at ≡ section_start t place
section_begins t place d lt = let is = start_of_span 0 (sections t) place d lt in omega (arith, is)

-- bytes of a text that another begins with, further on
front_range : (r x : List ℕ) (a b : ℕ) → IsFront r x → a ≤ b → b ≤ length x → take (b - a) (drop a r) ≡ take (b - a) (drop a x)
front_range r x a b f le within =
    ap (λ z. take (b - a) (drop a z)) f.joined ∙ ap (take (b - a)) (drop-append-le a x f.behind (omega (arith, le, within)))
    ∙ take-append-le (b - a) (drop a x) f.behind (let n = length-drop a x in omega (arith, n, within))

placed_range : (t x : List ℕ) (at a b : ℕ) → IsFront (drop at t) x → a ≤ b → b ≤ length x → slice_range t (at + a) (at + b) ≡ slice_range x a b
placed_range t x at a b f le within =
    let count : at + b - (at + a) ≡ b - a = omega arith in
    ap (λ n. take n (drop (at + a) t)) count ∙ ap (take (b - a)) (sym (drop-drop a at t)) ∙ front_range (drop at t) x a b f le within

-- a shift among the parts of a text
joined_shift : (t x : List ℕ) (at from : ℕ) (o : Option Shift) (more : List Part) → IsFront (drop at t) x → IsBehind x from o →
    joined_parts t (at + from) (shift_part at o ++ more) ≡ shift_text x from o ++ joined_parts t (at + shift_end from o) more
joined_shift t x at from None more f h = refl
joined_shift t x at from (Some s) more f h =
    let within = h.1.start.0 in
    let kept = placed_range t x at from s.span.at f h.0 within in
    let end : at + s.span.at + s.span.len ≡ at + (s.span.at + s.span.len) = omega arith in
    ap (λ r. r ++ (stamp_text s.stamp ++ joined_parts t (at + s.span.at + s.span.len) more)) kept
    ∙ sym (append_assoc (slice_range x from s.span.at) (stamp_text s.stamp) (joined_parts t (at + s.span.at + s.span.len) more))
    ∙ ap (λ n. (slice_range x from s.span.at ++ stamp_text s.stamp) ++ joined_parts t n more) end

end_shift : (at from : ℕ) (o : Option Shift) (more : List Part) → end_of_parts (at + from) (shift_part at o ++ more) ≡ end_of_parts (at + shift_end from o) more
end_shift at from None more = refl
end_shift at from (Some s) more = let end : at + s.span.at + s.span.len ≡ at + (s.span.at + s.span.len) = omega arith in ap (λ n. end_of_parts n more) end

apart_shift : (x : List ℕ) (at from most : ℕ) (o : Option Shift) (more : List Part) → IsBehind x from o → AreApart (at + shift_end from o) most more → AreApart (at + from) most (shift_part at o ++ more)
apart_shift x at from most None more h k = k
apart_shift x at from most (Some s) more h k =
    let end : at + (s.span.at + s.span.len) ≡ at + s.span.at + s.span.len = omega arith in
    (let first = h.0 in omega arith, subst (λ n. AreApart n most more) end k)

-- the end of a shift lies within the text
end_within : (x : List ℕ) (from : ℕ) (o : Option Shift) → from ≤ length x → IsBehind x from o → (from ≤ shift_end from o) × (shift_end from o ≤ length x)
end_within x from None le h = (omega arith, le)
end_within x from (Some s) le h = let first = h.0 in let last = h.1.end.0 in (omega (arith, first), last)

end_cut : (x : List ℕ) (from : ℕ) (o : Option Shift) → IsCharBoundary x from → IsBehind x from o → IsCharBoundary x (shift_end from o)
end_cut x from None b h = b
end_cut x from (Some s) b h = h.1.end

pub plan_end_within : (x : List ℕ) (span : Span) (plan : Plan) → CanWrite x span plan → (span.at + span.len ≤ plan_end span plan) × (plan_end span plan ≤ length x)
plan_end_within x span plan w =
    let first = end_within x (span.at + span.len) plan.shifts.0 w.keyword.end.0 w.first in
    let last = end_within x (shift_end (span.at + span.len) plan.shifts.0) plan.shifts.1 first.1 w.second in
    (omega (arith, first.0, last.0), last.1)

plan_end_cut : (x : List ℕ) (span : Span) (plan : Plan) → CanWrite x span plan → IsCharBoundary x (plan_end span plan)
plan_end_cut x span plan w = end_cut x (shift_end (span.at + span.len) plan.shifts.0) plan.shifts.1 (end_cut x (span.at + span.len) plan.shifts.0 w.keyword.end w.first) w.second

-- the parts as one change
one_is : (t x : List ℕ) (at : ℕ) (span : Span) (word : List ℕ) (plan : Plan) → IsFront (drop at t) x → CanWrite x span plan →
    one_part t (keyword_part at span word ∷ (shift_part at plan.shifts.0 ++ shift_part at plan.shifts.1)) ≡ record { at = at + span.at; del = plan_end span plan - span.at; ins = word ++ plan_text x span plan }
one_is t x at span word plan f w =
    let k : ℕ = at + span.at in
    let e0 : ℕ = span.at + span.len in
    let first : Option Shift = plan.shifts.0 in
    let second : Option Shift = plan.shifts.1 in
    let e1 : ℕ = shift_end e0 first in
    let e2 : ℕ = shift_end e1 second in
    let rest : List Part = shift_part at first ++ shift_part at second in
    let low : k + span.len ≡ at + e0 = omega arith in
    let two : shift_part at second ≡ shift_part at second ++ [] = sym (append-nil (shift_part at second)) in
    let end : end_of_parts (k + span.len) rest ≡ at + e2 =
    ap (λ n. end_of_parts n rest) low ∙ end_shift at e0 first (shift_part at second) ∙ ap (end_of_parts (at + e1)) two ∙ end_shift at e1 second [] in
    let len : end_of_parts (k + span.len) rest - k ≡ e2 - span.at = omega (arith, end) in
    let text2 : joined_parts t (at + e1) (shift_part at second) ≡ shift_text x e1 second = ap (joined_parts t (at + e1)) two ∙ joined_shift t x at e1 second [] f w.second ∙ append-nil (shift_text x e1 second) in
    let text1 : joined_parts t (k + span.len) rest ≡ shift_text x e0 first ++ shift_text x e1 second =
    ap (λ n. joined_parts t n rest) low ∙ joined_shift t x at e0 first (shift_part at second) f w.first ∙ ap (λ r. shift_text x e0 first ++ r) text2 in
    let none : k - k ≡ 0 = omega arith in
    let text : joined_parts t k (keyword_part at span word ∷ rest) ≡ word ++ (shift_text x e0 first ++ shift_text x e1 second) =
    ap (λ n. take n (drop k t) ++ (word ++ joined_parts t (k + span.len) rest)) none ∙ ap (λ r. word ++ r) text1 in
    λ i. record { at = k; del = len i; ins = text i }

-- they stand one after the other
pub plan_apart : (t x : List ℕ) (at : ℕ) (span : Span) (word : List ℕ) (plan : Plan) → at + length x ≤ length t → CanWrite x span plan →
    AreApart (at + span.at) (length t) (keyword_part at span word ∷ (shift_part at plan.shifts.0 ++ shift_part at plan.shifts.1))
plan_apart t x at span word plan within w =
    let k : ℕ = at + span.at in
    let e0 : ℕ = span.at + span.len in
    let first : Option Shift = plan.shifts.0 in
    let second : Option Shift = plan.shifts.1 in
    let e1 : ℕ = shift_end e0 first in
    let e2 : ℕ = shift_end e1 second in
    let rest : List Part = shift_part at first ++ shift_part at second in
    let low : k + span.len ≡ at + e0 = omega arith in
    let two : shift_part at second ≡ shift_part at second ++ [] = sym (append-nil (shift_part at second)) in
    let bounds = plan_end_within x span plan w in
    let last : AreApart (at + e2) (length t) [] = omega (arith, bounds.1, within) in
    let apart2 : AreApart (at + e1) (length t) (shift_part at second) = subst (AreApart (at + e1) (length t)) (sym two) (apart_shift x at e1 (length t) second [] w.second last) in
    let apart1 : AreApart (at + e0) (length t) rest = apart_shift x at e0 (length t) first (shift_part at second) w.first apart2 in
    (omega arith, subst (λ n. AreApart n (length t) rest) (sym low) apart1)

-- and they are one
one_change : (t x : List ℕ) (at : ℕ) (span : Span) (word : List ℕ) (plan : Plan) → IsFront (drop at t) x → at + length x ≤ length t → CanWrite x span plan →
    with_parts t (keyword_part at span word ∷ (shift_part at plan.shifts.0 ++ shift_part at plan.shifts.1)) ≡ replace t (at + span.at) (plan_end span plan - span.at) (word ++ plan_text x span plan)
one_change t x at span word plan f within w =
    let parts : List Part = keyword_part at span word ∷ (shift_part at plan.shifts.0 ++ shift_part at plan.shifts.1) in
    parts_are_one_change t (at + span.at) parts (plan_apart t x at span word plan within w) ∙ ap (λ (p : Part). replace t p.at p.del p.ins) (one_is t x at span word plan f w)

-- the text of a heading's entry, where its section stands
pub record IsEntryOf (t : List ℕ) (place : ℕ) (settings : FileSettings) (entry : Entry) : Type 0 where
  pub utf8 : IsUtf8 t
  pub small : length t ≤ max_bytes
  pub within : place < length (sections t)
  pub is : entry ≡ entry_of settings (section_of t place)
  pub headed : IsSome entry.head

headed_line : (settings : FileSettings) (section : List ℕ) → IsSome (entry_of settings section).head → is_heading_line (slice_get (lines section) 0) ≡ true
headed_line settings section h = elim (cases_Bool (is_heading_line (slice_get (lines section) 0))) [
  | inl e ↦ e
  | inr e ↦ absurd (none_some (entry_of settings section).head (no_head settings section e) h)
]
  where
    none_some : (o : Option Head) → o ≡ None → IsSome o → ⊥
    none_some None e k = absurd cc
    none_some (Some x) e k = absurd cc

pub entry_has_places : (t : List ℕ) (place : ℕ) (settings : FileSettings) (entry : Entry) → IsEntryOf t place settings entry → HasPlaces (section_of t place) entry
entry_has_places t place settings entry e =
    let headed : IsSome (entry_of settings (section_of t place)).head = subst (λ (z : Entry). IsSome z.head) e.is e.headed in
    subst (HasPlaces (section_of t place)) (sym e.is) (entry_places settings (section_of t place) (headed_line settings (section_of t place) headed))

utf8_at : (ps : List (List ℕ)) (i : ℕ) → All IsUtf8 ps → IsUtf8 (get_or ps i [])
utf8_at [] i all = IsUtf8-nil
utf8_at (p ∷ ps) zero all = All-head IsUtf8 p ps all
utf8_at (p ∷ ps) (suc i) all = utf8_at ps i (All-tail IsUtf8 p ps all)

pub section_text : (t : List ℕ) (place : ℕ) → IsUtf8 t → IsUtf8 (section_of t place)
section_text t place u = utf8_at (sections t) place (utf8_sections t u)

-- what is said of the entry's text
pub text_of_entry : (t : List ℕ) (place : ℕ) (settings : FileSettings) (entry : Entry) → IsEntryOf t place settings entry → IsTextEntry (section_of t place) entry
text_of_entry t place settings entry e = subst (IsTextEntry (section_of t place)) (sym e.is) (entries_are_text settings (section_of t place) (section_text t place e.utf8))

-- the section stands in the text, and the entry's text at its front
there : (t : List ℕ) (place : ℕ) → IsUtf8 t → place < length (sections t) → IsPlaced t (section_start t place) (section_of t place)
there t place u lt = subst (λ n. IsPlaced t n (section_of t place)) (section_begins t place nowhere lt) (section_placed t place nowhere u lt)

front_there : (t at_text x : List ℕ) (at : ℕ) → IsPlaced t at at_text → IsFront at_text x → IsFront (drop at t) x
front_there t s x at p f =
    let here : drop at t ≡ s ++ p.behind = ap (λ n. drop n t) p.place ∙ ap (drop (length p.before)) p.joined ∙ drop-append_seam p.before (s ++ p.behind) in
    record { behind = f.behind ++ p.behind; joined = here ∙ ap (λ z. z ++ p.behind) f.joined ∙ append_assoc x f.behind p.behind }

placed_within : (t s : List ℕ) (at : ℕ) → IsPlaced t at s → at + length s ≤ length t
placed_within t s at p =
    let size : length t ≡ length p.before + length (s ++ p.behind) = ap length p.joined ∙ length-append p.before (s ++ p.behind) in
    omega (arith, size, p.place, length-append s p.behind)

front_within : (s x : List ℕ) → IsFront s x → length x ≤ length s
front_within s x f = let size : length s ≡ length x + length f.behind = ap length f.joined ∙ length-append x f.behind in omega (arith, size)

-- what a plan changes of the text
pub record ChangeIs (t : List ℕ) (place : ℕ) (settings : FileSettings) (entry : Entry) (old : Option Span) (plan : Plan) : Type 0 where
  pub line_fits : length (heading_line entry) < 2 ^ 32
  pub text_fits : length entry.text < 2 ^ 32
  pub at_fits : section_start t place + (keyword_span (heading_line entry) old).at < 2 ^ 32
  pub order : (keyword_span (heading_line entry) old).at ≤ plan_end (keyword_span (heading_line entry) old) plan
  pub part : IsTextPart t (record { at = section_start t place + (keyword_span (heading_line entry) old).at; len = plan_end (keyword_span (heading_line entry) old) plan - (keyword_span (heading_line entry) old).at })
  pub one : one_part t (plan_parts (section_start t place) (heading_line entry) old settings plan)
      ≡ record {
        at = section_start t place + (keyword_span (heading_line entry) old).at;
        del = plan_end (keyword_span (heading_line entry) old) plan - (keyword_span (heading_line entry) old).at;
        ins = (keyword_word settings.keywords plan.keyword ++ gap_behind old) ++ plan_text entry.text (keyword_span (heading_line entry) old) plan;
      }
  pub is : with_parts t (plan_parts (section_start t place) (heading_line entry) old settings plan)
      ≡ replace t (section_start t place + (keyword_span (heading_line entry) old).at) (plan_end (keyword_span (heading_line entry) old) plan - (keyword_span (heading_line entry) old).at)
      ((keyword_word settings.keywords plan.keyword ++ gap_behind old) ++ plan_text entry.text (keyword_span (heading_line entry) old) plan)
  pub apart : AreApart (section_start t place + (keyword_span (heading_line entry) old).at) (length t) (plan_parts (section_start t place) (heading_line entry) old settings plan)

pub change_is : (t : List ℕ) (place : ℕ) (settings : FileSettings) (entry : Entry) (old : Option Span) (plan : Plan) → IsEntryOf t place settings entry → CanWrite entry.text (keyword_span (heading_line entry) old) plan → ChangeIs t place settings entry old plan
change_is t place settings entry old plan e w =
    let s = section_of t place in
    let x = entry.text in
    let at = section_start t place in
    let span = keyword_span (heading_line entry) old in
    let places = entry_has_places t place settings entry e in
    let p = there t place e.utf8 e.within in
    let inside = placed_within t s at p in
    let short = front_within s x places.text in
    let line = front_within x (heading_line entry) places.line in
    let small = e.small in
    let bounds = plan_end_within x span plan w in
    let size : max_bytes < 2 ^ 32 = omega arith in
    let section_utf8 = section_text t place e.utf8 in
    let whole : IsCharBoundary s (length x) = front_boundary s x places.text section_utf8 w.utf8 in
    let in_text = λ (i : ℕ) (le : i ≤ length x) (b : IsCharBoundary x i). boundary_placed t at s i p (front_cut s x places.text i le b whole) in
    let from : IsCharBoundary t (at + span.at) = in_text span.at w.keyword.start.0 w.keyword.start in
    let len : at + plan_end span plan ≡ at + span.at + (plan_end span plan - span.at) = omega (arith, bounds.0) in
    let to : IsCharBoundary t (at + span.at + (plan_end span plan - span.at)) = subst (IsCharBoundary t) len (in_text (plan_end span plan) bounds.1 (plan_end_cut x span plan w)) in
    record {
      line_fits = omega (arith, inside, short, line, small, size);
      text_fits = omega (arith, inside, short, small, size);
      at_fits = omega (arith, inside, short, small, size, bounds.0, bounds.1);
      order = omega (arith, bounds.0);
      part = text_part t (at + span.at) (plan_end span plan - span.at) e.utf8 from to;
      one = one_is t x at span (keyword_word settings.keywords plan.keyword ++ gap_behind old) plan (front_there t s x at p places.text) w;
      is = one_change t x at span (keyword_word settings.keywords plan.keyword ++ gap_behind old) plan (front_there t s x at p places.text) (omega (arith, inside, short)) w;
      apart = plan_apart t x at span (keyword_word settings.keywords plan.keyword ++ gap_behind old) plan (omega (arith, inside, short)) w;
    }

-- a part of a text in the front of it
boundary_in_front : (s x : List ℕ) (i : ℕ) → IsFront s x → i ≤ length x → IsCharBoundary s i → IsCharBoundary x i
boundary_in_front s x i f le b =
    let short = front_within s x f in
    (le, λ lt wide. (let same = front_byte s x f i lt in let big = b.1 (omega (arith, lt, short)) (omega (arith, same, wide)) in omega (arith, same, big)))

part_in_front : (s x : List ℕ) (span : Span) → IsUtf8 x → IsFront s x → span.at + span.len ≤ length x → IsTextPart s span → IsTextPart x span
part_in_front s x span u f le h = text_part x span.at span.len u (boundary_in_front s x span.at f (omega (arith, le)) h.start) (boundary_in_front s x (span.at + span.len) f le h.end)

-- where a keyword goes that isn't there
place_is_text : (line : List ℕ) → IsUtf8 line → IsTextPart line (keyword_span line None)
place_is_text line u =
    let rest = drop (stars line) line in
    let behind = utf8_behind is_star (coarse_eq 42 (omega arith)) line u in
    let cut = boundary_behind is_space coarse_space rest behind in
    let stars_cut = boundary_behind is_star (coarse_eq 42 (omega arith)) line u in
    let b = IsCharBoundary-from_rest line (stars line) (prefix_len is_space rest) stars_cut.0 cut in
    let at : ℕ = stars line + prefix_len is_space rest in
    let same : at ≡ at + 0 = omega arith in
    text_part line at 0 u b (subst (IsCharBoundary line) same b)

span_is_text : (line : List ℕ) (old : Option Span) → IsUtf8 line → IfSome old (IsTextPart line) → IsTextPart line (keyword_span line old)
span_is_text line None u h = place_is_text line u
span_is_text line (Some span) u h = h

-- a part of the front of a text is one of the text
part_of_front : (x line : List ℕ) (span : Span) → IsUtf8 x → IsUtf8 line → IsFront x line → IsTextPart line span → IsTextPart x span
part_of_front x line span u v f h =
    let whole = front_boundary x line f u v in
    text_part x span.at span.len u (front_cut x line f span.at h.start.0 h.start whole) (front_cut x line f (span.at + span.len) h.end.0 h.end whole)

stamp_in_front : (s x : List ℕ) (low : ℕ) (o : Option (Stamp × Span)) → IsUtf8 x → IsFront s x → IsWithin low (length x) o → IsTextStamp s o → IsTextStamp x o
stamp_in_front s x low None u f h k = tt
stamp_in_front s x low (Some st) u f h k = part_in_front s x st.1 u f h.1 k

planning_in_front : (s x : List ℕ) (low : ℕ) (o : Option Planning) → IsUtf8 x → IsFront s x → IfSome o (IsLaid low (length x)) → IfSome o (IsTextPlanning s) → IfSome o (AreTextStamps x)
planning_in_front s x low None u f laid k = tt
planning_in_front s x low (Some p) u f laid k = (stamp_in_front s x low p.scheduled u f laid.scheduled k.scheduled, stamp_in_front s x low p.deadline u f laid.deadline k.deadline)

-- what the entry of a heading says can be written
pub room_in : (t : List ℕ) (place : ℕ) (settings : FileSettings) (entry : Entry) (head : Head) → IsEntryOf t place settings entry → entry.head ≡ Some head →
    IsTextPart entry.text (keyword_span (heading_line entry) head.keyword) × HasRoom entry.text ((keyword_span (heading_line entry) head.keyword).at + (keyword_span (heading_line entry) head.keyword).len) (entry_planning entry)
room_in t place settings entry head e is =
    let s = section_of t place in
    let x = entry.text in
    let places = entry_has_places t place settings entry e in
    let text = text_of_entry t place settings entry e in
    let parts : IsTextHead (heading_line entry) head = (subst (λ o. IfSome o (λ (h : Head). IsTextHead (heading_line entry) h × IsTextHead s h)) is text.head).0 in
    let span = keyword_span (heading_line entry) head.keyword in
    let in_line : IsTextPart (heading_line entry) span = span_is_text (heading_line entry) head.keyword text.heading parts.keyword in (
      part_of_front x (heading_line entry) span text.text text.heading places.line in_line,
      record {
        low = length (heading_line entry);
        above = in_line.end.0;
        laid = places.planning;
        text = planning_in_front s x (length (heading_line entry)) (entry_planning entry) text.text places.text places.planning text.planning;
      },
    )

-- what is planned can be written
pub can_write : (t : List ℕ) (place : ℕ) (settings : FileSettings) (entry : Entry) (head : Head) (now : Moment) (word : Option ℕ) (plan : Plan) → IsEntryOf t place settings entry → entry.head ≡ Some head →
    Ok plan ≡ plan_of now settings (entry_planning entry) word → CanWrite entry.text (keyword_span (heading_line entry) head.keyword) plan
can_write t place settings entry head now word plan e is planned =
    let room = room_in t place settings entry head e is in
    let both = plan_fits entry.text ((keyword_span (heading_line entry) head.keyword).at + (keyword_span (heading_line entry) head.keyword).len) now settings (entry_planning entry) word plan planned room.1 in
    record { utf8 = (text_of_entry t place settings entry e).text; keyword = room.0; first = both.0; second = both.1 }

-- the bytes between a place and a stamp
pub kept_bytes : (x : List ℕ) (from : ℕ) (span : Span) → from ≤ span.at → bytes_in x (record { at = from; len = span.at - from }) ≡ slice_range x from span.at
kept_bytes x from span le = let end : from + (span.at - from) ≡ span.at = omega (arith, le) in ap (slice_range x from) end

-- they are text
pub kept_text : (x : List ℕ) (from : ℕ) (span : Span) → IsUtf8 x → IsCharBoundary x from → from ≤ span.at → IsTextPart x span → IsUtf8 (bytes_in x (record { at = from; len = span.at - from }))
kept_text x from span u b le h = subst IsUtf8 (sym (kept_bytes x from span le)) (IsUtf8-between x from span.at u le b h.start)
