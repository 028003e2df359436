-- Rows among rows, and the rows of lines that are left.
use Rattle.std.proofs.Common.{◌≡◌, ◌⊎◌, ◌∙◌, ℕ, zero, suc, ◌+◌, inl, inr, Bool, true, false, cond, List, [], ◌∷◌, ◌++◌, length, drop, refl, sym, ap, subst, arith, append_assoc, append-nil}
use Rattle.std.specs.Cow.{cow_slice_items}
use Rattle.std.specs.Prelude.{Option, Some, None, slice_get}
use Rattle.org_class.specs.declared.class.Class.{Class}
use Rattle.org_lines.specs.Cuts.{Cut, cuts}
use Rattle.org_lines.specs.declared.lines.Line.{Line}
use Rattle.org_trace.specs.Asked.{SectionAsked}
use Rattle.org_trace.specs.Entries.{line_entry}
use Rattle.org_trace.specs.Laws.{AllAreListed, IsRowOf, RowsAreTrue, row_at}
use Rattle.org_trace.specs.Rows.{is_asked}
use Rattle.org_trace.specs.Sections.{cut_rows, entry_rows, line_rows, rows_if, rows_of_line}
use Rattle.org_trace.specs.declared.entry.LogEntry.{LogEntry}
use Rattle.org_trace.specs.declared.row.LogRow.{LogRow}

in_front : (r : LogRow) (a b : List LogRow) → IsRowOf r a → IsRowOf r (a ++ b)
in_front r [] b has = absurd has
in_front r (n ∷ a) b (inl is) = inl is
in_front r (n ∷ a) b (inr has) = inr (in_front r a b has)

in_back : (r : LogRow) (a b : List LogRow) → IsRowOf r b → IsRowOf r (a ++ b)
in_back r [] b has = has
in_back r (n ∷ a) b has = inr (in_back r a b has)

in_either : (r : LogRow) (a b : List LogRow) → IsRowOf r (a ++ b) → IsRowOf r a ⊎ IsRowOf r b
in_either r [] b has = inr has
in_either r (n ∷ a) b (inl is) = inl (inl is)
in_either r (n ∷ a) b (inr has) = elim (in_either r a b has) [ inl here ↦ inl (inr here) | inr there ↦ inr there ]

no_classes : (s : SectionAsked) (ls : List Cut) → cut_rows s ls [] ≡ []
no_classes s [] = refl
no_classes s (l ∷ ls) = refl

-- rows don't depend on how a text lends its lines
pub same_rows : (s : SectionAsked) (run : ℕ → ℕ) (at : ℕ) (ls : List (List ℕ)) (cs : List Class) → cut_rows s (cuts run at ls) cs ≡ cut_rows s (cuts (λ a. 0) at ls) cs
same_rows s run at [] cs = refl
same_rows s run at (l ∷ ls) [] = refl
same_rows s run at (l ∷ ls) (c ∷ cs) = ap (λ rs. line_rows s c at l ++ rs) (same_rows s run (at + length l) ls cs)

-- the first line, by the class at its place, and the others
first_rows : (s : SectionAsked) (cs : List Class) (n : ℕ) (l : Cut) (ls : List Cut) → cut_rows s (l ∷ ls) (drop n cs) ≡ rows_if s (slice_get cs n) l.at l.bytes ++ cut_rows s ls (drop (suc n) cs)
first_rows s [] zero l ls = sym (no_classes s ls)
first_rows s [] (suc n) l ls = sym (no_classes s ls)
first_rows s (c ∷ cs) zero l ls = refl
first_rows s (c ∷ cs) (suc n) l ls = first_rows s cs n l ls

-- one line more
pub rows_more : (x : SectionAsked) (cs : List Class) (n : ℕ) (done new all : List LogRow) (s t : List Cut) (cut : Cut) (line : Line) (class : Option Class) → s ≡ cut ∷ t → line.span.at ≡ cut.at → cow_slice_items line.bytes ≡ cut.bytes → class ≡ slice_get cs n → new ≡ done ++ rows_of_line x class line → done ++ cut_rows x s (drop n cs) ≡ all → new ++ cut_rows x t (drop (n + 1) cs) ≡ all
rows_more x cs n done new all s t cut line class first at is place pushed so_far =
    let next : n + 1 ≡ suc n = omega arith in
    let here : rows_of_line x class line ≡ rows_if x (slice_get cs n) cut.at cut.bytes =
    ap (λ c. rows_if x c line.span.at (cow_slice_items line.bytes)) place
    ∙ ap (λ a. rows_if x (slice_get cs n) a (cow_slice_items line.bytes)) at
    ∙ ap (rows_if x (slice_get cs n) cut.at) is in
    ap (λ r. r ++ cut_rows x t (drop (n + 1) cs)) (pushed ∙ ap (λ r. done ++ r) here)
    ∙ append_assoc done (rows_if x (slice_get cs n) cut.at cut.bytes) (cut_rows x t (drop (n + 1) cs))
    ∙ ap (λ m. done ++ (rows_if x (slice_get cs n) cut.at cut.bytes ++ cut_rows x t (drop m cs))) next
    ∙ ap (λ r. done ++ r) (sym (first_rows x cs n cut t))
    ∙ ap (λ r. done ++ cut_rows x r (drop n cs)) (sym first)
    ∙ so_far

-- no line is left
pub rows_end : (x : SectionAsked) (cs : List Class) (n : ℕ) (done all : List LogRow) (s : List Cut) → s ≡ [] → done ++ cut_rows x s (drop n cs) ≡ all → done ≡ all
rows_end x cs n done all s none so_far = sym (append-nil done) ∙ ap (λ r. done ++ cut_rows x r (drop n cs)) (sym none) ∙ so_far

-- a row that an entry gives is of that entry
entry_has : (s : SectionAsked) (at : ℕ) (o : Option LogEntry) (row : LogRow) → IsRowOf row (entry_rows s at o) →
    (o ≡ Some row.entry) × (is_asked s.asked row.entry ≡ true) × (row ≡ row_at s at row.entry)
entry_has s at None row has = absurd has
entry_has s at (Some entry) row has = by (is_asked s.asked entry) refl has
  where
    by : (t : Bool) → is_asked s.asked entry ≡ t → IsRowOf row (cond t (row_at s at entry ∷ []) []) →
        (Some entry ≡ Some row.entry) × (is_asked s.asked row.entry ≡ true) × (row ≡ row_at s at row.entry)
    by true is (inl same) =
        let entries : entry ≡ row.entry = sym (ap (λ (r : LogRow). r.entry) same) in
        (ap Some entries, ap (is_asked s.asked) (sym entries) ∙ is, same ∙ ap (row_at s at) entries)
    by true is (inr none) = absurd none
    by false is none = absurd none

has_entry : (s : SectionAsked) (at : ℕ) (o : Option LogEntry) (entry : LogEntry) → o ≡ Some entry → is_asked s.asked entry ≡ true →
    IsRowOf (row_at s at entry) (entry_rows s at o)
has_entry s at o entry is asked =
    subst (λ (x : Option LogEntry). IsRowOf (row_at s at entry) (entry_rows s at x)) (sym is)
    (subst (λ (t : Bool). IsRowOf (row_at s at entry) (cond t (row_at s at entry ∷ []) [])) (sym asked) (inl refl))

pub all_are_listed : AllAreListed
all_are_listed s [] cs l c entry is says asked = absurd is
all_are_listed s (m ∷ ls) [] l c entry is says asked = absurd is
all_are_listed s (m ∷ ls) (d ∷ cs) l c entry (inl same) says asked =
    in_front (row_at s l.at entry) (line_rows s d m.at m.bytes) (cut_rows s ls cs)
    (subst (λ (x : Class). IsRowOf (row_at s l.at entry) (line_rows s x m.at m.bytes)) same.1
    (subst (λ (x : Cut). IsRowOf (row_at s l.at entry) (line_rows s c x.at x.bytes)) same.0 (has_entry s l.at (line_entry s.keywords c l.bytes) entry says asked)))
all_are_listed s (m ∷ ls) (d ∷ cs) l c entry (inr later) says asked =
    in_back (row_at s l.at entry) (line_rows s d m.at m.bytes) (cut_rows s ls cs) (all_are_listed s ls cs l c entry later says asked)

pub rows_are_true : RowsAreTrue
rows_are_true s [] cs row has = absurd has
rows_are_true s (m ∷ ls) [] row has = absurd has
rows_are_true s (m ∷ ls) (d ∷ cs) row has = elim (in_either row (line_rows s d m.at m.bytes) (cut_rows s ls cs) has) [
  | inl here ↦
      let is = entry_has s m.at (line_entry s.keywords d m.bytes) row here in
      record { line = m; class = d; line_is = inl (refl, refl); says = is.0; asked = is.1; is = is.2 }
  | inr there ↦
      let more = rows_are_true s ls cs row there in
      record { line = more.line; class = more.class; line_is = inr more.line_is; says = more.says; asked = more.asked; is = more.is }
]
