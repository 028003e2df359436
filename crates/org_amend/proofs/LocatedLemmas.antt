-- Where the running clock of a heading stands among the lines of its section.
use Rattle.std.proofs.Common.{◌≡◌, ◌∙◌, ℕ, ◌+◌, true, List, [], ◌∷◌, ◌++◌, length, refl, sym, ap, arith}
use Rattle.std.specs.Prelude.{Option, Some, None, slice_get}
use Rattle.std.specs.List.{concat}
use Rattle.org_amend.specs.Clocks.{first_running, since, stamp_end}
use Rattle.org_amend.specs.Laws.{IsFirst}
use Rattle.org_amend.specs.declared.running.RunningClock.{RunningClock}
use Rattle.org_base.specs.Spans.{bytes_in}
use Rattle.org_base.specs.declared.span.Span.{Span}
use Rattle.org_class.specs.Classes.{classes, section_classes}
use Rattle.org_class.specs.Heading.{begins_heading}
use Rattle.org_class.specs.Sections.{is_headed}
use Rattle.org_class.specs.declared.class.Class.{Class}
use Rattle.org_class.specs.declared.class.Class.TheVariants.{Clock, Heading}
use Rattle.org_class.proofs.Runs.{first_line_headed}
use Rattle.org_lines.specs.Cuts.{lines}

-- behind the heading's line, with lines before it and behind it
pub record IsLocated (text : List ℕ) (section : Span) (r : RunningClock) : Type 0 where
  pub h : List ℕ
  pub bs : List (List ℕ)
  pub line : List ℕ
  pub after : List (List ℕ)
  pub begins : begins_heading h ≡ true
  pub lines_are : lines (bytes_in text section) ≡ (h ∷ bs) ++ line ∷ after
  pub class_is : slice_get (section_classes (bytes_in text section)) (length (h ∷ bs)) ≡ Some Clock
  pub runs : since line ≡ Some r.from
  pub at_is : r.at ≡ section.at + length (concat (h ∷ bs))
  pub len_is : r.len ≡ length line
  pub end_is : r.end ≡ r.at + stamp_end line
  pub none_before : first_running (section_classes (bytes_in text section)) 0 section.at (h ∷ bs) ≡ None

-- a heading line's class
pub first_class : (h : List ℕ) (ls : List (List ℕ)) → begins_heading h ≡ true → slice_get (classes (h ∷ ls)) 0 ≡ Some Heading
first_class h ls begins = rw begins refl

pub located : (text : List ℕ) (section : Span) (r : RunningClock) → begins_heading (bytes_in text section) ≡ true → IsFirst (section_classes (bytes_in text section)) 0 section.at (lines (bytes_in text section)) r →
    IsLocated text section r
located text section r begins f = by f.before refl
  where
    headed : (l : List ℕ) (ls : List (List ℕ)) → lines (bytes_in text section) ≡ l ∷ ls → begins_heading l ≡ true
    headed l ls is = sym (ap is_headed is) ∙ (first_line_headed (bytes_in text section) ∙ begins)

    by : (before : List (List ℕ)) → f.before ≡ before → IsLocated text section r
    by [] none =
        let s = bytes_in text section in
        let is : lines s ≡ f.line ∷ f.after = f.lines_are ∙ ap (λ ls. ls ++ f.line ∷ f.after) none in
        let zero' : 0 + length f.before ≡ 0 = ap (λ ls. 0 + length ls) none in
        let clock : slice_get (section_classes s) 0 ≡ Some Clock = ap (slice_get (section_classes s)) (sym zero') ∙ f.class_is in
        let first : slice_get (section_classes s) 0 ≡ Some Heading = ap (λ ls. slice_get (classes ls) 0) is ∙ first_class f.line f.after (headed f.line f.after is) in
        absurd (let wrong : ◌≡◌ {A = Option Class} (Some Clock) (Some Heading) = sym clock ∙ first in cc)
    by (h ∷ bs) before =
        let s = bytes_in text section in
        let is : lines s ≡ (h ∷ bs) ++ f.line ∷ f.after = f.lines_are ∙ ap (λ ls. ls ++ f.line ∷ f.after) before in
        let len : length f.before ≡ length (h ∷ bs) = ap length before in
        let count : 0 + length f.before ≡ length (h ∷ bs) = omega (arith, len) in
        record {
          h = h;
          bs = bs;
          line = f.line;
          after = f.after;
          begins = headed h (bs ++ f.line ∷ f.after) is;
          lines_are = is;
          class_is = ap (slice_get (section_classes s)) (sym count) ∙ f.class_is;
          runs = f.runs;
          at_is = f.at_is ∙ ap (λ ls. section.at + length (concat ls)) before;
          len_is = f.len_is;
          end_is = f.end_is;
          none_before = ap (first_running (section_classes s) 0 section.at) (sym before) ∙ f.none_before;
        }
