-- Lines of so many columns at most, which can be shown.
use Rattle.std.proofs.Common.{Bool, true, ◌≡◌, ℕ, ◌≤◌, List, [], ◌∷◌, ◌++◌, sym, ap, subst, All}
use Rattle.std.specs.List.{flat_map}
use Rattle.std.proofs.lemmas.List.Elements.{All-nil, All-push}
use Rattle.org_day.specs.Lines.{AreShown, IsLine, line_text, span_text}
use Rattle.org_day.specs.Shown.{IsShown}
use Rattle.org_day.specs.Widths.{columns_of}
use Rattle.org_day.specs.declared.line.Line.{Line}
use Rattle.org_day.specs.declared.line.Span.{Span}
use Rattle.org_day.proofs.WidthLemmas.{nothing_within}

pub fitting : (columns : ℕ) (line : Line) (fits : Bool) → (fits ≡ true → columns_of (line_text line) ≤ columns) → fits ≡ true → AreShown line.spans.items → IsLine columns line
fitting columns line fits within is shown = record { within = within is; shown = shown }

pub empty_line : (columns : ℕ) (line : Line) → line.spans.items ≡ [] → IsLine columns line
empty_line columns line none = record {
  within = nothing_within columns (line_text line) (ap (flat_map span_text) none);
  shown = subst AreShown (sym none) (All-nil (λ span. IsShown (span_text span)));
}

pub one_line_more : (columns : ℕ) (lines new : List Line) (line : Line) → IsLine columns line → new ≡ lines ++ line ∷ [] → All (IsLine columns) lines → All (IsLine columns) new
one_line_more columns lines new line is added before = subst (All (IsLine columns)) (sym added) (All-push (IsLine columns) lines line before is)
