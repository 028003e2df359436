-- The section of the heading on a line.
use Rattle.std.proofs.Common.{◌≡◌, ◌<◌, ℕ, zero, suc, ◌+◌, true, false, Bool, List, [], ◌∷◌, length, take, drop, get_or, refl, sym, ◌∙◌, ap, subst, arith, length-append}
use Rattle.std.specs.Prelude.{Option, Some, Ok, Err, slice_get}
use Rattle.std.specs.List.{concat}
use Rattle.std.proofs.lemmas.List.Elements.{All-get_or}
use Rattle.std.proofs.lemmas.Option.{get_or_from_slice_get, slice_get_within}
use Rattle.org_act.specs.ClockSections.{span_at}
use Rattle.org_act.specs.Clocking.{section_on, section_part}
use Rattle.org_act.specs.Completing.{no_heading}
use Rattle.org_base.specs.Spans.{IsInside}
use Rattle.org_base.specs.declared.span.Span.{Span}
use Rattle.org_class.specs.Heading.{begins_heading}
use Rattle.org_class.specs.Sections.{AreInside, sections, spans_from}
use Rattle.org_complete.specs.Completion.{line_start}
use Rattle.org_complete.proofs.StartLemmas.{heading_at_start, section_there, start_there}
use Rattle.org_store.specs.Begun.{IsBegunBy, has_heading, section_of, section_start}

-- where the section at a place stands among the spans of all
span_there : (at : ℕ) (ss : List (List ℕ)) (k : ℕ) → k < length ss → slice_get (spans_from at ss) k ≡ Some (record { at = at + length (concat (take k ss)); len = length (get_or ss k []) })
span_there at [] k lt = absurd (omega arith)
span_there at (s ∷ ss) zero lt = let same : at ≡ at + 0 = omega arith in ap (λ n. Some (record { at = n; len = length s })) same
span_there at (s ∷ ss) (suc k) lt =
    let same : at + length s + length (concat (take k ss)) ≡ at + length (concat (take (suc k) (s ∷ ss))) = omega (arith, length-append s (concat (take k ss))) in
    span_there (at + length s) ss k (omega arith) ∙ ap (λ n. Some (record { at = n; len = length (get_or ss k []) })) same

same_span : (a b : Span) → ◌≡◌ {A = Option Span} (Some a) (Some b) → a ≡ b
same_span a b e = cc

pub found_span : (text : List ℕ) (place : ℕ) (spans : List Span) (span : Span) → place < length (sections text) → Some span ≡ slice_get spans place → spans ≡ spans_from 0 (sections text) → span ≡ span_at text place
found_span text place spans span lt found are =
    let none : 0 + length (concat (take place (sections text))) ≡ section_start text place = omega arith in
    same_span span (span_at text place)
    (found ∙ (ap (λ s. slice_get s place) are ∙ (span_there 0 (sections text) place lt ∙ ap (λ n. Some (record { at = n; len = length (section_of text place) })) none)))

pub span_inside : (text : List ℕ) (place : ℕ) (spans : List Span) (span : Span) → AreInside text spans → Some span ≡ slice_get spans place → IsInside text span
span_inside text place spans span all found =
    let is = sym found in
    subst (IsInside text) (get_or_from_slice_get spans place span span is) (All-get_or (IsInside text) spans place span (slice_get_within spans place span is) all)

-- the heading is there, or isn't

pub no_section : (t : List ℕ) (line : ℕ) → has_heading t line ≡ false → section_on t line ≡ Err no_heading
no_section t line h = rw h refl

pub heading_found : (t text : List ℕ) (line place start : ℕ) (found : Bool) → IsBegunBy t line place → text ≡ t → start ≡ section_start t place → found ≡ begins_heading (drop start text) → found ≡ true → has_heading t line ≡ true
heading_found t text line place start found h same here is there =
    heading_at_start t line place h ∙ sym (is ∙ ap (λ x. begins_heading (drop start x)) same ∙ ap (λ n. begins_heading (drop n t)) here) ∙ there

pub section_found : (t : List ℕ) (line place : ℕ) → IsBegunBy t line place → has_heading t line ≡ true → section_on t line ≡ Ok (span_at t place)
section_found t line place b h =
    let part : section_part t (line_start t line) ≡ span_at t place =
    ap (section_part t) (start_there t line place b) ∙ ap (λ (s : List ℕ). record { at = section_start t place; len = length s }) (section_there t place) in
    rw h (ap Ok part)
