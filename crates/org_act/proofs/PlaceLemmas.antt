-- The section that begins with the line of a heading.
use Rattle.std.proofs.Common.{◌≡◌, ◌∙◌, ℕ, zero, suc, ◌-◌, ◌<◌, ◌≤◌, true, false, List, [], ◌∷◌, ◌++◌, length, take, refl, sym, ap, subst, arith, length-append}
use Rattle.std.specs.Prelude.{nat_lt, slice_get}
use Rattle.std.specs.List.{concat, flat_map, list_any}
use Rattle.std.proofs.lemmas.Bool.{and_parts, ltb-true, or_parts}
use Rattle.org_act.proofs.SectionLemmas.{inner_lines}
use Rattle.org_class.specs.Heading.{begins_heading}
use Rattle.org_class.specs.Sections.{sections}
use Rattle.org_class.proofs.Boundaries.{AreSections, are_sections}
use Rattle.org_lines.specs.Cuts.{lines}
use Rattle.org_lines.proofs.LineLemmas.{concat-lines}
use Rattle.org_store.specs.Begun.{IsBegunBy, has_heading, is_heading_line}
use Rattle.org_store.proofs.StartLemmas.{lines_of_sections}

-- behind lines that are no heading lines
behind_get : (ls ms : List (List ℕ)) (m : ℕ) → is_heading_line (slice_get (ls ++ ms) m) ≡ true → list_any begins_heading ls ≡ false →
    (length ls ≤ m) × (is_heading_line (slice_get ms (m - length ls)) ≡ true)
behind_get [] ms m h none = (let same : m - 0 ≡ m = omega arith in (omega arith, ap (λ k. is_heading_line (slice_get ms k)) same ∙ h))
behind_get (l ∷ ls) ms zero h none = absurd (let wrong : true ≡ false = sym h ∙ (or_parts (begins_heading l) (list_any begins_heading ls) none).0 in cc)
behind_get (l ∷ ls) ms (suc m) h none =
    let more = behind_get ls ms m h (or_parts (begins_heading l) (list_any begins_heading ls) none).1 in
    let same : suc m - length (l ∷ ls) ≡ m - length ls = omega arith in
    (omega (arith, more.0), ap (λ k. is_heading_line (slice_get ms k)) same ∙ more.1)

-- so many lines stand before one of the sections
record IsAt (ss : List (List ℕ)) (n : ℕ) : Type 0 where
  k : ℕ
  within : k < length ss
  before : n ≡ length (flat_map lines (take k ss))

no_lines : (s : List ℕ) → sections s ≡ s ∷ [] → lines s ≡ [] → ⊥
no_lines s one none =
    let empty : s ≡ [] = sym (concat-lines s) ∙ ap concat none in
    let wrong : [] ≡ [] ∷ [] = subst (λ t. sections t ≡ t ∷ []) empty one in
    cc

at_line : (ss : List (List ℕ)) → AreSections ss → (n : ℕ) → is_heading_line (slice_get (flat_map lines ss) n) ≡ true → IsAt ss n
at_line [] h n is = absurd cc
at_line (s ∷ ss) h n is = by (lines s) refl n is (λ k there. at_line ss h.2 k there)
  where
    by : (ls : List (List ℕ)) → lines s ≡ ls → (n : ℕ) → is_heading_line (slice_get (ls ++ flat_map lines ss) n) ≡ true →
        ((k : ℕ) → is_heading_line (slice_get (flat_map lines ss) k) ≡ true → IsAt ss k) → IsAt (s ∷ ss) n
    by [] e n is again = absurd (no_lines s h.0 e)
    by (b ∷ ls) e zero is again = record { k = 0; within = omega arith; before = refl }
    by (b ∷ ls) e (suc m) is again =
        let more = behind_get ls (flat_map lines ss) m is (inner_lines s b ls h.0 e) in
        let a = again (m - length ls) more.1 in
        let size : length (lines s) ≡ suc (length ls) = ap length e in
        record { k = suc a.k; within = omega (arith, a.within); before = omega (arith, length-append (lines s) (flat_map lines (take a.k ss)), size, a.before, more.0) }

-- where a heading stands on a line, a section begins with it
pub record IsBegun (text : List ℕ) (line : ℕ) : Type 0 where
  pub place : ℕ
  pub begun : IsBegunBy text line place

pub heading_begins : (text : List ℕ) (line : ℕ) → has_heading text line ≡ true → IsBegun text line
heading_begins text line h =
    let both = and_parts (nat_lt 0 line) (is_heading_line (slice_get (lines text) (line - 1))) h in
    let some : 0 < line = ltb-true 0 line both.0 in
    let a = at_line (sections text) (are_sections text) (line - 1) (ap (λ ls. is_heading_line (slice_get ls (line - 1))) (sym (lines_of_sections text)) ∙ both.1) in
    record { place = a.k; begun = record { within = a.within; first = omega (arith, some, a.before) } }
