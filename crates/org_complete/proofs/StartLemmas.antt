-- Where the section stands that begins with a line, and whether its first line is a heading line.
use Rattle.std.proofs.Common.{◌≡◌, ◌<◌, ◌≤◌, ℕ, zero, suc, ◌+◌, ◌-◌, Bool, false, List, [], ◌∷◌, ◌++◌, length, take, drop, get_or, refl, sym, ap, ◌∙◌, arith}
use Rattle.std.specs.Prelude.{slice_get}
use Rattle.std.specs.List.{concat, flat_map}
use Rattle.std.proofs.lemmas.Grind.{flat_map-append}
use Rattle.std.proofs.lemmas.List.{take-append-drop, take_at}
use Rattle.std.proofs.lemmas.List.Folds.{concat-append}
use Rattle.org_class.specs.Sections.{sections}
use Rattle.org_class.specs.Heading.{begins_heading}
use Rattle.org_class.specs.Sections.{is_headed}
use Rattle.org_class.proofs.Boundaries.{AreSections, are_sections, heading_of_section, sections-concat, AreSections-drop}
use Rattle.org_class.proofs.Runs.{first_line_headed}
use Rattle.org_class.proofs.Splice.{start_within, text_from}
use Rattle.org_complete.specs.Completion.{line_start, section_at}
use Rattle.org_store.specs.Begun.{IsBegunBy, has_heading, is_heading_line, lines_before, section_of, section_start}
use Rattle.org_store.proofs.StartLemmas.{at_line, has_lines, line_there, lines_of_sections, one_section}
use Rattle.org_lines.specs.Cuts.{lines}
use Rattle.org_lines.proofs.LineLemmas.{concat-lines}

get_or-first : (ss : List (List ℕ)) (k : ℕ) → get_or (drop k ss) 0 [] ≡ get_or ss k []
get_or-first ss zero = refl
get_or-first [] (suc k) = refl
get_or-first (s ∷ ss) (suc k) = get_or-first ss k

-- the section that begins where a section begins is that one
pub section_there : (t : List ℕ) (k : ℕ) → section_at t (section_start t k) ≡ section_of t k
section_there t k =
    ap (λ r. get_or (sections r) 0 []) (text_from t k)
    ∙ ap (λ ss. get_or ss 0 []) (sections-concat (drop k (sections t)) (AreSections-drop (sections t) k (are_sections t)))
    ∙ get_or-first (sections t) k

-- the lines of sections joined are the sections joined
concat-flat_lines : (ss : List (List ℕ)) → concat (flat_map lines ss) ≡ concat ss
concat-flat_lines [] = refl
concat-flat_lines (s ∷ ss) = concat-append (lines s) (flat_map lines ss) ∙ (rw (concat-lines s, concat-flat_lines ss) refl)

-- a heading stands on the line that a section begins with where it begins with a heading line
pub heading_there : (t : List ℕ) (line place : ℕ) → IsBegunBy t line place → has_heading t line ≡ is_heading_line (slice_get (lines (section_of t place)) 0)
heading_there t line place h =
    let some = has_lines (section_of t place) (one_section t place h.within) in
    let e : lines_before t place ≡ lines_before t place + 0 = omega arith in
    ap (has_heading t) h.first ∙ at_line t (lines_before t place) ∙ ap (λ n. is_heading_line (slice_get (lines t) n)) e
    ∙ ap is_heading_line (line_there t place 0 h.within some)

first_is_headed : (ls : List (List ℕ)) → is_heading_line (slice_get ls 0) ≡ is_headed ls
first_is_headed [] = refl
first_is_headed (l ∷ ls) = refl

heading_there_on : (ss : List (List ℕ)) (k : ℕ) → AreSections ss → k < length ss → begins_heading (concat (drop k ss)) ≡ begins_heading (get_or ss k [])
heading_there_on [] k h lt = absurd (omega arith)
heading_there_on (s ∷ ss) (suc k) h lt = heading_there_on ss k h.2 (omega arith)
heading_there_on ([] ∷ ss) zero h lt = absurd (let e : [] ≡ [] ∷ [] = h.0 in cc)
heading_there_on ((b ∷ s) ∷ ss) zero h lt = heading_of_section b s (concat ss) h.1

-- and where one begins at the section's first byte
pub heading_at_start : (t : List ℕ) (line place : ℕ) → IsBegunBy t line place → has_heading t line ≡ begins_heading (drop (section_start t place) t)
heading_at_start t line place h =
    heading_there t line place h ∙ first_is_headed (lines (section_of t place)) ∙ first_line_headed (section_of t place)
    ∙ sym (ap begins_heading (text_from t place) ∙ heading_there_on (sections t) place (are_sections t) h.within)

-- and so none stands on the line where none begins there
pub none_at_start : (t text : List ℕ) (line place start : ℕ) (found : Bool) → IsBegunBy t line place → text ≡ t → start ≡ section_start t place → found ≡ begins_heading (drop start text) → found ≡ false → has_heading t line ≡ false
none_at_start t text line place start found h same here is none =
    heading_at_start t line place h ∙ sym (is ∙ ap (λ x. begins_heading (drop start x)) same ∙ ap (λ n. begins_heading (drop n t)) here) ∙ none

-- a section begins in its text
pub start_in : (t text : List ℕ) (place start : ℕ) → text ≡ t → start ≡ section_start t place → start ≤ length text
start_in t text place start same here = let within = start_within t place in let long = ap length same in omega (arith, within, long, here)

-- the line begins where the section does
pub start_there : (t : List ℕ) (line place : ℕ) → IsBegunBy t line place → line_start t line ≡ section_start t place
start_there t line place h =
    let front = take place (sections t) in
    let back : line - 1 ≡ lines_before t place = omega (arith, h.first) in
    let all : lines t ≡ flat_map lines front ++ flat_map lines (drop place (sections t)) =
    lines_of_sections t ∙ ap (flat_map lines) (sym (take-append-drop place (sections t))) ∙ flat_map-append lines front (drop place (sections t)) in
    ap (λ n. length (concat (take n (lines t)))) back
    ∙ ap (λ ls. length (concat (take (lines_before t place) ls))) all
    ∙ ap (λ ls. length (concat ls)) (take_at (flat_map lines front) (flat_map lines (drop place (sections t))) (lines_before t place) refl)
    ∙ ap length (concat-flat_lines front)
