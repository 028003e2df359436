-- What a change needs of the kept sections.
use Rattle.std.proofs.Common.{Bool, true, false, ◌||◌, ◌==◌, drop, refl, ◌≡◌, ◌∙◌, ℕ, suc, ◌+◌, ◌-◌, ◌^◌, ◌<◌, ◌≤◌, ltb, List, [], ◌∷◌, map, length, take, sym, ap, arith, sum}
use Rattle.std.specs.List.{sum_by, slice_range}
use Rattle.std.proofs.lemmas.Bool.{cond_both, cond-true, ltb-true, le-ltb}
use Rattle.std.proofs.lemmas.List.{length-map, take-map}
use Rattle.std.proofs.lemmas.List.Sums.{sum-map}
use Rattle.org_base.specs.Spans.{bytes_in}
use Rattle.org_base.specs.declared.span.Span.{Span}
use Rattle.org_class.specs.Changes.{begun_by, ended_before, first_touched, first_touched_by, new_sections, section_lengths, start_by, start_of, touched_end}
use Rattle.org_class.specs.Heading.{begins_heading}
use Rattle.org_class.specs.Sections.{sections}
use Rattle.org_store.proofs.FreshLemmas.{part_length}
use Rattle.org_class.proofs.Repairs.{bounds, first_below, same_first}
use Rattle.org_class.proofs.Starts.{ended_within, start_by_is, start_ended_by}
use Rattle.org_store.specs.File.{AreOf}
use Rattle.org_store.specs.Sections.{SectionView, fresh_section, section_len}
use Rattle.org_store.proofs.KeptLemmas.{count_of, fresh_size, lengths_of, size_before, size_of}
use Rattle.org_text.specs.Replace.{replace}

-- what ends before a place begins before a later one
pub in_order : (at stop : ℕ) (ns : List ℕ) → at ≤ stop → ended_before at ns ≤ begun_by stop ns
in_order at stop [] le = omega arith
in_order at stop (n ∷ ns) le = cond_both (ltb n at) (suc (ended_before (at - n) ns)) 0 (λ m. m ≤ begun_by stop (n ∷ ns))
    (λ e.
    let under = ltb-true n at e in
    let rest = in_order (at - n) (stop - n) ns (omega arith) in
    rw (le-ltb stop n (omega arith)) (omega arith))
    (λ e. omega arith)

-- the numbers of a change, and where its new sections stand
pub record Fits (t ins : List ℕ) (list : List SectionView) (at del : ℕ) : Type 0 where
  pub size : sum_by section_len list ≡ length t
  pub count : length list ≡ length (sections t)
  pub first : first_touched_by (map section_len list) (replace t at del ins) at ≡ first_touched t at del ins
  pub end : begun_by (at + del) (map section_len list) ≡ touched_end t at del
  pub room : at ≤ length (replace t at del ins)
  pub ended : ended_before at (map section_len list) ≤ length list
  pub first_within : first_touched t at del ins ≤ length list
  pub end_within : touched_end t at del ≤ length list
  pub order : first_touched t at del ins ≤ touched_end t at del
  pub from : sum_by section_len (take (first_touched t at del ins) list) ≡ start_of (sections t) (first_touched t at del ins)
  pub to : sum_by section_len (take (touched_end t at del) list) ≡ start_of (sections t) (touched_end t at del)
  pub before : start_of (sections t) (first_touched t at del ins) ≤ at
  pub behind : at + del ≤ start_of (sections t) (touched_end t at del)
  pub within : start_of (sections t) (touched_end t at del) - del + length ins ≤ length (replace t at del ins)

module _ (t ins : List ℕ) (list : List SectionView) (at del : ℕ) (kept : AreOf t list) (inside : at + del ≤ length t) (small : length t < 2 ^ 32) where
  pub fits : Fits t ins list at del
  fits =
      let ns : List ℕ = section_lengths t in
      let lens : map section_len list ≡ ns = lengths_of t list kept in
      let b = bounds t ins at del inside small in
      let new = replace t at del ins in
      let f : ℕ = first_touched t at del ins in
      let e : ℕ = touched_end t at del in
      let same : first_touched_by ns new at ≡ f = same_first t ins at del inside small in
      let count = count_of t list kept in
      let all : length ns ≡ length (sections t) = length-map (sections t) length in
      let low : f ≤ ended_before at ns = rw same at (first_below ns new at) in
      let from_is : start_by ns f ≡ start_of (sections t) f = start_by_is (sections t) f in
      let to_is : start_by ns e ≡ start_of (sections t) e = start_by_is (sections t) e in
      record {
        size = size_of t list kept;
        count = count;
        first = ap (λ xs. first_touched_by xs new at) lens ∙ same;
        end = ap (begun_by (at + del)) lens;
        room = b.room;
        ended = omega (arith, ap (λ xs. ended_before at xs) lens, count, all, ended_within at ns);
        first_within = omega (arith, same, b.first_within, count, all);
        end_within = omega (arith, b.end_within, count, all);
        order = omega (arith, low, in_order at (at + del) ns (omega arith));
        from = size_before t list f kept;
        to = size_before t list e kept;
        before = omega (arith, b.before, ap (start_by ns) same, from_is);
        behind = omega (arith, b.behind, to_is);
        within = omega (arith, b.within, to_is);
      }

  -- the sections of the part are the new ones
  pub part_is : (new : List ℕ) (from to len : ℕ) → new ≡ replace t at del ins → from ≡ start_of (sections t) (first_touched t at del ins) → to ≡ start_of (sections t) (touched_end t at del) - del + length ins → len ≡ to - from →
      sections (bytes_in new (record { at = from; len = len })) ≡ new_sections t at del ins
  part_is new from to len changed from_is to_is len_is =
      let h = fits in
      let end : from + len ≡ start_of (sections t) (touched_end t at del) + length ins - del = omega (arith, from_is, to_is, len_is, h.before, h.behind) in
      ap sections (λ i. slice_range (changed i) (from_is i) (end i))

-- where the search for the first touched section ends
pub ended_few : (list : List SectionView) (at : ℕ) → ended_before at (map section_len list) ≤ length list
ended_few list at = omega (arith, ended_within at (map section_len list), length-map list section_len)

pub ended_start : (list : List SectionView) (k : ℕ) → sum_by section_len (take k list) ≡ start_by (map section_len list) k
ended_start list k = sym (sum-map section_len (take k list)) ∙ ap sum (sym (take-map section_len k list))

pub ended_low : (list : List SectionView) (at : ℕ) → sum_by section_len (take (ended_before at (map section_len list)) list) ≤ at
ended_low list at = omega (arith, ended_start list (ended_before at (map section_len list)), start_ended_by at (map section_len list))

pub first_none : (lens new : List ℕ) (at f : ℕ) → f ≡ ended_before at lens → f ≡ 0 → 0 ≡ first_touched_by lens new at
first_none lens new at f is none = let z : ended_before at lens ≡ 0 = sym is ∙ none in rw z refl

or_yes : (a b : Bool) → b ≡ true → (a || b) ≡ true
or_yes true b e = refl
or_yes false b e = e

pub first_headed : (lens new : List ℕ) (at f start : ℕ) (h : Bool) → f ≡ ended_before at lens → start ≡ start_by lens f → h ≡ begins_heading (drop start new) → h ≡ true → f ≡ first_touched_by lens new at
first_headed lens new at f start h is place heading so =
    let there : begins_heading (drop (start_by lens (ended_before at lens)) new) ≡ true = ap (λ p. begins_heading (drop p new)) (sym (place ∙ ap (start_by lens) is)) ∙ (sym heading ∙ so) in
    is ∙ sym (cond-true ((ended_before at lens == 0) || begins_heading (drop (start_by lens (ended_before at lens)) new)) (ended_before at lens) (ended_before at lens - 1) (or_yes (ended_before at lens == 0) (begins_heading (drop (start_by lens (ended_before at lens)) new)) there))

pub first_headless : (lens new : List ℕ) (at f start : ℕ) (h : Bool) → f ≡ ended_before at lens → start ≡ start_by lens f → h ≡ begins_heading (drop start new) → h ≡ false → (f == 0) ≡ false → f - 1 ≡ first_touched_by lens new at
first_headless lens new at f start h is place heading so some =
    let there : begins_heading (drop (start_by lens (ended_before at lens)) new) ≡ false = ap (λ p. begins_heading (drop p new)) (sym (place ∙ ap (start_by lens) is)) ∙ (sym heading ∙ so) in
    let more : (ended_before at lens == 0) ≡ false = ap (λ n. n == 0) (sym is) ∙ some in
    ap (λ n. n - 1) is ∙ sym (rw (more, there) refl)

-- both lists together are no longer than both texts
pub both_fit : (t new : List ℕ) (list shared items : List SectionView) (part : Span) → AreOf t list → shared ≡ list → items ≡ map fresh_section (sections (bytes_in new part)) → part.at + part.len ≤ length new →
    sum_by section_len shared + sum_by section_len items ≤ length t + length new
both_fit t new list shared items part kept same fresh within =
    omega (arith, ap (sum_by section_len) same, size_of t list kept, fresh_size (bytes_in new part) items fresh, part_length new part within)
