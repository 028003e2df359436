-- At the place of a heading stands its line.
use Rattle.std.proofs.Common.{◌≡◌, ◌∙◌, ℕ, Bool, true, false, cond, zero, suc, ◌+◌, ◌-◌, ◌<◌, inl, inr, List, [], ◌∷◌, ◌++◌, length, take, drop, get_or, refl, sym, subst, ap, arith, append_assoc, length-append, take_at, drop_at}
use Rattle.std.specs.Prelude.{Option, None, Some, IsSome, nat_lt, slice_get}
use Rattle.std.specs.List.{concat, flat_map}
use Rattle.std.proofs.lemmas.Bool.{cases_Bool, ltb-true}
use Rattle.std.proofs.lemmas.List.{drop-drop}
use Rattle.org_class.specs.Classes.{classes, classes_under_heading, front_classes}
use Rattle.org_class.specs.Heading.{begins_heading}
use Rattle.org_class.specs.Sections.{sections}
use Rattle.org_class.proofs.Cuts.{concat-sections}
use Rattle.org_entry.specs.Entry.{PlacedLine, entry_of, heading_line, placed, text_of}
use Rattle.org_entry.proofs.EntryWords.{head_from}
use Rattle.org_entry.proofs.LineLemmas.{first, first_again}
use Rattle.org_entry.proofs.OtherLemmas.{other-front, same_head}
use Rattle.org_store.specs.Begun.{entry_there, lines_before, section_of, section_start}
use Rattle.org_store.specs.Outline.{file_settings}
use Rattle.org_store.proofs.StartLemmas.{line_there}
use Rattle.org_lines.specs.Cuts.{lines}
use Rattle.org_lines.proofs.LineLemmas.{concat-lines}
use Rattle.org_store.specs.Laws.{HeadingsAreThere}
use Rattle.org_store.specs.Places.{HasLine, place_at}
use Rattle.org_store.proofs.PlacesWords.{place_of}
use Rattle.org_store.specs.declared.place.Place.{Place}
use Rattle.org_settings.specs.Settings.{FileSettings}

-- the text that lines give
abbrev text_from : List PlacedLine → List ℕ
text_from ls = flat_map (λ l. text_of l.class l.bytes) ls

no_head : {X : Type 0} (o : Option X) → o ≡ None → IsSome o → ⊥
no_head None e some = cc
no_head (Some head) e some = cc

-- where a section has a heading, its first line is the entry's heading line
by_lines : (settings : FileSettings) (t : List ℕ) (ls : List (List ℕ)) → lines t ≡ ls → IsSome (head_from settings None (placed 0 ls (classes ls))) → slice_get ls 0 ≡ Some (first (text_from (placed 0 ls (classes ls))))
by_lines settings t [] e = λ some. absurd cc
by_lines settings t (l ∷ ls) e = elim (cases_Bool (begins_heading l)) [
  | inl h ↦
      let rest = placed (0 + length l) ls (classes_under_heading ls) in
      let line : first (l ++ text_from rest) ≡ l = first_again t l ls (text_from rest) e (λ none. rw none refl) in
      rw h (λ some. ap (λ x. Some x) (sym line))
  | inr h ↦
      let kept = same_head settings None 0 (l ∷ ls) (front_classes (l ∷ ls)) (other-front (l ∷ ls)) in
      rw h (λ some. absurd (no_head _ kept some))
]

first_is : (settings : FileSettings) (s : List ℕ) → IsSome (entry_of settings s).head → slice_get (lines s) 0 ≡ Some (heading_line (entry_of settings s))
first_is settings s some = by_lines settings s (lines s) refl some

some_first : (ls : List (List ℕ)) (l : List ℕ) → slice_get ls 0 ≡ Some l → 0 < length ls
some_first [] l e = absurd cc
some_first (m ∷ ls) l e = omega arith

-- a text begins with its first line
front : (ls : List (List ℕ)) (s l : List ℕ) → concat ls ≡ s → slice_get ls 0 ≡ Some l → (more : List ℕ) × (s ≡ l ++ more)
front [] s l is e = absurd cc
front (m ∷ ls) s l is e = let same : m ≡ l = cc in (concat ls, sym is ∙ ap (λ x. x ++ concat ls) same)

drop_behind : (s u : List ℕ) (m : ℕ) → drop (length s + m) (s ++ u) ≡ drop m u
drop_behind s u m = sym (drop-drop m (length s) (s ++ u)) ∙ ap (drop m) (drop_at s u (length s) refl)

-- where a section begins the text goes on with it
goes_on : (ss : List (List ℕ)) (k : ℕ) → k < length ss → (more : List ℕ) × (drop (length (concat (take k ss))) (concat ss) ≡ get_or ss k [] ++ more)
goes_on [] k lt = absurd (omega arith)
goes_on (s ∷ ss) zero lt = (concat ss, refl)
goes_on (s ∷ ss) (suc k) lt =
    let rest = goes_on ss k (omega arith) in
    (rest.0, ap (λ n. drop n (s ++ concat ss)) (length-append s (concat (take k ss))) ∙ drop_behind s (concat ss) (length (concat (take k ss))) ∙ rest.1)

take_cache : (l more after t : List ℕ) (at : ℕ) → drop at t ≡ (l ++ more) ++ after → take (length l) (drop at t) ≡ l
take_cache l more after t at e = ap (take (length l)) (e ∙ append_assoc l more after) ∙ take_at l (more ++ after) (length l) refl

-- at the place of a section with a heading stands its line
line_at_place : (text : List ℕ) (heading : ℕ) → heading < length (sections text) → IsSome (entry_there text heading).head →
    HasLine text (place_of text heading) (heading_line (entry_there text heading))
line_at_place text heading lt some =
    let s = section_of text heading in
    let line = heading_line (entry_there text heading) in
    let own : slice_get (lines s) 0 ≡ Some line = first_is (file_settings text) s some in
    let begins = front (lines s) s line (concat-lines s) own in
    let on = goes_on (sections text) heading lt in
    let behind : drop (section_start text heading) text ≡ (line ++ begins.0) ++ on.0 =
    ap (drop (section_start text heading)) (sym (concat-sections text)) ∙ on.1 ∙ ap (λ x. x ++ on.0) begins.1 in
    let back : lines_before text heading + 1 - 1 ≡ lines_before text heading + 0 = omega arith in
    record {
      bytes = take_cache line begins.0 on.0 text (section_start text heading) behind;
      number = ap (slice_get (lines text)) back ∙ line_there text heading 0 lt (some_first (lines s) line own) ∙ own;
    }

same_place : (p q : Place) → Some p ≡ Some q → p ≡ q
same_place p q e = cc

-- a place that is there is that of a section
placed_at : (text : List ℕ) (heading : ℕ) (place : Place) → place_at text heading ≡ Some place → (heading < length (sections text)) × (place_of text heading ≡ place)
placed_at text heading place is = by (nat_lt heading (length (sections text))) refl is
  where
    by : (b : Bool) → nat_lt heading (length (sections text)) ≡ b → cond b (Some (place_of text heading)) None ≡ Some place → (heading < length (sections text)) × (place_of text heading ≡ place)
    by true inside e = (ltb-true heading (length (sections text)) inside, same_place (place_of text heading) place e)
    by false outside e = absurd cc

pub headings_are_there : HeadingsAreThere
headings_are_there text heading place at some =
    let own = placed_at text heading place at in
    subst (λ (p : Place). HasLine text p (heading_line (entry_there text heading))) own.1 (line_at_place text heading own.0 some)
