-- The planning line of a section stands after the heading line in its entry's text.
use Rattle.std.proofs.Common.{◌≡◌, ℕ, ◌+◌, true, None, Option, List, [], ◌∷◌, ◌++◌, length, drop, refl, sym, ap, ◌∙◌, inl, inr, arith, append-nil}
use Rattle.std.proofs.lemmas.Bool.{cases_Bool}
use Rattle.std.proofs.Math.Seq.{drop-append_seam}
use Rattle.std.proofs.lemmas.List.{drop_all}
use Rattle.std.specs.Option.{option_map}
use Rattle.org_class.specs.Classes.{classes, front_classes}
use Rattle.org_class.specs.Drawers.{classes_below}
use Rattle.org_class.specs.Heading.{begins_heading}
use Rattle.org_drawer.specs.Planning.{planning_of}
use Rattle.org_drawer.specs.declared.planning.Planning.{Planning}
use Rattle.org_entry.specs.Entry.{heading_line, placed, entry_of_lines}
use Rattle.org_entry.specs.declared.entry.Entry.{Entry}
use Rattle.org_entry.specs.Laws.{PlanningIsOfItsLine}
use Rattle.org_entry.specs.Planning.{entry_planning, moved, planning_from}
use Rattle.org_entry.proofs.LineLemmas.{first, first_again}
use Rattle.org_entry.proofs.OtherLemmas.{other-below, other-front, no_text, same_planning}
use Rattle.org_lines.specs.Cuts.{lines}
use Rattle.org_settings.specs.Settings.{FileSettings}
use Rattle.org_stamp.specs.Pair.{is_planning, pairs_from}

-- what stands after the first line of a text says it
abbrev planning_in : List ℕ → Option Planning
planning_in text = let at = length (first text) in option_map (moved at) (planning_of (drop at text))

-- an empty line says nothing
none_planned : (at : ℕ) → option_map (moved at) (planning_of []) ≡ None
unfolding pairs_from
none_planned at = refl

-- an entry that is its heading line alone has none
pub none_behind : (e : Entry) (line text : List ℕ) (n : ℕ) → line ≡ heading_line e → text ≡ e.text → n ≡ length line → n ≡ length text → None ≡ entry_planning e
none_behind e line text n l t a b =
    let at : ℕ = length (heading_line e) in
    let all : at ≡ length e.text = ap length (sym l) ∙ sym a ∙ b ∙ ap length t in
    sym (ap (λ bs. option_map (moved at) (planning_of bs)) (drop_all at e.text (omega (arith, all))) ∙ none_planned at)

-- after the first line stands what follows it
behind_first : (t l : List ℕ) (ls : List (List ℕ)) (more : List ℕ) → lines t ≡ l ∷ ls → (ls ≡ [] → more ≡ []) → planning_in (l ++ more) ≡ option_map (moved (length l)) (planning_of more)
behind_first t l ls more e last = rw (first_again t l ls more e last, drop-append_seam l more) refl

under_heading : (settings : FileSettings) (t l : List ℕ) (ls : List (List ℕ)) → lines t ≡ l ∷ ls → begins_heading l ≡ true →
    entry_planning (entry_of_lines settings (placed 0 (l ∷ ls) (classes (l ∷ ls)))) ≡ planning_from None (placed 0 (l ∷ ls) (classes (l ∷ ls)))
under_heading settings t l [] e h = rw h (behind_first t l [] [] e (λ _. refl) ∙ none_planned (length l))
under_heading settings t l (m ∷ ms) e h = elim (cases_Bool (is_planning m)) [
  | inl p ↦
      let n = 0 + length l in
      let none = no_text settings (n + length m) ms (classes_below ms) (other-below ms) in
      let kept = same_planning settings (option_map (moved n) (planning_of m)) (n + length m) ms (classes_below ms) (other-below ms) in
      let low : length l ≡ n = omega arith in
      rw (h, p) (
      ap (λ x. planning_in (l ++ (m ++ x))) none
      ∙ ap (λ x. planning_in (l ++ x)) (append-nil m)
      ∙ behind_first t l (m ∷ ms) m e (λ none. absurd cc)
      ∙ ap (λ k. option_map (moved k) (planning_of m)) low
      ∙ sym kept
      )
  | inr p ↦
      let n = 0 + length l in
      let none = no_text settings n (m ∷ ms) (classes_below (m ∷ ms)) (other-below (m ∷ ms)) in
      let kept = same_planning settings None n (m ∷ ms) (classes_below (m ∷ ms)) (other-below (m ∷ ms)) in
      rw (h, p) (ap (λ x. planning_in (l ++ x)) none ∙ behind_first t l (m ∷ ms) [] e (λ _. refl) ∙ none_planned (length l) ∙ sym kept)
]

by_lines : (settings : FileSettings) (t : List ℕ) (ls : List (List ℕ)) → lines t ≡ ls → entry_planning (entry_of_lines settings (placed 0 ls (classes ls))) ≡ planning_from None (placed 0 ls (classes ls))
by_lines settings t [] e = none_planned 0
by_lines settings t (l ∷ ls) e = elim (cases_Bool (begins_heading l)) [
  | inl h ↦ under_heading settings t l ls e h
  | inr h ↦
      let none = no_text settings 0 (l ∷ ls) (front_classes (l ∷ ls)) (other-front (l ∷ ls)) in
      let kept = same_planning settings None 0 (l ∷ ls) (front_classes (l ∷ ls)) (other-front (l ∷ ls)) in
      rw h (ap planning_in none ∙ none_planned 0 ∙ sym kept)
]

pub planning_is_of_its_line : PlanningIsOfItsLine
planning_is_of_its_line settings section = by_lines settings section (lines section) refl
