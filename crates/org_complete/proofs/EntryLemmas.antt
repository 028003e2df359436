-- What stands where in the section of a heading: the heading line, then the planning line with its stamps.
use Rattle.std.proofs.Common.{◌≡◌, ℕ, ◌+◌, true, false, inl, inr, None, List, [], ◌∷◌, ◌++◌, length, drop, refl, sym, ap, ◌∙◌, subst, arith, append-nil, append_assoc, length-drop}
use Rattle.std.proofs.lemmas.Bool.{cases_Bool}
use Rattle.std.specs.List.{concat}
use Rattle.std.specs.Prelude.{IfSome, slice_get}
use Rattle.org_class.specs.Classes.{classes, front_classes}
use Rattle.org_class.specs.Drawers.{classes_below}
use Rattle.org_drawer.specs.Planning.{planning_of}
use Rattle.org_entry.specs.Entry.{placed, entry_of, entry_of_lines, heading_line}
use Rattle.org_entry.proofs.EntryWords.{head_from}
use Rattle.org_entry.specs.Planning.{entry_planning}
use Rattle.org_entry.specs.declared.entry.Entry.{Entry}
use Rattle.org_entry.proofs.LineLemmas.{first, first_again, first_within}
use Rattle.org_entry.proofs.OtherLemmas.{no_text, same_head, other-below, other-front}
use Rattle.org_store.specs.Begun.{is_heading_line}
use Rattle.org_lines.specs.Cuts.{lines}
use Rattle.org_lines.proofs.LineLemmas.{concat-lines}
use Rattle.org_settings.specs.Settings.{FileSettings}
use Rattle.org_stamp.specs.Pair.{is_planning}
use Rattle.org_utf8.proofs.Spans.{IsFront}
use Rattle.org_complete.proofs.PairLemmas.{IsLaid, planning_laid, moved_laid}

-- The entry's text stands at the front of the section, the heading line at the front of that, and the stamps of planning
-- after it, one after the other.
pub record HasPlaces (section : List ℕ) (entry : Entry) : Type 0 where
  pub text : IsFront section entry.text
  pub line : IsFront entry.text (heading_line entry)
  pub planning : IfSome (entry_planning entry) (IsLaid (length (heading_line entry)) (length entry.text))

-- the stamps of planning lie after the heading line in the text
planning_within : (entry : Entry) → IfSome (entry_planning entry) (IsLaid (length (heading_line entry)) (length entry.text))
planning_within entry =
    let n = length (heading_line entry) in
    let rest = drop n entry.text in
    let size : n + length rest ≡ length entry.text = omega (arith, length-drop n entry.text, first_within entry.text) in
    subst (λ k. IfSome (entry_planning entry) (IsLaid n k)) size (moved_laid n (length rest) (planning_of rest) (planning_laid rest))

of_parts : (t l : List ℕ) (ls : List (List ℕ)) (more : List ℕ) (entry : Entry) → lines t ≡ l ∷ ls → (ls ≡ [] → more ≡ []) → entry.text ≡ l ++ more → IsFront t (l ++ more) → HasPlaces t entry
of_parts t l ls more entry e last text front =
    let line : heading_line entry ≡ l = ap first text ∙ first_again t l ls more e last in
    record {
      text = subst (IsFront t) (sym text) front;
      line = record { behind = more; joined = text ∙ ap (λ x. x ++ more) (sym line) };
      planning = planning_within entry;
    }

whole : (t : List ℕ) (ls : List (List ℕ)) → lines t ≡ ls → t ≡ concat ls
whole t ls e = sym (concat-lines t) ∙ ap concat e

places : (settings : FileSettings) (t : List ℕ) (ls : List (List ℕ)) → lines t ≡ ls → is_heading_line (slice_get ls 0) ≡ true → HasPlaces t (entry_of_lines settings (placed 0 ls (classes ls)))
places settings t [] e h = absurd cc
places settings t (l ∷ []) e h = rw h (of_parts t l [] [] _ e (λ _. refl) refl (record { behind = []; joined = whole t (l ∷ []) e ∙ sym (append-nil (l ++ [])) }))
places settings t (l ∷ m ∷ ms) e h = elim (cases_Bool (is_planning m)) [
  | inl p ↦
      let none = no_text settings (0 + length l + length m) ms (classes_below ms) (other-below ms) in
      let front : t ≡ (l ++ m) ++ concat ms = whole t (l ∷ m ∷ ms) e ∙ sym (append_assoc l m (concat ms)) in
      rw (h, p) (of_parts t l (m ∷ ms) m _ e (λ none. absurd cc) (rw (none, append-nil m) refl) (record { behind = concat ms; joined = front }))
  | inr p ↦
      let none = no_text settings (0 + length l) (m ∷ ms) (classes_below (m ∷ ms)) (other-below (m ∷ ms)) in
      let front : t ≡ (l ++ []) ++ concat (m ∷ ms) = whole t (l ∷ m ∷ ms) e ∙ ap (λ x. x ++ concat (m ∷ ms)) (sym (append-nil l)) in
      rw (h, p) (of_parts t l (m ∷ ms) [] _ e (λ _. refl) (ap (λ x. l ++ x) none) (record { behind = concat (m ∷ ms); joined = front }))
]

pub entry_places : (settings : FileSettings) (section : List ℕ) → is_heading_line (slice_get (lines section) 0) ≡ true → HasPlaces section (entry_of settings section)
entry_places settings section h = places settings section (lines section) refl h

-- where no heading line stands at the front there is no head
pub no_head : (settings : FileSettings) (section : List ℕ) → is_heading_line (slice_get (lines section) 0) ≡ false → (entry_of settings section).head ≡ None
no_head settings section h = of (lines section) h
  where
    of : (ls : List (List ℕ)) → is_heading_line (slice_get ls 0) ≡ false → head_from settings None (placed 0 ls (classes ls)) ≡ None
    of [] e = refl
    of (l ∷ ls) e = rw e (same_head settings None 0 (l ∷ ls) (front_classes (l ∷ ls)) (other-front (l ∷ ls)))
