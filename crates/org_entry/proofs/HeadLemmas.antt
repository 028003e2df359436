-- The heading line of a section is the first line of its entry's text, and no other line has its class.
use Rattle.std.proofs.Common.{◌≡◌, ℕ, ◌+◌, true, Some, None, Option, List, [], ◌∷◌, ◌++◌, length, refl, sym, ap, ◌∙◌, subst, inl, inr}
use Rattle.std.proofs.lemmas.Bool.{cases_Bool}
use Rattle.std.specs.List.{flat_map}
use Rattle.std.specs.Prelude.{IfSome}
use Rattle.org_class.specs.Classes.{classes, classes_under_heading, front_classes}
use Rattle.org_class.specs.Heading.{begins_heading}
use Rattle.org_settings.specs.Settings.{FileSettings}
use Rattle.org_class.specs.declared.class.Class.{Class}
use Rattle.org_class.specs.declared.class.Class.TheVariants.{Heading, Planning, DrawerOpen, Node, DrawerEnd, Clock, Setting, Comment, BlockOpen, Verbatim, BlockEnd, Plain}
use Rattle.org_entry.specs.Entry.{PlacedLine, placed, text_of, head_after, entry_of, heading_line}
use Rattle.org_entry.proofs.EntryWords.{head_from}
use Rattle.org_entry.specs.Laws.{HeadsAreOfTheirLines}
use Rattle.org_entry.specs.declared.entry.Entry.{Entry}
use Rattle.org_entry.proofs.ClassLemmas.{fits, AllFit, fit-under, fit-front}
use Rattle.org_entry.proofs.LineLemmas.{first, first_again}
use Rattle.org_head.specs.Head.{head_of}
use Rattle.org_head.specs.declared.head.Head.{Head}
use Rattle.org_lines.specs.Cuts.{lines}

same_head : (settings : FileSettings) (head : Option Head) (c : Class) (l : List ℕ) → fits c l ≡ true → head_after settings head c l ≡ head
same_head settings head Heading l h = absurd cc
same_head settings head Planning l h = refl
same_head settings head DrawerOpen l h = refl
same_head settings head Node l h = refl
same_head settings head DrawerEnd l h = refl
same_head settings head Clock l h = refl
same_head settings head Setting l h = refl
same_head settings head Comment l h = refl
same_head settings head BlockOpen l h = refl
same_head settings head Verbatim l h = refl
same_head settings head BlockEnd l h = refl
same_head settings head Plain l h = refl

-- lines that fit their classes leave the head as it is
keeps_head : (settings : FileSettings) (head : Option Head) (at : ℕ) (ls : List (List ℕ)) (cs : List Class) → AllFit ls cs → head_from settings head (placed at ls cs) ≡ head
keeps_head settings head at [] cs h = refl
keeps_head settings head at (l ∷ ls) [] h = refl
keeps_head settings head at (l ∷ ls) (c ∷ cs) h =
    ap (λ o. head_from settings o (placed (at + length l) ls cs)) (same_head settings head c l h.0) ∙ keeps_head settings head (at + length l) ls cs h.1

-- the text that lines give
abbrev text_from : List PlacedLine → List ℕ
text_from ls = flat_map (λ l. text_of l.class l.bytes) ls

by_lines : (settings : FileSettings) (t : List ℕ) (ls : List (List ℕ)) → lines t ≡ ls →
    IfSome (head_from settings None (placed 0 ls (classes ls))) (λ head. head ≡ head_of settings (first (text_from (placed 0 ls (classes ls)))))
by_lines settings t [] e = tt
by_lines settings t (l ∷ ls) e = elim (cases_Bool (begins_heading l)) [
  | inl h ↦
      let rest = placed (0 + length l) ls (classes_under_heading ls) in
      let kept = keeps_head settings (Some (head_of settings l)) (0 + length l) ls (classes_under_heading ls) (fit-under ls) in
      let line : first (l ++ text_from rest) ≡ l = first_again t l ls (text_from rest) e (λ none. rw none refl) in
      rw h (subst (λ o. IfSome o (λ head. head ≡ head_of settings (first (l ++ text_from rest)))) (sym kept) (ap (head_of settings) (sym line)))
  | inr h ↦
      let kept = keeps_head settings None 0 (l ∷ ls) (front_classes (l ∷ ls)) (fit-front (l ∷ ls)) in
      rw h (subst (λ o. IfSome o (λ head. head ≡ head_of settings (first (text_from (placed 0 (l ∷ ls) (front_classes (l ∷ ls))))))) (sym kept) tt)
]

pub heads_are_of_their_lines : HeadsAreOfTheirLines
heads_are_of_their_lines settings section = by_lines settings section (lines section) refl

-- the same of one entry and its head
pub head_of_entry : (settings : FileSettings) (section : List ℕ) (entry : Entry) (head : Head) → entry ≡ entry_of settings section → entry.head ≡ Some head → head ≡ head_of settings (heading_line entry)
head_of_entry settings section entry head is e =
    let of_line : IfSome entry.head (λ h. h ≡ head_of settings (heading_line entry)) = subst (λ x. IfSome x.head (λ h. h ≡ head_of settings (heading_line x))) (sym is) (heads_are_of_their_lines settings section) in
    subst (λ o. IfSome o (λ h. h ≡ head_of settings (heading_line entry))) e of_line
