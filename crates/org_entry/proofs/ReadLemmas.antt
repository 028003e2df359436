-- Lines are read as they are classed.
use Rattle.std.proofs.Common.{◌≡◌, ℕ, ◌+◌, true, List, [], ◌∷◌, length, ◌∙◌, subst, inl, inr}
use Rattle.std.proofs.lemmas.Bool.{cases_Bool}
use Rattle.std.specs.List.{AllByRecursion}
use Rattle.org_class.specs.Classes.{classes, classes_under_heading, front_classes}
use Rattle.org_class.specs.Heading.{begins_heading}
use Rattle.org_class.specs.declared.class.Class.{Class}
use Rattle.org_class.specs.declared.class.Class.TheVariants.{Heading}
use Rattle.org_drawer.proofs.ReadLemmas.{lines_are_read as read_exactly}
use Rattle.org_entry.specs.Entry.{placed}
use Rattle.org_entry.specs.Laws.{IsReadAsClassed, LinesAreRead}
use Rattle.org_entry.proofs.ClassLemmas.{fits, AllFit, fit-under, fit-front}
use Rattle.org_lines.specs.Cuts.{lines}

read : (at : ℕ) (c : Class) (l : List ℕ) → fits c l ≡ true → IsReadAsClassed (record { at = at; class = c; bytes = l })
read at c l h = record {
  planning = λ e. (read_exactly l).0 ∙ subst (λ k. fits k l ≡ true) e h;
  clock = λ e. (read_exactly l).1 ∙ subst (λ k. fits k l ≡ true) e h;
  property = λ e. (read_exactly l).2 ∙ subst (λ k. fits k l ≡ true) e h;
}

first_read : (at : ℕ) (l : List ℕ) → IsReadAsClassed (record { at = at; class = Heading; bytes = l })
first_read at l = record { planning = λ e. absurd cc; clock = λ e. absurd cc; property = λ e. absurd cc }

read-fit : (at : ℕ) (ls : List (List ℕ)) (cs : List Class) → AllFit ls cs → AllByRecursion IsReadAsClassed (placed at ls cs)
read-fit at [] cs h = tt
read-fit at (l ∷ ls) [] h = tt
read-fit at (l ∷ ls) (c ∷ cs) h = (read at c l h.0, read-fit (at + length l) ls cs h.1)

read-classes : (ls : List (List ℕ)) → AllByRecursion IsReadAsClassed (placed 0 ls (classes ls))
read-classes [] = tt
read-classes (l ∷ ls) = elim (cases_Bool (begins_heading l)) [
  | inl e ↦ rw e (first_read 0 l, read-fit (0 + length l) ls (classes_under_heading ls) (fit-under ls))
  | inr e ↦ rw e (read-fit 0 (l ∷ ls) (front_classes (l ∷ ls)) (fit-front (l ∷ ls)))
]

pub lines_are_read : LinesAreRead
lines_are_read section = read-classes (lines section)
