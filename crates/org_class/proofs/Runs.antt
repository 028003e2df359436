-- Sections are runs of lines.
use Rattle.std.proofs.Common.{◌≡◌, inl, inr, ℕ, Bool, true, false, ◌==◌, List, [], ◌∷◌, map, refl, sym, ap, ◌∙◌}
use Rattle.std.proofs.lemmas.Bool.{cases_Bool, eqb-true}
use Rattle.std.specs.List.{concat, onto_first}
use Rattle.org_lines.specs.Cuts.{lines}
use Rattle.org_settings.specs.Pieces.{put_before}
use Rattle.org_class.specs.Heading.{begins_heading}
use Rattle.org_class.specs.Sections.{sections, is_headed, runs}
use Rattle.org_class.specs.Laws.{SectionsAreRunsOfLines}
use Rattle.org_class.proofs.Cuts.{concat-sections}
use Rattle.org_class.proofs.HeadingLemmas.{after_star, headed, headed_is}

first_line : List (List ℕ) → List ℕ
first_line [] = []
first_line (l ∷ ls) = l

first_line-onto : (b : ℕ) (ls : List (List ℕ)) → first_line (onto_first b ls) ≡ b ∷ first_line ls
unfolding first_line
first_line-onto b [] = refl
first_line-onto b (l ∷ ls) = refl

after_star_in_line : (t : List ℕ) → after_star (first_line (lines t)) ≡ after_star t
unfolding first_line
after_star_in_line [] = refl
after_star_in_line (b ∷ t) = elim (cases_Bool (b == 10)) [
  | inl e ↦ rw (eqb-true b 10 e) refl
  | inr e ↦ rw (e, first_line-onto b (lines t), after_star_in_line t) refl
]

-- the first line is a heading line where one stands at the front of the text
heading_in_line : (t : List ℕ) → headed (first_line (lines t)) ≡ headed t
unfolding first_line
heading_in_line [] = refl
heading_in_line (b ∷ t) = elim (cases_Bool (b == 10)) [
  | inl e ↦ rw (eqb-true b 10 e) refl
  | inr e ↦ rw (e, first_line-onto b (lines t), after_star_in_line t) refl
]

first_headed : (ls : List (List ℕ)) → is_headed ls ≡ headed (first_line ls)
unfolding first_line
first_headed [] = refl
first_headed (l ∷ ls) = sym (headed_is l)

pub first_line_headed : (t : List ℕ) → is_headed (lines t) ≡ begins_heading t
first_line_headed t = first_headed (lines t) ∙ heading_in_line t ∙ headed_is t

concat-line : (c : Bool) (b : ℕ) (rs : List (List (List ℕ))) → map concat (put_before c (b ∷ []) rs) ≡ put_before c b (map concat rs)
concat-line true b rs = refl
concat-line false b [] = refl
concat-line false b (r ∷ rs) = refl

concat-longer : (c : Bool) (b : ℕ) (l : List ℕ) (rs : List (List (List ℕ))) → map concat (put_before c (b ∷ l) rs) ≡ put_before false b (map concat (put_before c l rs))
concat-longer true b l rs = refl
concat-longer false b l [] = refl
concat-longer false b l (r ∷ rs) = refl

inside_line : (b : ℕ) (ls : List (List ℕ)) → map concat (runs (onto_first b ls)) ≡ put_before false b (map concat (runs ls))
inside_line b [] = refl
inside_line b (l ∷ ls) = concat-longer (is_headed ls) b l (runs ls)

are_runs : (t : List ℕ) → sections t ≡ map concat (runs (lines t))
are_runs [] = refl
are_runs (b ∷ t) = elim (cases_Bool (b == 10)) [
  | inl e ↦ rw (e, are_runs t) (sym (ap (λ c. map concat (put_before c (b ∷ []) (runs (lines t)))) (first_line_headed t) ∙ concat-line (begins_heading t) b (runs (lines t))))
  | inr e ↦ rw (e, are_runs t) (sym (inside_line b (lines t)))
]

pub sections_are_runs : SectionsAreRunsOfLines
sections_are_runs t = (are_runs t, concat-sections t)
