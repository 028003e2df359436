-- Several parts of a text replaced at once (profile).
use Rattle.std.specs.Prelude.{◌≡◌, ℕ, ◌+◌, ◌-◌, ◌≤◌, List, [], ◌∷◌, ◌++◌, length}
use Rattle.std.specs.List.{slice_range}
use Rattle.org_text.specs.Replace.{replace}

-- some bytes at a place, and what stands there instead
pub record Part : Type 0 where
  pub at : ℕ
  pub del : ℕ
  pub ins : List ℕ

-- each part lies after the one before it, the first not before a place, and the last within so many bytes
abbrev pub AreApart : ℕ → ℕ → List Part → Type 0
AreApart low most [] = low ≤ most
AreApart low most (p ∷ ps) = (low ≤ p.at) × AreApart (p.at + p.del) most ps

-- the text with the parts replaced, whose places are those of the text before: the last one first
abbrev pub with_parts : List ℕ → List Part → List ℕ
with_parts t [] = t
with_parts t (p ∷ ps) = replace (with_parts t ps) p.at p.del p.ins

-- where the last part ends; without parts the place that is given
abbrev pub end_of_parts : ℕ → List Part → ℕ
end_of_parts end [] = end
end_of_parts end (p ∷ ps) = end_of_parts (p.at + p.del) ps

-- what stands from a place up to the end of the last part, once the parts are replaced
abbrev pub joined_parts : List ℕ → ℕ → List Part → List ℕ
joined_parts t at [] = []
joined_parts t at (p ∷ ps) = slice_range t at p.at ++ (p.ins ++ joined_parts t (p.at + p.del) ps)

-- the parts as one change, from the first replaced byte to the last
abbrev pub one_part : List ℕ → List Part → Part
one_part t [] = record { at = 0; del = 0; ins = [] }
one_part t (p ∷ ps) = record { at = p.at; del = end_of_parts p.at (p ∷ ps) - p.at; ins = joined_parts t p.at (p ∷ ps) }

-- parts that are replaced are one change, from any place before the first of them up to the end of the last
abbrev pub PartsAreOneChange : Type 0
PartsAreOneChange = (t : List ℕ) (at : ℕ) (ps : List Part) → AreApart at (length t) ps →
    with_parts t ps ≡ replace t at (end_of_parts at ps - at) (joined_parts t at ps)
