-- A test of the lines that are left.
use Rattle.std.proofs.Common.{◌≡◌, ℕ, Bool, true, false, ◌||◌, List, [], ◌∷◌, map, ap, sym, ◌∙◌, Option, is_some}
use Rattle.std.specs.List.{list_any}
use Rattle.memchr.specs.Find.{FindsNeedle}
use Rattle.memchr.proofs.lemmas.ValueLemmas.{FindsNeedle-value}
use Rattle.org_lines.specs.Cuts.{Cut}
use Rattle.org_search.specs.Folded.{stands_in}

-- none is left
pub none_left : (p : List ℕ → Bool) (left : List Cut) (all : List (List ℕ)) → left ≡ [] → list_any p (map (λ c. c.bytes) left) ≡ list_any p all → false ≡ list_any p all
none_left p left all none inv = sym (ap (λ l. list_any p (map (λ c. c.bytes) l)) none) ∙ inv

-- the first one passes
pub first_passes : (p : List ℕ → Bool) (left rest : List Cut) (cut : Cut) (line : List ℕ) (all : List (List ℕ)) → left ≡ cut ∷ rest → line ≡ cut.bytes → p line ≡ true →
    list_any p (map (λ c. c.bytes) left) ≡ list_any p all → true ≡ list_any p all
first_passes p left rest cut line all parts is passes inv =
    sym (ap (λ b. b || list_any p (map (λ c. c.bytes) rest)) (ap p (sym is) ∙ passes))
    ∙ sym (ap (λ l. list_any p (map (λ c. c.bytes) l)) parts) ∙ inv

-- the first one doesn't
pub first_fails : (p : List ℕ → Bool) (left rest : List Cut) (cut : Cut) (line : List ℕ) (all : List (List ℕ)) → left ≡ cut ∷ rest → line ≡ cut.bytes → p line ≡ false →
    list_any p (map (λ c. c.bytes) left) ≡ list_any p all → list_any p (map (λ c. c.bytes) rest) ≡ list_any p all
first_fails p left rest cut line all parts is fails inv =
    sym (ap (λ b. b || list_any p (map (λ c. c.bytes) rest)) (ap p (sym is) ∙ fails))
    ∙ sym (ap (λ l. list_any p (map (λ c. c.bytes) l)) parts) ∙ inv

-- what a search for a word finds
pub finds_word : (text word : List ℕ) (r : Option ℕ) → FindsNeedle text word 0 r → is_some r ≡ stands_in word text
finds_word text word r found = ap is_some (FindsNeedle-value text word r found)
