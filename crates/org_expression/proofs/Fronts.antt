-- A text has one longest front that begins some expression.
use Rattle.std.specs.Prelude.{encode_utf8_all}
use Rattle.std.proofs.Common.{◌≡◌, ◌⊎◌, inl, inr, ℕ, List, [], ◌∷◌, ◌++◌, length, refl, ap, sym, ◌∙◌}
use Rattle.org_expression.specs.Grammar.{Begins, IsLongestFront}
use Rattle.org_expression.specs.Laws.{OneLongestFront}

-- the other front goes on after this one
abbrev IsLonger : List ℕ → List ℕ → List ℕ → Type 0
IsLonger front rest other = (c : ℕ) × (more : List ℕ) × (tail : List ℕ) × (rest ≡ c ∷ more) × (other ≡ front ++ c ∷ tail)

abbrev SameOrLonger : List ℕ → List ℕ → List ℕ → List ℕ → Type 0
SameOrLonger f r g s = (f ≡ g) ⊎ (IsLonger f r g ⊎ IsLonger g s f)

head_is : (c d : ℕ) (xs ys : List ℕ) → c ∷ xs ≡ d ∷ ys → c ≡ d
head_is c d xs ys e = cc

tail_is : (c d : ℕ) (xs ys : List ℕ) → c ∷ xs ≡ d ∷ ys → xs ≡ ys
tail_is c d xs ys e = cc

onto : (c : ℕ) (f r g s : List ℕ) → SameOrLonger f r g s → SameOrLonger (c ∷ f) r (c ∷ g) s
onto c f r g s (inl e) = inl (ap (λ q. c ∷ q) e)
onto c f r g s (inr (inl l)) = inr (inl (l.0, l.1, l.2, l.3, ap (λ q. c ∷ q) l.4))
onto c f r g s (inr (inr l)) = inr (inr (l.0, l.1, l.2, l.3, ap (λ q. c ∷ q) l.4))

same_or_longer : (f r g s : List ℕ) → f ++ r ≡ g ++ s → SameOrLonger f r g s
same_or_longer [] r [] s e = inl refl
same_or_longer [] r (c ∷ g) s e = inr (inl (c, g ++ s, g, e, refl))
same_or_longer (c ∷ f) r [] s e = inr (inr (c, f ++ r, f, sym e, refl))
same_or_longer (c ∷ f) r (d ∷ g) s e =
    let rest = same_or_longer f r g s (tail_is c d (f ++ r) (g ++ s) e) in
    rw (← head_is c d (f ++ r) (g ++ s) e) (onto c f r g s rest)

cut : (front tail x : List ℕ) (c : ℕ) → (front ++ c ∷ tail) ++ x ≡ (front ++ c ∷ []) ++ (tail ++ x)
cut [] tail x c = refl
cut (f ∷ fs) tail x c = ap (λ q. f ∷ q) (cut fs tail x c)

-- a front of a front that begins an expression begins it too
front_begins : (front tail : List ℕ) (c : ℕ) → Begins (front ++ c ∷ tail) → Begins (front ++ c ∷ [])
front_begins front tail c (x, e, reads) = (tail ++ x, e, rw (cut front tail x c) at reads)

not_longer : (cs : List ℕ) (at : ℕ) (other : List ℕ) (l : IsLongestFront cs at) → IsLonger l.front l.rest other → Begins other → ⊥
not_longer cs at other l (c, more, tail, rest, is) begins = l.longest c more rest (front_begins l.front tail c (rw is at begins))

one_front : (cs : List ℕ) (a b : ℕ) (l : IsLongestFront cs a) (m : IsLongestFront cs b) → SameOrLonger l.front l.rest m.front m.rest → a ≡ b
one_front cs a b l m (inl e) = l.len ∙ ap (λ q. length (encode_utf8_all q)) e ∙ sym m.len
one_front cs a b l m (inr (inl longer)) = absurd (not_longer cs a m.front l longer m.begins)
one_front cs a b l m (inr (inr longer)) = absurd (not_longer cs b l.front m longer l.begins)

pub one_longest_front : OneLongestFront
one_longest_front cs a b l m = one_front cs a b l m (same_or_longer l.front l.rest m.front m.rest (sym l.whole ∙ m.whole))
