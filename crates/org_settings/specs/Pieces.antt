-- Pieces of a text between separators (Org manual 9.6, "Tag Inheritance"; "Setting Tags"; which bytes are white
-- space: profile).
use Rattle.std.specs.Borrow.{Bor}
use Rattle.std.specs.List.{slice_range}
use Rattle.std.specs.Prelude.{ℕ, Bool, true, false, ◌||◌, ◌==◌, if◌then◌else◌, List, [], ◌∷◌, length, ◌≡◌, ◌++◌}
use Rattle.org_base.specs.Results.{lent_in}
use Rattle.org_base.specs.Words.{is_gap}

-- x before the pieces: at true it is a piece of its own
abbrev pub put_before : {X : Type 0} → Bool → X → List (List X) → List (List X)
put_before true x ps = (x ∷ []) ∷ ps
put_before false x [] = (x ∷ []) ∷ []
put_before false x (p ∷ ps) = (x ∷ p) ∷ ps

-- a separator: white space, a line feed, or the byte that is given
abbrev pub is_between : ℕ → ℕ → Bool
is_between also b = is_gap b || (b == also)

-- the text ends here, or a separator stands at its front
abbrev pub begins_between : ℕ → List ℕ → Bool
begins_between also [] = true
begins_between also (b ∷ bs) = is_between also b

-- the longest runs of bytes without a separator
abbrev pub pieces : ℕ → List ℕ → List (List ℕ)
pieces also [] = []
pieces also (b ∷ bs) = if is_between also b then pieces also bs else put_before (begins_between also bs) b (pieces also bs)

-- the words of a text
abbrev pub words : List ℕ → List (List ℕ)
words text = pieces 32 text

-- a text that isn't empty, as a piece
abbrev pub piece : List ℕ → List (List ℕ)
piece p = if length p == 0 then [] else p ∷ []

-- the pieces that references lend, with a part of a text after them, if it isn't empty
abbrev pub GainsPiece : List (Bor (List ℕ)) → List (Bor (List ℕ)) → List ℕ → ℕ → ℕ → Type 0
GainsPiece old new text from to = lent_in new ≡ lent_in old ++ piece (slice_range text from to)
