-- The words of a text (Org manual 9.6, "Timestamps": the parts of a stamp stand between white space).
use Rattle.std.specs.Borrow.{Bor}
use Rattle.std.specs.Prelude.{ℕ, Bool, true, false, List, [], ◌∷◌, filter, ◌≡◌, Option, MatchOption}
use Rattle.std.specs.List.{slice_split}
use Rattle.org_base.specs.Words.{is_space}

-- the word isn't empty
abbrev pub is_word : List ℕ → Bool
is_word [] = false
is_word (b ∷ bs) = true

-- the longest runs without space, tab or CR
unfoldable pub words : List ℕ → List (List ℕ)
words bytes = filter is_word (slice_split is_space bytes)

-- the first word of a text, and what follows it; or it has no word
abbrev pub IsFirstWord : List ℕ → Option (Bor (List ℕ) × Bor (List ℕ)) → Type 0
IsFirstWord text found = MatchOption found (words text ≡ []) (λ f. words text ≡ f.0.now ∷ words f.1.now)
