-- How words and what is noted of them are seen as keywords.
use Rattle.std.specs.Prelude.{ℕ, List, [], ◌∷◌}
use Rattle.org_settings.specs.Keywords.{Keyword}
use Rattle.org_settings.specs.declared.keywords.KeywordKind.{KeywordKind}

-- each word with the standing at its place
abbrev pub shown : List (List ℕ) → List KeywordKind → List Keyword
shown [] kinds = []
shown (w ∷ ws) [] = []
shown (w ∷ ws) (s ∷ ss) = record { word = w; done = s.is_done; first = s.first } ∷ shown ws ss
