-- Names by which calendars know events and tasks again (RFC 5545, 3.8.4.7, "Unique Identifier").
-- Characters by their codes: 45 minus.
use Rattle.std.specs.Prelude.{ℕ, ◌+◌, List, [], ◌∷◌, ◌++◌, count_by, bytes_eq, decimal}

-- how often a key is among some
abbrev pub times_in : List ℕ → List (List ℕ) → ℕ
times_in key keys = count_by (bytes_eq key) keys

-- a key with a number
abbrev pub uid_text : List ℕ → ℕ → List ℕ
uid_text key number = key ++ 45 ∷ decimal number

-- keys with their numbers, where some came before: the first of equal ones has 1, the next one 2, and so on
abbrev pub uids : List (List ℕ) → List (List ℕ) → List (List ℕ)
uids seen [] = []
uids seen (key ∷ keys) = uid_text key (times_in key seen + 1) ∷ uids (key ∷ seen) keys
