-- How often names came, up to twice.
use Rattle.std.specs.Prelude.{◌≡◌, ℕ, suc, ◌+◌, ◌==◌, Bool, true, false, bytes_eq, if◌then◌else◌, is_some, min, nat_lt, List, [], ◌∷◌, Option, None, Some}
use Rattle.std.specs.Map.{lookup}

-- how often a name is among some
abbrev pub times_in : List ℕ → List (List ℕ) → ℕ
times_in name [] = 0
times_in name (other ∷ names) = if bytes_eq name other then suc (times_in name names) else times_in name names

abbrev pub is_among_twice : List ℕ → List (List ℕ) → Bool
is_among_twice name names = nat_lt 1 (times_in name names)

-- how often each of some names came: 0, 1 or more often
abbrev pub Counts : Type 0
Counts = List (List ℕ × ℕ)

abbrev pub number_of : Counts → List ℕ → Option ℕ
number_of counts name = lookup (bytes_eq name) counts

-- a name has a number, and all others are as before
abbrev pub IsPut : Counts → Counts → List ℕ → ℕ → Type 0
IsPut old new name number = (other : List ℕ) → number_of new other ≡ if bytes_eq other name then Some number else number_of old other

-- one more of what is counted up to twice
abbrev pub one_more : Option ℕ → Option ℕ
one_more None = None
one_more (Some number) = if nat_lt number 2 then Some (number + 1) else Some number

abbrev pub is_twice : Option ℕ → Bool
is_twice None = false
is_twice (Some number) = number == 2

-- a name that is asked about, which hasn't come
abbrev pub asked_too : Option ℕ → Option ℕ
asked_too None = Some 0
asked_too (Some number) = Some number

abbrev pub IsCountedToo : Counts → Counts → List ℕ → Type 0
IsCountedToo old new name = (other : List ℕ) →
    number_of new other ≡ if bytes_eq other name then one_more (number_of old name) else number_of old other

abbrev pub IsAskedToo : Counts → Counts → List ℕ → Type 0
IsAskedToo old new name = (other : List ℕ) →
    number_of new other ≡ if bytes_eq other name then asked_too (number_of old name) else number_of old other

-- no name has come: whatever is asked about has the number 0
abbrev pub NoneCame : Counts → Type 0
NoneCame counts = (name : List ℕ) → asked_too (number_of counts name) ≡ Some 0

-- some names came: each that is asked about and hadn't come has the number of times it is among them, up to twice
abbrev pub CameThese : Counts → Counts → List (List ℕ) → Type 0
CameThese old new names = (name : List ℕ) → number_of old name ≡ Some 0 → number_of new name ≡ Some (min 2 (times_in name names))

-- the numbers of the names that are asked about are how often they are among some
abbrev pub AreCounted : Counts → List (List ℕ) → Type 0
AreCounted counts names = (name : List ℕ) → is_some (number_of counts name) ≡ true → number_of counts name ≡ Some (min 2 (times_in name names))
