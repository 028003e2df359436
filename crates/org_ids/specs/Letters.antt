-- The letters that stand for a sum of sixty bits (profile).
use Rattle.std.specs.Prelude.{◌≤◌, ℕ, zero, suc, ◌+◌, ◌-◌, ◌*◌, ◌/◌, ◌%◌, ◌^◌, ◌==◌, ◌&&◌, Bool, true, nat_le, if◌then◌else◌, List, [], ◌∷◌, codes, get_or, length, map, take}
use Rattle.std.specs.Int.{w64, from_be_bytes}
use Rattle.std.specs.List.{list_all, list_any, range_with_len}
use Rattle.sha2.specs.Sha256.{sha256}

-- the first 60 bits of a digest
abbrev pub sum_of : List ℕ → ℕ
sum_of bytes = from_be_bytes w64 (take 8 (sha256 bytes)) / 16

-- small letters and digits but for l, o, 0 and 1, which look alike
abbrev pub letters : List ℕ
letters = codes "abcdefghijkmnpqrstuvwxyz23456789"

-- the letter at a place of a sum, which has twelve
abbrev pub letter_at : ℕ → ℕ → ℕ
letter_at sum place = get_or letters (sum / 32 ^ (11 - place) % 32) 0

-- its first n letters
abbrev pub id_of : ℕ → ℕ → List ℕ
id_of n sum = map (letter_at sum) (range_with_len 0 n)

-- a word has the letters of a sum from a place on
abbrev pub stands_from : ℕ → List ℕ → ℕ → Bool
stands_from place [] sum = true
stands_from place (byte ∷ word) sum = (byte == letter_at sum place) && stands_from (place + 1) word sum

-- a word is the beginning of a sum
abbrev pub stands_for : List ℕ → ℕ → Bool
stands_for word sum = stands_from 0 word sum

-- a word could be an id: four to twelve of these letters
abbrev pub is_letter : ℕ → Bool
is_letter byte = list_any (λ letter. byte == letter) letters

abbrev pub is_id : List ℕ → Bool
is_id word = (nat_le 4 (length word) && nat_le (length word) 12) && list_all is_letter word

-- the least of some numbers from one on that is enough, else the one behind them
abbrev pub least_enough : ℕ → ℕ → ℕ → ℕ
least_enough wanted n zero = n
least_enough wanted n (suc more) = if nat_le wanted (32 ^ n) then n else least_enough wanted (suc n) more

-- the fewest letters, of four to twelve, by which a stranger is hit among so many headings by less than one chance in a million
abbrev pub id_length : ℕ → ℕ
id_length count = least_enough (count * 1000000) 4 8
