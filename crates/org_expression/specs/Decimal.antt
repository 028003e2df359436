-- Numbers of expressions and at the front of texts, in billionths (Org manual 9.6, "Matching tags and properties";
-- digits and decimals that count: profile).
-- Characters by their codes: 43 +, 45 -, 46 ., 48 0.
use Rattle.std.specs.Char.{is_ascii_digit}
use Rattle.std.specs.Prelude.{ℕ, zero, suc, ◌+◌, ◌-◌, ◌*◌, ◌^◌, Bool, true, false, ◌||◌, ◌==◌, nat_lt, List, [], ◌∷◌, length, drop, if◌then◌else◌}

-- the number that digits write after one that was read
abbrev pub read_on : ℕ → List ℕ → ℕ
read_on n [] = n
read_on n (d ∷ ds) = read_on (10 * n + (d - 48)) ds

-- the digits at the front of a text
abbrev pub front_digits : List ℕ → List ℕ
front_digits [] = []
front_digits (b ∷ bs) = if is_ascii_digit b then b ∷ front_digits bs else []

-- the digit at the front, else 0
abbrev pub front_value : List ℕ → ℕ
front_value [] = 0
front_value (b ∷ bs) = if is_ascii_digit b then b - 48 else 0

-- what stands after a digit at the front
abbrev pub behind : List ℕ → List ℕ
behind [] = []
behind (b ∷ bs) = if is_ascii_digit b then bs else []

-- a number with so many decimals behind it: those that are missing are 0, later ones don't count
unfoldable pub read_decimals : ℕ → ℕ → List ℕ → ℕ
read_decimals n zero bs = n
read_decimals n (suc k) bs = read_decimals (10 * n + front_value bs) k (behind bs)

-- where a number stands among all, counted in billionths: 0 stands at 10^27, a negative one before it
abbrev pub place : Bool → ℕ → ℕ
place is_negative n = if is_negative then 10 ^ 27 - n else 10 ^ 27 + n

-- one to eighteen digits at the front of `whole`, and those at the front of `fraction`; with no or more digits it is 0
abbrev pub number : Bool → List ℕ → List ℕ → ℕ
number is_negative whole fraction =
    if (length (front_digits whole) == 0) || nat_lt 18 (length (front_digits whole)) then place false 0
    else place is_negative (read_decimals (read_on 0 (front_digits whole)) 9 fraction)

-- what stands after a point
abbrev pub behind_point : List ℕ → List ℕ
behind_point [] = []
behind_point (b ∷ bs) = if b == 46 then bs else []

-- the number of the digits at the front of a text and of those after a point, with the sign that was read
abbrev pub unsigned_decimal : Bool → List ℕ → ℕ
unsigned_decimal is_negative bs = number is_negative bs (behind_point (drop (length (front_digits bs)) bs))

-- the number at the front of a text
abbrev pub number_at : List ℕ → ℕ
number_at [] = place false 0
number_at (b ∷ bs) =
    if b == 45 then unsigned_decimal true bs else if b == 43 then unsigned_decimal false bs else unsigned_decimal false (b ∷ bs)
