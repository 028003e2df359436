-- Efforts (Org manual 9.6, "Effort Estimates"; which forms are efforts, and how many digits they have: profile).
use Rattle.std.specs.Prelude.{ℕ, ◌+◌, ◌*◌, ◌==◌, nat_le, nat_lt, if◌then◌else◌, List, [], ◌∷◌, length, take, drop, codes, bytes_eq, Option, Some, None}
use Rattle.std.specs.List.{prefix_len}
use Rattle.std.specs.Option.{option_and_then, option_map}
use Rattle.std.specs.Char.{is_ascii_digit}
use Rattle.std.specs.Str.Parse.{digits_value}
use Rattle.org_cal.specs.Texts.{two_digits}
use Rattle.org_stamp.specs.Pair.{past_spaces}

-- the minutes of a unit
abbrev pub unit_minutes : List ℕ → Option ℕ
unit_minutes unit =
    if bytes_eq unit (codes "min") then Some 1
    else (if bytes_eq unit (codes "h") then Some 60
    else (if bytes_eq unit (codes "d") then Some 1440
    else (if bytes_eq unit (codes "w") then Some 10_080
    else (if bytes_eq unit (codes "m") then Some 43_200
    else (if bytes_eq unit (codes "y") then Some 525_960 else None)))))

-- the number that digits write, where they are at most so many
abbrev pub number_of : ℕ → List ℕ → Option ℕ
number_of most digits = if nat_le (length digits) most then Some (digits_value 10 digits) else None

-- the minutes MM, 00 to 59
abbrev pub sixtieths : List ℕ → Option ℕ
sixtieths (a ∷ b ∷ []) = option_and_then (λ n. if nat_lt n 60 then Some n else None) (two_digits a b)
sixtieths _ = None

-- the minutes of H:MM, by the digits before the colon and by what stands after it; H has up to six digits
abbrev pub hours : List ℕ → List ℕ → Option ℕ
hours digits rest = option_and_then (λ hour. option_map (λ n. hour * 60 + n) (sixtieths rest)) (number_of 6 digits)

-- the minutes of a number of up to four digits and a unit, with white space or none between
abbrev pub units : List ℕ → List ℕ → Option ℕ
units digits rest = option_and_then (λ n. option_map (λ minutes. n * minutes) (unit_minutes (past_spaces rest))) (number_of 4 digits)

-- the effort of digits and what follows them: nothing, a colon, or anything else
abbrev pub after_digits : List ℕ → List ℕ → Option ℕ
after_digits digits [] = number_of 6 digits
after_digits digits (b ∷ rest) = if b == 58 then hours digits rest else units digits (b ∷ rest)

-- the minutes of an effort, which begins with digits; none where the text is no effort
abbrev pub effort_of : List ℕ → Option ℕ
effort_of text =
    let count = prefix_len is_ascii_digit text in
    if count == 0 then None else after_digits (take count text) (drop count text)
