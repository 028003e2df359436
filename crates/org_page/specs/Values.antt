-- Numbers, times and values that are put into a page, as bytes.
use Rattle.std.specs.Prelude.{ℕ, ◌++◌, ◌/◌, ◌%◌, List, ◌∷◌, codes, decimal}
use Rattle.org_page.specs.declared.draft.Value.{Value}
use Rattle.org_page.specs.declared.draft.Value.TheVariants.{Plain, Word, Decimal, Property, Area}

-- the value of an attribute
abbrev pub value_bytes : Value → List ℕ
value_bytes (Plain text) = text.now
value_bytes (Word word) = word.now
value_bytes (Decimal number) = decimal number
value_bytes (Property name number) = name.now ++ (codes ":" ++ decimal number)
value_bytes (Area width height) = codes "0 0 " ++ (decimal width ++ (codes " " ++ decimal height))

-- a number by at least two digits
abbrev pub two_digits : ℕ → List ℕ
two_digits n = decimal (n / 10) ++ decimal (n % 10)

-- a minute of a day
abbrev pub time_bytes : ℕ → List ℕ
time_bytes minute = two_digits (minute / 60) ++ (codes ":" ++ two_digits (minute % 60))

-- a sum of minutes
abbrev pub duration_bytes : ℕ → List ℕ
duration_bytes minutes = decimal (minutes / 60) ++ (codes ":" ++ two_digits (minutes % 60))
