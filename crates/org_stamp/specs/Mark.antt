-- Repeaters and delays, by cases on the bytes (Org manual 9.6, "Repeated tasks"; "Deadlines and Scheduling"; one to
-- four digits by the profile).
-- Characters by their codes: 43 +, 45 -, 46 ., 47 /, 48 0.
use Rattle.std.specs.Prelude.{ℕ, ◌+◌, ◌-◌, ◌*◌, true, false, ◌&&◌, ◌==◌, if◌then◌else◌, List, [], ◌∷◌, Option, Some, None}
use Rattle.std.specs.Option.{option_and_then, option_map}
use Rattle.std.specs.Char.{is_ascii_digit}
use Rattle.org_cal.specs.declared.unit.Unit.{Unit}
use Rattle.org_cal.specs.declared.unit.Unit.TheVariants.{Hour, Day, Week, Month, Year}
use Rattle.org_stamp.specs.declared.mark.Delay.{Delay}
use Rattle.org_stamp.specs.declared.mark.RepeaterKind.TheVariants.{Plain, Future, Today}
use Rattle.org_stamp.specs.declared.mark.Mark.{Mark}
use Rattle.org_stamp.specs.declared.mark.Mark.TheVariants.{Repeat, Wait}
use Rattle.org_stamp.specs.declared.mark.Repeater.{Repeater}
use Rattle.org_stamp.specs.declared.mark.Sign.{Sign}
use Rattle.org_stamp.specs.declared.mark.Sign.TheVariants.{Repeats, Waits}

-- the unit of a letter: h, d, w, m or y
abbrev pub unit_of : ℕ → Option Unit
unit_of b =
    if b == 104 then Some Hour
    else (if b == 100 then Some Day
    else (if b == 119 then Some Week
    else (if b == 109 then Some Month
    else (if b == 121 then Some Year else None))))

-- the greatest number before so many more digits of four
abbrev pub top : ℕ → ℕ
top room = if room == 3 then 9 else (if room == 2 then 99 else (if room == 1 then 999 else 9999))

-- the number after its first digits, with at most so many more, its unit, and what follows
abbrev pub amount_from : ℕ → ℕ → List ℕ → Option ((ℕ × Unit) × List ℕ)
amount_from room n [] = None
amount_from room n (b ∷ bs) =
    if is_ascii_digit b then (if room == 0 then None else amount_from (room - 1) (n * 10 + (b - 48)) bs)
    else option_map (λ unit. ((n, unit), bs)) (unit_of b)

-- one to four digits and a unit, and what follows
abbrev pub amount : List ℕ → Option ((ℕ × Unit) × List ℕ)
amount [] = None
amount (b ∷ bs) = if is_ascii_digit b then amount_from 3 (b - 48) bs else None

-- the sign with which a mark begins, and what follows it
abbrev pub sign_at : List ℕ → Option (Sign × List ℕ)
sign_at (a ∷ b ∷ bs) =
    if a == 43 then (if b == 43 then Some (Repeats Future, bs) else Some (Repeats Plain, b ∷ bs))
    else (if a == 45 then (if b == 45 then Some (Waits true, bs) else Some (Waits false, b ∷ bs))
    else (if (a == 46) && (b == 43) then Some (Repeats Today, bs) else None))
sign_at _ = None

-- an amount that ends the word
abbrev pub whole : (ℕ × Unit) × List ℕ → Option (ℕ × Unit)
whole (a, []) = Some a
whole (a, (b ∷ bs)) = None

-- nothing, or a slash and an amount that ends the word
abbrev pub limit : List ℕ → Option (Option (ℕ × Unit))
limit [] = Some None
limit (b ∷ bs) = if b == 47 then option_map Some (option_and_then whole (amount bs)) else None

-- the mark of a sign, an amount and what follows them in the word; a delay has no limit
abbrev pub mark_with : Sign → (ℕ × Unit) × List ℕ → Option Mark
mark_with (Repeats kind) (a, rest) =
    option_map (λ most. Repeat (record { kind = kind; n = a.0; unit = a.1; limit = most })) (limit rest)
mark_with (Waits first_only) (a, []) = Some (Wait (record { first_only = first_only; n = a.0; unit = a.1 }))
mark_with (Waits first_only) (a, (b ∷ bs)) = None

-- the mark that a word is
abbrev pub mark_of : List ℕ → Option Mark
mark_of word = option_and_then (λ s. option_and_then (mark_with s.0) (amount s.1)) (sign_at word)

-- the repeater and the delay of a stamp, as far as they were read
abbrev pub Marks : Type 0
Marks = Option Repeater × Option Delay

-- one mark more, if there was none of its kind
abbrev pub with_mark : Marks → Mark → Option Marks
with_mark (None, delay) (Repeat r) = Some (Some r, delay)
with_mark (Some q, delay) (Repeat r) = None
with_mark (repeater, None) (Wait d) = Some (repeater, Some d)
with_mark (repeater, Some e) (Wait d) = None

-- the marks that words are, with those before them; none where a word is no mark, or a second of its kind
abbrev pub marks_from : Marks → List (List ℕ) → Option Marks
marks_from so_far [] = Some so_far
marks_from so_far (w ∷ ws) =
    option_and_then (λ more. marks_from more ws) (option_and_then (with_mark so_far) (mark_of w))
