-- The printed form of a stamp (profile; its parts as in Org manual 9.6, "Timestamps").
-- Characters by their codes: 32 space, 45 -, 47 /.
use Rattle.std.specs.Option.{option_map_or}
use Rattle.std.specs.Prelude.{ℕ, Bool, if◌then◌else◌, List, [], ◌∷◌, ◌++◌, Option, Some, None, codes, decimal}
use Rattle.org_cal.specs.declared.unit.Unit.{Unit}
use Rattle.org_cal.specs.declared.unit.Unit.TheVariants.{Hour, Day, Week, Month, Year}
use Rattle.org_cal.specs.Parts.{weekday_of}
use Rattle.org_cal.specs.Texts.{date_text, day_name, time_text}
use Rattle.org_stamp.specs.declared.mark.Delay.{Delay}
use Rattle.org_stamp.specs.declared.mark.RepeaterKind.{RepeaterKind}
use Rattle.org_stamp.specs.declared.mark.RepeaterKind.TheVariants.{Plain, Future, Today}
use Rattle.org_stamp.specs.declared.mark.Repeater.{Repeater}
use Rattle.org_stamp.specs.declared.stamp.Stamp.{Stamp}
use Rattle.org_stamp.specs.Stamp.{open_of, close_of}

-- the letter of a unit
abbrev pub letter : Unit → ℕ
letter Hour = 104
letter Day = 100
letter Week = 119
letter Month = 109
letter Year = 121

-- what a repeater of this kind begins with
abbrev pub sign_text : RepeaterKind → List ℕ
sign_text Plain = codes "+"
sign_text Future = codes "++"
sign_text Today = codes ".+"

-- a number and its unit
abbrev pub amount_text : ℕ × Unit → List ℕ
amount_text a = decimal a.0 ++ letter a.1 ∷ []

-- a repeater after a space, with its limit after a slash
abbrev pub repeater_text : Option Repeater → List ℕ
repeater_text repeater = option_map_or (λ r. 32 ∷ (sign_text r.kind ++ amount_text (r.n, r.unit)
    ++ option_map_or (λ a. 47 ∷ amount_text a) r.limit [])) repeater []

-- a delay after a space
abbrev pub delay_text : Option Delay → List ℕ
delay_text None = []
delay_text (Some d) = 32 ∷ ((if d.first_only then codes "--" else codes "-") ++ amount_text (d.n, d.unit))

-- a time after a space, or a time range, whose end stands after a dash; an end without a start isn't printed, and no stamp that is
-- read has one
abbrev pub times_text : Option ℕ → Option ℕ → List ℕ
times_text start end_time = option_map_or (λ c. 32 ∷ (time_text c ++ option_map_or (λ e. 45 ∷ time_text e) end_time [])) start []

-- what stands after the day's name: times, repeater and delay
abbrev pub tail_text : Stamp → List ℕ
tail_text s = times_text s.time s.end_time ++ (repeater_text s.repeater ++ delay_text s.delay)

-- the date and the name of a day
abbrev pub day_text : ℕ → List ℕ
day_text day = date_text day ++ 32 ∷ day_name (weekday_of day)

-- a stamp of one day: in brackets its date, the day's name and what stands after it
abbrev pub single_text : Bool → ℕ → List ℕ → List ℕ
single_text active day tail = open_of active ∷ (day_text day ++ (tail ++ close_of active ∷ []))

-- the stamp, or of a range its first one
abbrev pub first_text : Stamp → List ℕ
first_text s = single_text s.active s.day (tail_text s)

-- two dashes and the second stamp of a range
abbrev pub last_text : Bool → Option (ℕ × Option ℕ) → List ℕ
last_text active last = option_map_or (λ l. codes "--" ++ single_text active l.0 (times_text l.1 None)) last []

-- the printed form of a stamp
abbrev pub stamp_text : Stamp → List ℕ
stamp_text s = first_text s ++ last_text s.active s.last
