-- Worked examples: what the definitions say of inputs at which a wrong rule says something else.
use Rattle.std.specs.Prelude.{◌≡◌, ℕ, ◌∷◌, ◌++◌, [], false, true, Option, None, Some, codes}
use Rattle.org_cal.specs.Texts.{date_text}
use Rattle.org_cal.specs.declared.moment.Moment.{Moment}
use Rattle.org_client.specs.Bars.{bar_eighths, hundredths, part_lengths}
use Rattle.org_cal.specs.Parts.{month_day_of, month_of}
use Rattle.org_cal.specs.declared.unit.Unit.TheVariants.{Hour, Month, Year}
use Rattle.org_client.specs.Components.{base_name, known_by, priority_of_cookie, status_of}
use Rattle.org_client.specs.EventRules.{frequency_of}
use Rattle.org_client.specs.EventTimes.{between, date_of, time_of, when_from}
use Rattle.org_ical.specs.declared.date.When.TheVariants.{At, Day, Days}
use Rattle.org_ical.specs.declared.rule.Frequency.TheVariants.{Monthly, Yearly}
use Rattle.org_stamp.specs.declared.stamp.Stamp.{Stamp}
use Rattle.org_trace.specs.declared.entry.LogEvent.TheVariants.{Clock}
use Rattle.org_ical.specs.declared.component.Status.TheVariants.{Cancelled, Confirmed}
use Rattle.org_client.specs.Clocks.{rows_of}
use Rattle.org_client.specs.Json.{field_text, quoted, texts_member}
use Rattle.org_client.specs.LogLabels.{log_label}
use Rattle.org_client.specs.Members.{text_member_of, texts_member_of}
use Rattle.org_client.specs.Objects.{day_object}
use Rattle.org_client.specs.Reminders.{starts_between}
use Rattle.org_client.specs.TitleWords.{words_or, words_text}
use Rattle.org_client.specs.Urgency.{due_urgency, planned_urgency, urgency_of}

-- a stamp of 2024-02-29 with these hours, and of a range its last day
abbrev pub stamp_of : Option ℕ → Option ℕ → Option (ℕ × Option ℕ) → Stamp
stamp_of start end last = record { active = true; day = 738_945; time = start; end_time = end; repeater = None; delay = None; last = last }

pub record ExamplesHold : Type 0 where
  -- a deadline: more than two weeks ahead, two weeks, on its day, a day late, a week late, a year late
  pub urgency_far_ahead : due_urgency 100 400 ≡ 240
  pub urgency_two_weeks : due_urgency 100 114 ≡ 240
  pub urgency_two_weeks_less_one : due_urgency 100 113 ≡ 285
  pub urgency_on_its_day : due_urgency 100 100 ≡ 880
  pub urgency_day_late : due_urgency 100 99 ≡ 925
  pub urgency_week_late : due_urgency 100 93 ≡ 1200
  pub urgency_year_late : due_urgency 500 135 ≡ 1200
  -- a scheduled day counts once it has come
  pub urgency_planned_today : planned_urgency 100 100 ≡ 500
  pub urgency_planned_tomorrow : planned_urgency 100 101 ≡ 0
  -- A, B, C, D
  pub urgency_most : urgency_of 100 (Some 93) (Some 100) 65 ≡ 2300
  pub urgency_by_priority : urgency_of 100 None None 66 ≡ 390
  pub urgency_low_priority : urgency_of 100 None None 67 ≡ 180
  pub urgency_other_priority : urgency_of 100 None None 68 ≡ 0
  pub feed : quoted (codes "a\nb") ≡ codes "\"a\\u000ab\""
  pub field : field_text (codes "\"a,\r\"") ≡ codes "'a; \""
  pub own_minute : (until : Moment) → starts_between (record { day = 5; minute = 600 }) until 5 (Some 600) ≡ false
  pub last_minute : starts_between (record { day = 4; minute = 600 }) (record { day = 5; minute = 600 }) 5 (Some 600) ≡ true
  pub no_start : (after until : Moment) (day : ℕ) → starts_between after until day None ≡ false
  -- three thirds of ten columns: rounded one by one they would be nine
  pub thirds : part_lengths 3 10 (1 ∷ 1 ∷ 1 ∷ []) ≡ 3 ∷ 4 ∷ 3 ∷ []
  -- a part of nothing takes no column
  pub no_part : part_lengths 4 8 (2 ∷ 0 ∷ 2 ∷ []) ≡ 4 ∷ 0 ∷ 4 ∷ []
  -- a minute of a year shows
  pub least : bar_eighths 1 525_600 20 ≡ 1
  pub longest : bar_eighths 90 90 20 ≡ 160
  pub half_up : hundredths 1 8 ≡ 13
  pub of_nothing : hundredths 0 0 ≡ 0
  -- of day 9 alone, 11,520 to 12,960: a clock from an hour before it to an hour into it, one that runs since its hour ten, and
  -- one of the day before
  pub cut_and_running : rows_of (9, 9) 0 4 0
      (record { from = 11_460; to = Some 11_580 } ∷ record { from = 12_120; to = None } ∷ record { from = 11_400; to = Some 11_460 } ∷ []) ≡
      record { file = 0; heading = 4; number = 0; from = 11_520; to = Some 11_580; minutes = 60 }
      ∷ record { file = 0; heading = 4; number = 1; from = 12_120; to = None; minutes = 0 }
      ∷ []
  -- an hour from ten past ten on day 10, and a clock that runs
  pub clocked_label : log_label [] (record { day = 10; time = Some 610; event = Clock (Some 13_630) }) (Clock (Some 13_630)) ≡ codes "Clocked:   (1:00)"
  pub running_label : log_label [] (record { day = 10; time = Some 610; event = Clock None }) (Clock None) ≡ codes "Clocked:   (-)"
  -- an object's list, and the one value that is asked for
  pub list : texts_member (codes "tags") (codes "a" ∷ codes "b" ∷ []) ≡ codes ",\"tags\":[\"a\",\"b\"]"
  pub no_items : texts_member (codes "tags") [] ≡ codes ",\"tags\":[]"
  -- one space stands between any two words, and none beside them; of nothing but stamps a title stands whole
  pub words : words_text false false (codes " Trip   to Rome ") ≡ codes "Trip to Rome"
  pub stamps_alone : words_or (codes "<2024-03-01>") [] ≡ codes "<2024-03-01>"
  pub only_the_asked : texts_member_of (Some (codes "path")) (codes "path") (codes "a" ∷ codes "b" ∷ []) ++ text_member_of (Some (codes "path")) (codes "title") (codes "c") ≡ codes "a/b"
  pub day_in_json : (day : ℕ) → day_object day (codes "x") ≡ codes "{\"kind\":\"day\",\"day\":" ++ quoted (date_text day) ++ codes ",\"text\":\"x\"}"
  -- what becomes a component of a calendar
  pub plain_day : when_from (stamp_of None None None) 738_945 ≡ Day (date_of 738_945)
  pub some_hours : when_from (stamp_of (Some 540) (Some 600) None) 738_945 ≡ between 738_945 540 738_945 600
  -- hours that end before they begin end on the next day
  pub over_midnight : when_from (stamp_of (Some 1_320) (Some 60) None) 738_945 ≡ between 738_945 1_320 738_946 60
  pub no_hours : when_from (stamp_of (Some 540) (Some 540) None) 738_945 ≡ At (date_of 738_945) (time_of 540)
  -- a range of three days ends where the fourth begins, also where a copy of it is later
  pub some_days : when_from (stamp_of None None (Some (738_947, None))) 738_952 ≡ Days (date_of 738_952) (date_of 738_955)
  pub days_and_hours : when_from (stamp_of (Some 540) None (Some (738_947, Some 600))) 738_945 ≡ between 738_945 540 738_947 600
  -- without an end it has all of its last day
  pub whole_last_day : when_from (stamp_of (Some 540) None (Some (738_946, None))) 738_945 ≡ between 738_945 540 738_947 0
  pub last_of_all : when_from (stamp_of (Some 1_320) (Some 60) None) 3_652_059 ≡ At (date_of 3_652_059) (time_of 1_320)
  -- not each month has a 31st, and each year a 28 February, but no 29 February
  pub last_of_month : (day : ℕ) → month_day_of day ≡ 31 → frequency_of Month day ≡ None
  pub in_each_month : (day : ℕ) → month_day_of day ≡ 28 → frequency_of Month day ≡ Some Monthly
  pub leap_day : (day : ℕ) → month_of day ≡ 2 → month_day_of day ≡ 29 → frequency_of Year day ≡ None
  pub each_year : (day : ℕ) → month_of day ≡ 2 → month_day_of day ≡ 28 → frequency_of Year day ≡ Some Yearly
  pub hours_have_none : frequency_of Hour 738_944 ≡ None
  pub ten_past_nine : time_of 550 ≡ record { hour = 9; minute = 10 }
  pub in_folders : base_name (codes "/home/ann/a.org") ≡ codes "a.org"
  pub in_no_folder : base_name (codes "a.org") ≡ codes "a.org"
  pub known_by_id : known_by (Some (codes "7f")) (codes "x/a.org") (codes "Walk") ≡ codes "7f"
  -- an ID that says nothing is none
  pub known_by_title : known_by (Some []) (codes "x/a.org") (codes "Walk") ≡ codes "a.org:Walk"
  pub cancelled : status_of (Some (codes "CANCELED")) ≡ Cancelled
  pub done : status_of (Some (codes "DONE")) ≡ Confirmed
  pub second_priority : priority_of_cookie (Some (codes "B")) ≡ Some 5
  pub numbered_priority : priority_of_cookie (Some (codes "3")) ≡ Some 3
  pub other_priority : priority_of_cookie (Some (codes "D")) ≡ None
  pub long_priority : priority_of_cookie (Some (codes "10")) ≡ None
