-- Worked examples: what the definitions say of inputs at which a wrong rule says something else.
use Rattle.std.specs.Prelude.{◌≡◌, ◌++◌, [], ◌∷◌, None, Some, codes, replicate}
use Rattle.org_ical.specs.Dates.{date_text, moment_text}
use Rattle.org_ical.specs.Lines.{written_line}
use Rattle.org_ical.specs.Components.{lines_of}
use Rattle.org_ical.specs.Properties.{end_lines}
use Rattle.org_ical.specs.Reading.{content_lines}
use Rattle.org_ical.specs.Recurrences.{dates_lines, rule_line}
use Rattle.org_ical.specs.Texts.{read_values, value_text, values_text}
use Rattle.org_ical.specs.Uids.{uids}
use Rattle.org_ical.specs.declared.component.Kind.TheVariants.{Event, Task}
use Rattle.org_ical.specs.declared.date.When.TheVariants.{At, Between, Day, Days}
use Rattle.org_ical.specs.declared.component.Status.TheVariants.{Confirmed}
use Rattle.org_ical.specs.declared.rule.Frequency.TheVariants.{Weekly}

-- 195 164 is U+00E4, 194 155 is the control character U+009B, and 194 160 the space U+00A0
pub record ExamplesHold : Type 0 where
  pub special : value_text (codes "a;b,c\\d") ≡ codes "a\\;b\\,c\\\\d"
  -- a colon and a quotation mark stand as they are
  pub others : value_text (codes "a:\"b\"") ≡ codes "a:\"b\""
  pub line_feed : value_text (97 ∷ 10 ∷ 98 ∷ []) ≡ codes "a\\nb"
  -- what would end a line is a space
  pub controls : value_text (97 ∷ 13 ∷ 98 ∷ 9 ∷ 127 ∷ []) ≡ codes "a b  "
  pub late_control : value_text (194 ∷ 155 ∷ 195 ∷ 155 ∷ []) ≡ 194 ∷ 160 ∷ 195 ∷ 155 ∷ []
  pub list : values_text (codes "a,b" ∷ codes "c" ∷ []) ≡ codes "a\\,b,c"
  pub list_back : read_values (codes "a\\,b,c") ≡ codes "a,b" ∷ codes "c" ∷ []
  -- 75 octets stand in one line, the 76th in the next one behind a space
  pub full : written_line (replicate 75 97) ≡ replicate 75 97 ++ 13 ∷ 10 ∷ []
  pub over : written_line (replicate 76 97) ≡ replicate 75 97 ++ 13 ∷ 10 ∷ 32 ∷ 97 ∷ 13 ∷ 10 ∷ []
  -- a character of two octets isn't cut
  pub uncut : written_line (replicate 74 97 ++ 195 ∷ 164 ∷ []) ≡ replicate 74 97 ++ 13 ∷ 10 ∷ 32 ∷ 195 ∷ 164 ∷ 13 ∷ 10 ∷ []
  pub unfolded : content_lines (codes "a" ++ 13 ∷ 10 ∷ codes " b" ++ 13 ∷ 10 ∷ codes "c" ++ 13 ∷ 10 ∷ []) ≡ codes "ab" ∷ codes "c" ∷ []
  pub date : date_text (record { year = 2024; month = 2; day = 9 }) ≡ codes "20240209"
  pub moment : moment_text (record { year = 987; month = 12; day = 31 }) (record { hour = 9; minute = 5 }) ≡ codes "09871231T090500"
  -- days end where the first day behind them begins, and hours where they end
  pub days_end : end_lines (Days (record { year = 2024; month = 2; day = 28 }) (record { year = 2024; month = 3; day = 1 }))
      ≡ codes "DTEND;VALUE=DATE:20240301" ∷ []
  pub hours_end : end_lines (Between (record { year = 2024; month = 2; day = 29 }) (record { hour = 23; minute = 0 })
      (record { year = 2024; month = 3; day = 1 }) (record { hour = 1; minute = 30 }))
      ≡ codes "DTEND:20240301T013000" ∷ []
  pub rule : rule_line (record { interval = 12; frequency = Weekly }) ≡ codes "RRULE:FREQ=WEEKLY;INTERVAL=12"
  -- a further day has the time of the first one
  pub again : dates_lines (At (record { year = 2024; month = 2; day = 29 }) (record { hour = 9; minute = 0 })) (record { year = 2024; month = 4; day = 30 } ∷ [])
      ≡ codes "RDATE:20240430T090000" ∷ []
  pub days_again : dates_lines (Day (record { year = 2024; month = 2; day = 29 })) (record { year = 2024; month = 4; day = 30 } ∷ [])
      ≡ codes "RDATE;VALUE=DATE:20240430" ∷ []
  -- equal keys are told apart
  pub numbers : uids [] (codes "a" ∷ codes "b" ∷ codes "a" ∷ []) ≡ codes "a-1" ∷ codes "b-1" ∷ codes "a-2" ∷ []
  -- the second component isn't written, and the third has its number all the same
  pub calendar : lines_of (record { year = 2024; month = 2; day = 28 }) (record { hour = 10; minute = 30 })
      (record {
        key = codes "d";
        shown = Some (record {
          kind = Event (Between (record { year = 2024; month = 2; day = 29 }) (record { hour = 9; minute = 0 })
              (record { year = 2024; month = 2; day = 29 }) (record { hour = 10; minute = 0 })) None Confirmed;
          more = [];
          words = record { summary = codes "Dentist, Dr. May"; categories = codes "home" ∷ []; location = codes "Hill Road"; description = [] };
          alarm = Some 30;
        });
      } ∷ record { key = codes "d"; shown = None } ∷ record {
        key = codes "d";
        shown = Some (record {
          kind = Task (Day (record { year = 2024; month = 3; day = 1 })) (Some 1);
          more = [];
          words = record { summary = codes "Pay"; categories = []; location = []; description = codes "by card" };
          alarm = None;
        });
      } ∷ [])
      ≡ codes "BEGIN:VCALENDAR"
      ∷ codes "VERSION:2.0"
      ∷ codes "PRODID:-//orgviews//orgq//EN"
      ∷ codes "BEGIN:VEVENT"
      ∷ codes "UID:d-1"
      ∷ codes "DTSTAMP:20240228T103000Z"
      ∷ codes "DTSTART:20240229T090000"
      ∷ codes "DTEND:20240229T100000"
      ∷ codes "SUMMARY:Dentist\\, Dr. May"
      ∷ codes "CATEGORIES:home"
      ∷ codes "LOCATION:Hill Road"
      ∷ codes "STATUS:CONFIRMED"
      ∷ codes "BEGIN:VALARM"
      ∷ codes "ACTION:DISPLAY"
      ∷ codes "DESCRIPTION:Dentist\\, Dr. May"
      ∷ codes "TRIGGER:-PT30M"
      ∷ codes "END:VALARM"
      ∷ codes "END:VEVENT"
      ∷ codes "BEGIN:VTODO"
      ∷ codes "UID:d-3"
      ∷ codes "DTSTAMP:20240228T103000Z"
      ∷ codes "DUE;VALUE=DATE:20240301"
      ∷ codes "SUMMARY:Pay"
      ∷ codes "DESCRIPTION:by card"
      ∷ codes "PRIORITY:1"
      ∷ codes "STATUS:NEEDS-ACTION"
      ∷ codes "END:VTODO"
      ∷ codes "END:VCALENDAR"
      ∷ []
