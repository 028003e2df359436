use Rattle.std.proofs.Common.{cond, refl}
use Rattle.std.specs.Prelude.{◌==◌, ◌&&◌, nat_le, None, Some}
use Rattle.std.specs.Fmt.{digits}
use Rattle.org_visible.specs.Visible.{visible}
use Rattle.org_ical.specs.declared.rule.Frequency.TheVariants.{Monthly, Yearly}
use Rattle.org_client.proofs.laws.examples_hold.Goals as goal

pub returns : goal.returns
unfolding digits visible
returns c = record { urgency_far_ahead = refl; urgency_two_weeks = refl; urgency_two_weeks_less_one = refl; urgency_on_its_day = refl; urgency_day_late = refl; urgency_week_late = refl; urgency_year_late = refl; urgency_planned_today = refl; urgency_planned_tomorrow = refl; urgency_most = refl; urgency_by_priority = refl; urgency_low_priority = refl; urgency_other_priority = refl; feed = refl; field = refl; own_minute = λ until. refl; last_minute = refl; no_start = λ after until day. refl; thirds = refl; no_part = refl; least = refl; longest = refl; half_up = refl; of_nothing = refl; cut_and_running = refl; clocked_label = refl; running_label = refl; list = refl; no_items = refl; words = refl; stamps_alone = refl; only_the_asked = refl; day_in_json = λ day. refl; plain_day = refl; some_hours = refl; over_midnight = refl; no_hours = refl; some_days = refl; days_and_hours = refl; whole_last_day = refl; last_of_all = refl; last_of_month = λ day e i. cond (nat_le (e i) 28) (Some Monthly) None; in_each_month = λ day e i. cond (nat_le (e i) 28) (Some Monthly) None; leap_day = λ day m d i. cond ((m i == 2) && (d i == 29)) None (Some Yearly); each_year = λ day m d i. cond ((m i == 2) && (d i == 29)) None (Some Yearly); hours_have_none = refl; ten_past_nine = refl; in_folders = refl; in_no_folder = refl; known_by_id = refl; known_by_title = refl; cancelled = refl; done = refl; second_priority = refl; numbered_priority = refl; other_priority = refl; long_priority = refl }
