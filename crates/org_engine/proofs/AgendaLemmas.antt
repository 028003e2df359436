-- What an agenda over the files of a world shows.
use Rattle.std.proofs.Common.{◌≡◌, ◌∙◌, ℕ, zero, suc, ◌+◌, ◌-◌, ◌<◌, ◌≤◌, List, ◌++◌, arith, false, refl, ap, ap₂}
use Rattle.std.specs.Prelude.{Option, None, Some}
use Rattle.std.proofs.lemmas.Bool.{lt-leb, le-leb}
use Rattle.std.specs.List.{flat_map, range_with_len}
use Rattle.org_base.specs.declared.profile.Profile.{Profile}
use Rattle.org_agenda.specs.Bound.{near_count}
use Rattle.org_agenda.specs.Days.{AgendaView, day_rows}
use Rattle.org_agenda.specs.Sources.{sources_of}
use Rattle.org_agenda.specs.declared.as_of.AsOf.{AsOf}
use Rattle.org_agenda.specs.declared.source.HeadingStamp.{HeadingStamp}
use Rattle.org_inherit.specs.Scope.{Scope}
use Rattle.org_layout.specs.Shown.{day_lines_shown, lines_of}
use Rattle.org_layout.specs.declared.shown.Line.{Line}
use Rattle.org_engine.specs.Outlines.{scopes_of}
use Rattle.org_cal.specs.Faults.{date_fault}
use Rattle.org_cal.specs.Texts.{date_of}
use Rattle.org_base.specs.declared.limits.TheConstants.{MOST_DAYS}
use Rattle.org_engine.specs.Questions.{asked_agenda}
use Rattle.org_engine.proofs.QuestionsWords.{asked_days, asked_from, days_fault}
use Rattle.org_engine.specs.Step.{DayAgenda, Unread}
use Rattle.org_engine.specs.Examined.{near_in_world}
use Rattle.org_engine.specs.Views.{scopes_over}
use Rattle.org_engine.specs.Places.{agenda_in, days_shown, view_in, view_over}
use Rattle.org_engine.specs.declared.question.Form.{Form}
use Rattle.org_engine.proofs.ListLemmas.{over_all}
use Rattle.org_engine.specs.World.{WorldView}

same_lists : (f g : ℕ → List Line) (first n : ℕ) → ((day : ℕ) → first ≤ day → day < first + n → f day ≡ g day) → flat_map f (range_with_len first n) ≡ flat_map g (range_with_len first n)
same_lists f g first zero same = refl
same_lists f g first (suc n) same =
    ap₂ (λ a b. a ++ b) (same first (omega arith) (omega arith)) (same_lists f g (first + 1) n (λ day late early. same day (omega (arith, late)) (omega (arith, early))))

-- stamps that give the rows of all stamps on each day of a period
pub same_lines : (p : Profile) (scopes : List Scope) (some all : List HeadingStamp) (today first count last : ℕ) → all ≡ sources_of 0 scopes → last + 1 ≡ first + count → ((day : ℕ) → first ≤ day → day ≤ last → day_rows p some today day ≡ day_rows p all today day) →
    (agenda : AgendaView) → agenda ≡ record { profile = p; sources = some; today = today; first = first; count = count } → lines_of agenda ≡ days_shown p scopes today first count
same_lines p scopes some all today first count last are end same agenda is =
    (λ i. lines_of (is i))
    ∙ same_lists (λ day. day_lines_shown day (day_rows p some today day)) (λ day. day_lines_shown day (day_rows p all today day)) first count (λ day late early. ap (day_lines_shown day) (same day late (omega (arith, early, end))))
    ∙ (λ i. lines_of (record { profile = p; sources = are i; today = today; first = first; count = count }))

-- an agenda over all files, as a world looks at stamps
pub days_are : (form : Form) (first count : ℕ) (world : WorldView) (seen : AsOf) → seen.profile ≡ world.profile → seen.today ≡ world.moment.day →
    view_over form None false (λ scopes. days_shown seen.profile scopes seen.today first count) world ≡ agenda_in form first count world
days_are form first count world seen same is =
    (λ i. view_over form None false (λ scopes. days_shown (same i) scopes (is i) first count) world)
    ∙ ap (λ w. view_in form false (days_shown world.profile (scopes_of w) world.moment.day first count) w) (over_all world)

-- the stamps that it examines
pub near_are : (first count : ℕ) (world : WorldView) (seen : AsOf) → seen.profile ≡ world.profile → seen.today ≡ world.moment.day →
    near_count seen.profile first (first + count - 1) seen.today (scopes_over None world) ≡ near_in_world first count world
unfolding near_in_world
near_are first count world seen same is =
    ap (λ w. near_count seen.profile first (first + count - 1) seen.today (scopes_of w)) (over_all world)
    ∙ (λ i. near_count (same i) first (first + count - 1) (is i) (scopes_of world))

module _ (date : List ℕ) (days : ℕ) where
  -- the calendar has no such day
  pub no_date : date_of date ≡ None → asked_agenda date days ≡ Unread date_fault
  unfolding asked_agenda
  no_date none = ap (λ (d : Option ℕ). asked_from d days) none

module _ (date : List ℕ) (days first : ℕ) (there : date_of date ≡ Some first) where
  from_there : asked_agenda date days ≡ asked_days first days
  unfolding asked_agenda
  from_there = ap (λ (d : Option ℕ). asked_from d days) there

  pub no_days : days < 1 → asked_agenda date days ≡ Unread days_fault
  no_days none = from_there ∙ rw (lt-leb 1 days none) refl

  pub many_days : 1 ≤ days → MOST_DAYS < days → asked_agenda date days ≡ Unread days_fault
  many_days some many = from_there ∙ rw (le-leb 1 days some, lt-leb days MOST_DAYS many) refl

  pub past_days : 1 ≤ days → days ≤ MOST_DAYS → 3_652_060 < first + days → asked_agenda date days ≡ Unread days_fault
  past_days some few past = from_there ∙ rw (le-leb 1 days some, le-leb days MOST_DAYS few, lt-leb (first + days) 3_652_060 past) refl

  pub these_days : 1 ≤ days → days ≤ MOST_DAYS → first + days ≤ 3_652_060 → asked_agenda date days ≡ DayAgenda first days
  these_days some few within = from_there ∙ rw (le-leb 1 days some, le-leb days MOST_DAYS few, le-leb (first + days) 3_652_060 within) refl
