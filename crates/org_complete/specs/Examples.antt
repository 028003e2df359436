-- Worked examples: what the definitions say of inputs at which a wrong rule says something else.
use Rattle.std.specs.Prelude.{◌≡◌, ℕ, [], List, codes, None, Err, Result}
use Rattle.org_base.specs.declared.code.Code.TheVariants as code
use Rattle.org_base.specs.declared.fault.Fault.{Fault}
use Rattle.org_base.specs.declared.fault.Fault.TheVariants.{Plain}
use Rattle.org_cal.specs.declared.moment.Moment.{Moment}
use Rattle.org_entry.specs.Entry.{entry_of}
use Rattle.org_entry.specs.Planning.{entry_planning}
use Rattle.org_complete.specs.Completion.{keyword_span, plan_for}
use Rattle.org_complete.specs.declared.plan.Plan.{Plan}
use Rattle.org_settings.specs.Settings.{settings_of}

-- what the keyword DONE does in a section, without settings
abbrev pub done_plan : Moment → List ℕ → Result Plan Fault
done_plan now section = plan_for now (settings_of []) (entry_planning (entry_of (settings_of []) section)) (codes "DONE")

-- want of a time in the deadline comes before a scheduled day that would lie past the calendar, and a keyword goes after all
-- white space that follows the stars (profile)
pub record ExamplesHold : Type 0 where
  pub hours_first : (now : Moment) → done_plan now (codes "* TODO A\nSCHEDULED: <9999-12-31 Fri +1d> DEADLINE: <2024-02-28 Wed +1h>\n") ≡ Err (Plain code.Hours)
  pub behind_two_spaces : keyword_span (codes "*  A\n") None ≡ record { at = 3; len = 0 }
