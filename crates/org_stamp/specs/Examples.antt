-- Worked examples: what the definitions say of inputs at which a wrong rule says something else.
use Rattle.std.specs.Prelude.{◌≡◌, [], ◌∷◌, Some, None, true, map, codes}
use Rattle.org_cal.specs.declared.unit.Unit.TheVariants.{Week}
use Rattle.org_stamp.specs.declared.mark.RepeaterKind.TheVariants.{Plain}
use Rattle.org_stamp.specs.Line.{stamps_of}
use Rattle.org_stamp.specs.Print.{tail_text}

-- a range is one stamp, two stamps in other brackets are two, a day that there isn't makes no
-- stamp, and a time is printed before a repeater (Org manual 9.6,
-- "Timestamps")
pub record ExamplesHold : Type 0 where
  pub one_range : map (λ found. found.len) (stamps_of (codes "<2024-02-28 Wed>--<2024-02-29 Thu>")) ≡ 34 ∷ []
  pub other_brackets : map (λ found. found.at) (stamps_of (codes "<2024-02-28 Wed>--[2024-02-29 Thu]")) ≡ 0 ∷ 18 ∷ []
  pub no_thirtieth : stamps_of (codes "<2024-02-30 Fri>") ≡ []
  pub time_first : tail_text (record { active = true; day = 738_944; time = Some 630; end_time = None; repeater = Some (record { kind = Plain; n = 1; unit = Week; limit = None }); delay = None; last = None }) ≡ codes " 10:30 +1w"
