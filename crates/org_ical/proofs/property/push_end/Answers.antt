-- One line alone.
use Rattle.std.proofs.Common.{◌≡◌, ◌∙◌, ◌++◌, List, ℕ, ap, append-nil, subst, sym}
use Rattle.std.specs.Prelude.{OnOk}
use Rattle.org_ical.specs.Lines.{written}
use Rattle.org_ical.specs.Properties.{end_lines}
use Rattle.org_ical.proofs.property.push_end.Goals as goal

pub returns-in-Between : goal.returns-in-Between
returns-in-Between c =
    let P : List ℕ → Type 0 = λ t. OnOk c.push_time.result (c.push_time.new.out.items ≡ c.args.out.now.items ++ t) in
    subst P (sym (ap (λ w. written (end_lines w)) c.in-Between.is ∙ append-nil _)) c.push_time.ensures

pub returns-in-Days : goal.returns-in-Days
returns-in-Days c =
    let P : List ℕ → Type 0 = λ t. OnOk c.push_day.result (c.push_day.new.out.items ≡ c.args.out.now.items ++ t) in
    subst P (sym (ap (λ w. written (end_lines w)) c.in-Days.is ∙ append-nil _)) c.push_day.ensures
