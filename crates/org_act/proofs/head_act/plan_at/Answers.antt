-- The line that begins there is changed; where it would be read as something else, that is refused.
use Rattle.std.proofs.Common.{◌∙◌, length, sym, ap}
use Rattle.std.specs.Prelude.{Ok, Err}
use Rattle.std.specs.String.{string_bytes}
use Rattle.org_act.proofs.ActLemmas.{makes_same}
use Rattle.org_act.proofs.HeadActLemmas.{line_there}
use Rattle.org_act.proofs.LineLemmas.{rest_is}
use Rattle.org_act.specs.HeadActs.{changed_of, changed_there, put_line}
use Rattle.org_amend.specs.Heads.{seen}
use Rattle.org_settings.specs.Settings.{FileSettings}
use Rattle.org_act.proofs.head_act.plan_at.Goals as goal

pub returns-in-Ok : goal.returns-in-Ok
returns-in-Ok c =
    let change = c.args.change.now in
    let text = c.args.text.now in
    let line = c.first_line-line.result.now in
    let new = string_bytes c.in-Ok.new in
    let there = line_there change text c.settings.result.now c.args.at line (Ok new) (rest_is c.args.at text line c.first_line-line.ensures.value) (sym c.in_ok-new.ensures.value ∙ ap seen c.in-Ok.is) in
    let same = there ∙ ap (λ (s : FileSettings). changed_there change text s c.args.at) c.settings.ensures.value in
    record { value = makes_same c.change_line.result text (put_line text c.args.at (length line) new) (changed_of change text c.args.file.now.text c.args.at) same c.change_line.ensures.value }

pub returns-in-Err : goal.returns-in-Err
returns-in-Err c =
    let change = c.args.change.now in
    let text = c.args.text.now in
    let line = c.first_line-line.result.now in
    let there = line_there change text c.settings.result.now c.args.at line (Err c.in-Err.why) (rest_is c.args.at text line c.first_line-line.ensures.value) (sym c.in_ok-new.ensures.value ∙ ap seen c.in-Err.is) in
    record { value = λ _. sym (there ∙ ap (λ (s : FileSettings). changed_there change text s c.args.at) c.settings.ensures.value) }
