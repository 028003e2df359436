-- Without a setting line nothing is put after the texts.
use Rattle.std.proofs.Common.{◌≡◌, ◌∙◌, ◌++◌, false, ap, sym, append-nil}
use Rattle.std.specs.List.{list_any}
use Rattle.org_lines.specs.Cuts.{lines}
use Rattle.org_class.specs.Classes.{is_setting_class}
use Rattle.org_base.specs.Spans.{bytes_in}
use Rattle.org_class.proofs.SettingLemmas.{no_settings}
use Rattle.org_class.proofs.read.push_setting_lines.Goals as goal

pub returns-then-not-has_setting-clause-ok : goal.returns-then-not-has_setting-clause-ok
returns-then-not-has_setting-clause-ok g c =
    let none : list_any is_setting_class c.args.classes.now ≡ false = sym c.has_setting.ensures.value ∙ c.if-not-has_setting.true in
    sym (ap (λ more. c.args.texts.now ++ more) (no_settings (lines (bytes_in (g.T.Text.content c.args.text.now) c.args.section)) c.args.classes.now none) ∙ append-nil c.args.texts.now)
