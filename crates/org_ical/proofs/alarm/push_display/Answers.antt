-- Five lines.
use Rattle.std.proofs.Common.{◌≡◌, ◌∷◌, [], ◌++◌, List, ℕ}
use Rattle.std.specs.Prelude.{codes}
use Rattle.std.proofs.lemmas.Result.{on_ok_weaker}
use Rattle.org_ical.specs.Properties.{text_line}
use Rattle.org_ical.proofs.CalendarLemmas.{last_line, then_line}
use Rattle.org_ical.proofs.alarm.push_display.Goals as goal

pub returns : goal.returns
returns c =
    let o0 = c.args.out.now.items in
    let o1 = c.push_line.new.out.items in
    let o2 = c.push_line-2.new.out.items in
    let o3 = c.push_text.new.out.items in
    let o4 = c.push_line-3.new.out.items in
    let o5 = c.push_line-4.new.out.items in
    let end = codes "END:VALARM" in
    let trigger = c.args.trigger.now in
    let told = text_line (codes "DESCRIPTION") c.args.summary.now in
    on_ok_weaker c.push_line-4.result
    (λ e. then_line o0 o1 o5 (codes "BEGIN:VALARM") (codes "ACTION:DISPLAY" ∷ told ∷ trigger ∷ end ∷ []) c.in_ok-push_line.ensures
    (then_line o1 o2 o5 (codes "ACTION:DISPLAY") (told ∷ trigger ∷ end ∷ []) c.in_ok-push_line-2.ensures
    (then_line o2 o3 o5 told (trigger ∷ end ∷ []) c.in_ok-push_text.ensures
    (then_line o3 o4 o5 trigger (end ∷ []) c.in_ok-push_line-3.ensures (last_line o4 o5 end e)))))
    c.push_line-4.ensures
