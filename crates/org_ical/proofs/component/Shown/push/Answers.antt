-- The parts of a component, one behind the other.
use Rattle.std.proofs.Common.{◌≡◌, ◌∙◌, ◌∷◌, [], ◌++◌, List, ℕ, ap}
use Rattle.std.specs.Prelude.{codes}
use Rattle.std.proofs.lemmas.Result.{on_ok_weaker}
use Rattle.org_ical.specs.Alarms.{own_alarm}
use Rattle.org_ical.specs.Components.{begin_line, end_line, state_lines, times_lines}
use Rattle.org_ical.specs.Lines.{written, written_line}
use Rattle.org_ical.specs.Properties.{text_line}
use Rattle.org_ical.specs.Recurrences.{event_dates}
use Rattle.org_ical.specs.Words.{own_words}
use Rattle.org_ical.proofs.CalendarLemmas.{last_line, then_line, then_lines}
use Rattle.org_ical.proofs.component.Shown.push.Goals as goal

pub returns : goal.returns
returns c =
    let shown = c.args.self.now in
    let kind = shown.kind in
    let o0 = c.args.out.now.items in
    let o1 = c.push_line.new.out.items in
    let o2 = c.push_text.new.out.items in
    let o3 = c.push_line-2.new.out.items in
    let o4 = c.push_times.new.out.items in
    let o5 = c.push_dates.new.out.items in
    let o6 = c.push.new.out.items in
    let o7 = c.push_state.new.out.items in
    let o8 = c.push_alarm.new.out.items in
    let o9 = c.push_line-3.new.out.items in
    let begin = begin_line kind in
    let end = end_line kind in
    let uid = text_line (codes "UID") c.args.uid.now in
    let stamp = c.args.stamp.now in
    let times = times_lines kind in
    let more = event_dates kind shown.more.items in
    let words = own_words shown.words in
    let state = state_lines kind in
    let alarm = own_alarm shown in
    let l8 = alarm ++ end ∷ [] in
    let l7 = state ++ l8 in
    let l6 = words ++ l7 in
    let l5 = more ++ l6 in
    let l4 = times ++ l5 in
    record {
      value = on_ok_weaker c.push_line-3.result
          (λ e. then_line o0 o1 o9 begin (uid ∷ stamp ∷ l4) (c.in_ok-push_line.ensures ∙ ap (λ l. o0 ++ written_line l) c.begin_line.ensures)
          (then_line o1 o2 o9 uid (stamp ∷ l4) c.in_ok-push_text.ensures
          (then_line o2 o3 o9 stamp l4 c.in_ok-push_line-2.ensures
          (then_lines o3 o4 o9 times l5 c.in_ok-push_times.ensures
          (then_lines o4 o5 o9 more l6 (c.in_ok-push_dates.ensures ∙ ap (λ d. o4 ++ written (event_dates kind d)) c.as_slice.ensures.value)
          (then_lines o5 o6 o9 words l7 c.in_ok-push.ensures.value
          (then_lines o6 o7 o9 state l8 c.in_ok-push_state.ensures
          (then_lines o7 o8 o9 alarm (end ∷ []) c.in_ok-push_alarm.ensures
          (last_line o8 o9 end (e ∙ ap (λ l. o8 ++ written_line l) c.end_line.ensures)))))))))) c.push_line-3.ensures;
    }
