-- The first lines, the components and the last line.
use Rattle.std.proofs.Common.{◌≡◌, ◌∙◌, ◌++◌, [], ◌∷◌, ap, map}
use Rattle.std.specs.Prelude.{codes}
use Rattle.org_ical.specs.Components.{component_text, components_lines}
use Rattle.org_ical.specs.Lines.{written}
use Rattle.org_ical.specs.Properties.{stamp_line}
use Rattle.org_ical.proofs.CalendarLemmas.{whole}
use Rattle.org_ical.proofs.calendar.Calendar.bytes.Goals as goal

pub returns : goal.returns
returns c =
    let calendar = c.args.self.now in
    let begin = codes "BEGIN:VCALENDAR" in
    let version = codes "VERSION:2.0" in
    let product = codes "PRODID:-//orgviews//orgq//EN" in
    let end = codes "END:VCALENDAR" in
    let lines = components_lines c.as_slice.result.now [] (map component_text c.as_slice-2.result.now) in
    let joined =
    whole begin version product end lines _ _ _ _ _ _ c.new-out.ensures.items c.in_ok-push_line.ensures c.in_ok-push_line-2.ensures
    c.in_ok-push_line-3.ensures c.in_ok-push_components.ensures c.in_ok-push_line-4.ensures in
    let stamp : c.as_slice.result.now ≡ stamp_line calendar.date calendar.time = c.as_slice.ensures.value ∙ c.in_ok-stamp.ensures.value in
    record {
      value = joined
          ∙ ap (λ s. written (begin ∷ version ∷ product ∷ (components_lines s [] (map component_text c.as_slice-2.result.now) ++ end ∷ []))) stamp
          ∙ ap (λ all. written (begin ∷ version ∷ product ∷ (components_lines (stamp_line calendar.date calendar.time) [] (map component_text all) ++ end ∷ []))) c.as_slice-2.ensures.value;
    }
