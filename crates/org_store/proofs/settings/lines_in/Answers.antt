-- The lines of one section more.
use Rattle.std.proofs.Common.{◌∙◌, ◌++◌, ap, sym, arith}
use Rattle.org_class.specs.Classes.{section_settings}
use Rattle.org_store.specs.Begun.{section_of}
use Rattle.org_store.proofs.LineLemmas.{last_lines, more_lines, none_first}
use Rattle.org_store.proofs.settings.lines_in.Goals as goal

pub returns-in_default-clause-value : goal.returns-in_default-clause-value
returns-in_default-clause-value g c =
    let t = g.T.Text.content c.args.text.now in
    let list = c.args.list.now in
    let next = c.loop-place.next in
    let none = none_first list next c.args.to c.first_setting.result c.first_setting.ensures.value c.in_default.not-Some in
    c.loop-place.invariant.so_far ∙ last_lines t list c.args.from next c.args.to c.requires.sections_of_text c.loop-place.invariant.low c.loop-place.invariant.high none

pub loop-place-preserved : goal.loop-place-preserved
loop-place-preserved g c =
    let t = g.T.Text.content c.args.text.now in
    let list = c.args.list.now in
    let next = c.loop-place.next in
    let place = c.in-Some.place in
    let first = c.in-Some.ensures.value in
    record {
      low = omega (arith, first.0, c.loop-place.invariant.low);
      high = omega (arith, first.1);
      so_far = c.in_ok-push_lines.ensures.ok
          ∙ (ap (λ xs. xs ++ section_settings (section_of t place)) c.loop-place.invariant.so_far
          ∙ sym (more_lines t list c.args.from next c.args.to place c.requires.sections_of_text c.loop-place.invariant.low c.requires.within first));
    }
