use Rattle.std.proofs.Common.{◌≡◌, ◌∙◌, ◌++◌, ◌-◌, List, ap, arith, get_or, subst, sym}
use Rattle.std.specs.Prelude.{OnOk}
use Rattle.org_clocktable.specs.Counted.{clocks_before, heading_sum}
use Rattle.org_clocktable.specs.Table.{level_rows}
use Rattle.org_clocktable.specs.declared.row.TableRow.{TableRow}
use Rattle.org_clocktable.proofs.WalkLemmas.{level_here, sum_of}
use Rattle.org_outline.proofs.ByPlace.{levels_length, table_at, table_length}
use Rattle.org_outline.specs.Levels.{levels}
use Rattle.org_outline.specs.Tree.{end_of}
use Rattle.org_sum.specs.Measures.{clock_minutes, effort_minutes}
use Rattle.org_clocktable.proofs.rows.push_heading.Goals as goal

pub overflow_sub-clock : goal.overflow_sub-clock
overflow_sub-clock c =
    let days = c.args.running.now.days in
    let file = c.args.file.now.counted.now in
    let place = c.args.place in
    let end = get_or c.ends.result.now place 0 in
    let is : end ≡ end_of (levels file.entries) place = table_at _ _ _ place 0 c.ends.ensures.value (omega (arith, levels_length file.entries, c.requires.within)) in
    omega (arith, c.before-2.ensures ∙ c.requires.running end, c.before-3.ensures ∙ c.requires.running place, (sum_of days file place end c.requires.within is).0)

pub offset_bounds-ends-place : goal.offset_bounds-ends-place
offset_bounds-ends-place c = omega (arith, table_length _ _ _ c.ends.ensures.value, levels_length c.args.file.now.counted.now.entries, c.requires.within, c.ends.type_inv.1)

pub bounds-ends-place : goal.bounds-ends-place
bounds-ends-place c = omega (arith, table_length _ _ _ c.ends.ensures.value, levels_length c.args.file.now.counted.now.entries, c.requires.within)

pub offset_bounds-efforts-place : goal.offset_bounds-efforts-place
offset_bounds-efforts-place c = omega (arith, table_length _ _ _ c.efforts.ensures.value, c.requires.within, c.efforts.type_inv.1)

pub bounds-efforts-place : goal.bounds-efforts-place
bounds-efforts-place c = omega (arith, table_length _ _ _ c.efforts.ensures.value, c.requires.within)

pub returns : goal.returns
returns c =
    let days = c.args.running.now.days in
    let most = c.args.most in
    let at = c.args.file.now.place in
    let file = c.args.file.now.counted.now in
    let place = c.args.place in
    let end = get_or c.ends.result.now place 0 in
    let entry = c.entry.result.now in
    let is : end ≡ end_of (levels file.entries) place = table_at _ _ _ place 0 c.ends.ensures.value (omega (arith, levels_length file.entries, c.requires.within)) in
    let here : entry ≡ get_or file.entries place entry = c.entry.ensures.value ∙ ap (λ es. get_or es place entry) c.outline-outline.ensures.value in
    let upto : c.before-2.result ≡ clocks_before days file end = c.before-2.ensures ∙ c.requires.running end in
    let before : c.before-3.result ≡ clocks_before days file place = c.before-3.ensures ∙ c.requires.running place in
    let clock : c.before-2.result - c.before-3.result ≡ heading_sum (clock_minutes days) file place = (λ j. upto j - before j) ∙ (sum_of days file place end c.requires.within is).1 in
    let effort : get_or c.efforts.result.now place 0 ≡ heading_sum effort_minutes file place = table_at _ _ _ place 0 c.efforts.ensures.value c.requires.within in
    let level = sym (level_here file.entries place entry c.requires.within here) in
    subst (λ (row : List TableRow). OnOk c.push_row.result (c.push_row.new.rows.items ≡ c.args.rows.now.items ++ row)) (λ j. level_rows most at place (clock j) (effort j) (level j)) c.push_row.ensures
