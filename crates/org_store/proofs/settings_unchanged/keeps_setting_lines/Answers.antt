-- The new sections stand in the place of the touched ones.
use Rattle.std.proofs.Common.{◌≡◌, ◌∙◌, ℕ, ◌+◌, ◌-◌, sym, arith, length}
use Rattle.org_class.specs.Changes.{new_sections}
use Rattle.org_store.specs.Change.{edited_end, first_edited}
use Rattle.org_store.specs.File.{lines_between}
use Rattle.org_store.proofs.SettingsUnchangedLemmas.{count, lines_stay, new_lines}
use Rattle.org_store.proofs.settings_unchanged.keeps_setting_lines.Goals as goal

pub overflow_sub-last : goal.overflow_sub-last
overflow_sub-last g c =
    let n = count (g.T.Text.content c.args.old.now.text.now) (g.T.Text.content c.args.new.now.text.now) c.args.change.ins.now c.args.change.at c.args.change.del c.touched_sections-touched.result.first c.touched_sections-touched.result.end c.args.old.now.list.now c.args.new.now.list.now c.requires.old_kept c.requires.new_kept c.requires.within c.requires.changed c.touched_sections-touched.ensures.first c.touched_sections-touched.ensures.end c.touched_sections-touched.ensures.order c.touched_sections-touched.ensures.last in
    omega (arith, n)

pub lines_in-requires-2-clause-order : goal.lines_in-requires-2-clause-order
lines_in-requires-2-clause-order g c =
    let n = count (g.T.Text.content c.args.old.now.text.now) (g.T.Text.content c.args.new.now.text.now) c.args.change.ins.now c.args.change.at c.args.change.del c.touched_sections-touched.result.first c.touched_sections-touched.result.end c.args.old.now.list.now c.args.new.now.list.now c.requires.old_kept c.requires.new_kept c.requires.within c.requires.changed c.touched_sections-touched.ensures.first c.touched_sections-touched.ensures.end c.touched_sections-touched.ensures.order c.touched_sections-touched.ensures.last in
    omega (arith, n)

pub lines_in-requires-2-clause-within : goal.lines_in-requires-2-clause-within
lines_in-requires-2-clause-within g c =
    let n = count (g.T.Text.content c.args.old.now.text.now) (g.T.Text.content c.args.new.now.text.now) c.args.change.ins.now c.args.change.at c.args.change.del c.touched_sections-touched.result.first c.touched_sections-touched.result.end c.args.old.now.list.now c.args.new.now.list.now c.requires.old_kept c.requires.new_kept c.requires.within c.requires.changed c.touched_sections-touched.ensures.first c.touched_sections-touched.ensures.end c.touched_sections-touched.ensures.order c.touched_sections-touched.ensures.last in
    omega (arith, n)

pub returns-clause-value : goal.returns-clause-value
returns-clause-value g c =
    let t = g.T.Text.content c.args.old.now.text.now in
    let new = g.T.Text.content c.args.new.now.text.now in
    let at = c.args.change.at in
    let del = c.args.change.del in
    let ins = c.args.change.ins.now in
    let last : ℕ = c.len-2.result - (c.len.result - c.touched_sections-touched.result.end) in
    let last_is : last ≡ c.touched_sections-touched.result.first + length (new_sections t at del ins) =
    omega (arith, count t new ins at del c.touched_sections-touched.result.first c.touched_sections-touched.result.end c.args.old.now.list.now c.args.new.now.list.now c.requires.old_kept c.requires.new_kept c.requires.within c.requires.changed c.touched_sections-touched.ensures.first c.touched_sections-touched.ensures.end c.touched_sections-touched.ensures.order c.touched_sections-touched.ensures.last, c.len.ensures.value, c.len-2.ensures.value) in
    let has = c.in_ok-has.ensures.value ∙ new_lines t new ins at del c.touched_sections-touched.result.first c.touched_sections-touched.result.end c.args.old.now.list.now c.args.new.now.list.now c.requires.old_kept c.requires.new_kept c.requires.within c.requires.changed c.touched_sections-touched.ensures.first c.touched_sections-touched.ensures.end c.touched_sections-touched.ensures.order c.touched_sections-touched.ensures.last last last_is in
    let had : c.in_ok-had.had ≡ lines_between t (first_edited t c.args.change) (edited_end t c.args.change) = c.in_ok-had.ensures.value ∙ (λ i. lines_between t (c.touched_sections-touched.ensures.first i) (c.touched_sections-touched.ensures.end i)) in
    (λ yes. sym has ∙ (c.is_same.ensures.value.0 yes ∙ had), λ keeps. c.is_same.ensures.value.1 (has ∙ (keeps ∙ sym had)))

pub returns-clause-same : goal.returns-clause-same
returns-clause-same g c =
    let t = g.T.Text.content c.args.old.now.text.now in
    let new = g.T.Text.content c.args.new.now.text.now in
    let at = c.args.change.at in
    let del = c.args.change.del in
    let ins = c.args.change.ins.now in
    let last : ℕ = c.len-2.result - (c.len.result - c.touched_sections-touched.result.end) in
    let last_is : last ≡ c.touched_sections-touched.result.first + length (new_sections t at del ins) =
    omega (arith, count t new ins at del c.touched_sections-touched.result.first c.touched_sections-touched.result.end c.args.old.now.list.now c.args.new.now.list.now c.requires.old_kept c.requires.new_kept c.requires.within c.requires.changed c.touched_sections-touched.ensures.first c.touched_sections-touched.ensures.end c.touched_sections-touched.ensures.order c.touched_sections-touched.ensures.last, c.len.ensures.value, c.len-2.ensures.value) in
    let has = c.in_ok-has.ensures.value ∙ new_lines t new ins at del c.touched_sections-touched.result.first c.touched_sections-touched.result.end c.args.old.now.list.now c.args.new.now.list.now c.requires.old_kept c.requires.new_kept c.requires.within c.requires.changed c.touched_sections-touched.ensures.first c.touched_sections-touched.ensures.end c.touched_sections-touched.ensures.order c.touched_sections-touched.ensures.last last last_is in
    λ yes. lines_stay t new ins at del c.touched_sections-touched.result.first c.touched_sections-touched.result.end c.args.old.now.list.now c.args.new.now.list.now c.requires.old_kept c.requires.new_kept c.requires.within c.requires.changed c.touched_sections-touched.ensures.first c.touched_sections-touched.ensures.end c.touched_sections-touched.ensures.order c.touched_sections-touched.ensures.last (sym has ∙ (c.is_same.ensures.value.0 yes ∙ c.in_ok-had.ensures.value))
