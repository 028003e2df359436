-- The numbers of a change fit, and the part's sections are the new ones.
use Rattle.std.proofs.Common.{ℕ, ◌+◌, ◌-◌, refl, ◌∙◌, ap, arith, length, map, take}
use Rattle.std.specs.List.{sum_by}
use Rattle.org_class.specs.Changes.{first_touched_by}
use Rattle.org_store.specs.Sections.{section_len}
use Rattle.org_store.proofs.TouchedLemmas.{fits, part_is}
use Rattle.org_store.proofs.touched.touched_sections.Goals as goal

pub first_touched-first-requires-clause-within : goal.first_touched-first-requires-clause-within
first_touched-first-requires-clause-within g c =
    let t = g.T.Text.content c.args.old.now.text.now in
    let ins = c.args.change.ins.now in
    let list = c.args.old.now.list.now in
    let h = fits t ins list c.args.change.at c.args.change.del c.requires.sections_of_text c.requires.within (omega (arith, c.len-old.ensures.fits)) in
    omega (arith, h.size, c.requires.within)

pub begun_by-end-requires : goal.begun_by-end-requires
begun_by-end-requires g c =
    let t = g.T.Text.content c.args.old.now.text.now in
    let ins = c.args.change.ins.now in
    let list = c.args.old.now.list.now in
    let h = fits t ins list c.args.change.at c.args.change.del c.requires.sections_of_text c.requires.within (omega (arith, c.len-old.ensures.fits)) in
    record { within = omega (arith, h.size, c.requires.within) }

pub size_before-from-requires : goal.size_before-from-requires
size_before-from-requires g c =
    let t = g.T.Text.content c.args.old.now.text.now in
    let ins = c.args.change.ins.now in
    let list = c.args.old.now.list.now in
    let h = fits t ins list c.args.change.at c.args.change.del c.requires.sections_of_text c.requires.within (omega (arith, c.len-old.ensures.fits)) in
    let first = c.first_touched-first.ensures.value ∙ (ap (λ xs. first_touched_by (map section_len list) xs c.args.change.at) c.requires.changed ∙ h.first) in
    omega (arith, first, h.first_within)

pub size_before-stop-requires : goal.size_before-stop-requires
size_before-stop-requires g c =
    let t = g.T.Text.content c.args.old.now.text.now in
    let ins = c.args.change.ins.now in
    let list = c.args.old.now.list.now in
    let h = fits t ins list c.args.change.at c.args.change.del c.requires.sections_of_text c.requires.within (omega (arith, c.len-old.ensures.fits)) in
    let end = c.begun_by-end.ensures.value ∙ h.end in
    omega (arith, end, h.end_within)

pub overflow_sub-to : goal.overflow_sub-to
overflow_sub-to g c =
    let t = g.T.Text.content c.args.old.now.text.now in
    let ins = c.args.change.ins.now in
    let list = c.args.old.now.list.now in
    let h = fits t ins list c.args.change.at c.args.change.del c.requires.sections_of_text c.requires.within (omega (arith, c.len-old.ensures.fits)) in
    let end = c.begun_by-end.ensures.value ∙ h.end in
    let to = c.size_before-stop.ensures.value ∙ (ap (λ n. sum_by section_len (take n list)) end ∙ h.to) in
    omega (arith, to, h.behind)

pub overflow_add-to : goal.overflow_add-to
overflow_add-to g c =
    let t = g.T.Text.content c.args.old.now.text.now in
    let ins = c.args.change.ins.now in
    let list = c.args.old.now.list.now in
    let h = fits t ins list c.args.change.at c.args.change.del c.requires.sections_of_text c.requires.within (omega (arith, c.len-old.ensures.fits)) in
    let end = c.begun_by-end.ensures.value ∙ h.end in
    let to = c.size_before-stop.ensures.value ∙ (ap (λ n. sum_by section_len (take n list)) end ∙ h.to) in
    let room = ap length c.requires.changed in
    omega (arith, to, h.behind, h.within, room, c.len-new.ensures.fits)

pub overflow_sub-result : goal.overflow_sub-result
overflow_sub-result g c =
    let t = g.T.Text.content c.args.old.now.text.now in
    let ins = c.args.change.ins.now in
    let list = c.args.old.now.list.now in
    let h = fits t ins list c.args.change.at c.args.change.del c.requires.sections_of_text c.requires.within (omega (arith, c.len-old.ensures.fits)) in
    let first = c.first_touched-first.ensures.value ∙ (ap (λ xs. first_touched_by (map section_len list) xs c.args.change.at) c.requires.changed ∙ h.first) in
    let end = c.begun_by-end.ensures.value ∙ h.end in
    let from = c.size_before-from.ensures.value ∙ (ap (λ n. sum_by section_len (take n list)) first ∙ h.from) in
    let to = c.size_before-stop.ensures.value ∙ (ap (λ n. sum_by section_len (take n list)) end ∙ h.to) in
    omega (arith, from, to, h.before, h.behind)

pub returns-clause-first : goal.returns-clause-first
returns-clause-first g c =
    let t = g.T.Text.content c.args.old.now.text.now in
    let ins = c.args.change.ins.now in
    let list = c.args.old.now.list.now in
    let h = fits t ins list c.args.change.at c.args.change.del c.requires.sections_of_text c.requires.within (omega (arith, c.len-old.ensures.fits)) in
    let first = c.first_touched-first.ensures.value ∙ (ap (λ xs. first_touched_by (map section_len list) xs c.args.change.at) c.requires.changed ∙ h.first) in
    first

pub returns-clause-end : goal.returns-clause-end
returns-clause-end g c =
    let t = g.T.Text.content c.args.old.now.text.now in
    let ins = c.args.change.ins.now in
    let list = c.args.old.now.list.now in
    let h = fits t ins list c.args.change.at c.args.change.del c.requires.sections_of_text c.requires.within (omega (arith, c.len-old.ensures.fits)) in
    let end = c.begun_by-end.ensures.value ∙ h.end in
    end

pub returns-clause-order : goal.returns-clause-order
returns-clause-order g c =
    let t = g.T.Text.content c.args.old.now.text.now in
    let ins = c.args.change.ins.now in
    let list = c.args.old.now.list.now in
    let h = fits t ins list c.args.change.at c.args.change.del c.requires.sections_of_text c.requires.within (omega (arith, c.len-old.ensures.fits)) in
    let first = c.first_touched-first.ensures.value ∙ (ap (λ xs. first_touched_by (map section_len list) xs c.args.change.at) c.requires.changed ∙ h.first) in
    let end = c.begun_by-end.ensures.value ∙ h.end in
    omega (arith, first, end, h.order)

pub returns-clause-last : goal.returns-clause-last
returns-clause-last g c =
    let t = g.T.Text.content c.args.old.now.text.now in
    let ins = c.args.change.ins.now in
    let list = c.args.old.now.list.now in
    let h = fits t ins list c.args.change.at c.args.change.del c.requires.sections_of_text c.requires.within (omega (arith, c.len-old.ensures.fits)) in
    let end = c.begun_by-end.ensures.value ∙ h.end in
    omega (arith, end, h.end_within)

pub returns-clause-inside : goal.returns-clause-inside
returns-clause-inside g c =
    let t = g.T.Text.content c.args.old.now.text.now in
    let ins = c.args.change.ins.now in
    let list = c.args.old.now.list.now in
    let h = fits t ins list c.args.change.at c.args.change.del c.requires.sections_of_text c.requires.within (omega (arith, c.len-old.ensures.fits)) in
    let first = c.first_touched-first.ensures.value ∙ (ap (λ xs. first_touched_by (map section_len list) xs c.args.change.at) c.requires.changed ∙ h.first) in
    let end = c.begun_by-end.ensures.value ∙ h.end in
    let from = c.size_before-from.ensures.value ∙ (ap (λ n. sum_by section_len (take n list)) first ∙ h.from) in
    let to = c.size_before-stop.ensures.value ∙ (ap (λ n. sum_by section_len (take n list)) end ∙ h.to) in
    let room = ap length c.requires.changed in
    omega (arith, from, to, h.before, h.behind, h.within, room)

pub returns-clause-part : goal.returns-clause-part
returns-clause-part g c =
    let t = g.T.Text.content c.args.old.now.text.now in
    let ins = c.args.change.ins.now in
    let list = c.args.old.now.list.now in
    let h = fits t ins list c.args.change.at c.args.change.del c.requires.sections_of_text c.requires.within (omega (arith, c.len-old.ensures.fits)) in
    let first = c.first_touched-first.ensures.value ∙ (ap (λ xs. first_touched_by (map section_len list) xs c.args.change.at) c.requires.changed ∙ h.first) in
    let end = c.begun_by-end.ensures.value ∙ h.end in
    let from = c.size_before-from.ensures.value ∙ (ap (λ n. sum_by section_len (take n list)) first ∙ h.from) in
    let to = c.size_before-stop.ensures.value ∙ (ap (λ n. sum_by section_len (take n list)) end ∙ h.to) in
    let start : ℕ = c.size_before-from.result in
    let stop : ℕ = c.size_before-stop.result - c.args.change.del + length ins in
    part_is t ins list c.args.change.at c.args.change.del c.requires.sections_of_text c.requires.within (omega (arith, c.len-old.ensures.fits)) (g.T.Text.content c.args.new.now) start stop (stop - start) c.requires.changed from (omega (arith, to)) refl
