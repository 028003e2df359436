use Rattle.std.proofs.Common.{◌≡◌, ◌∙◌, ◌++◌, ◌∷◌, ◌<◌, ◌≤◌, ◌+◌, [], length, sym, ap, subst, arith}
use Rattle.std.specs.List.{between}
use Rattle.org_settings.specs.Settings.{FileSettings}
use Rattle.org_entry.specs.Active.{active_stamps}
use Rattle.org_stamp_index.specs.Index.{ArePut, HasPut}
use Rattle.org_stamp_index.proofs.ReplaceLemmas.{between_long, between_more, between_none, put_entry, put_no_entries}
use Rattle.org_stamp_index.proofs.index.StampIndex.put_entries.Goals as goal

pub loop-place-init : goal.loop-place-init
loop-place-init c =
    let x = c.args.self.now in
    subst (λ es. ArePut x.settings.value c.args.range.now.start es c.in_ok-first_id_of.first_id_of.items x x) (sym (between_none c.args.outline.now c.args.range.now.start))
    (subst (λ fs. ArePut x.settings.value c.args.range.now.start [] fs x x) (sym c.in_ok-first_id_of.ensures.items) (put_no_entries x.settings.value c.args.range.now.start x c.requires.unused_ids))

pub put_stamps-requires : goal.put_stamps-requires
put_stamps-requires c = record { unused_ids = c.loop-place.invariant.fresh }

pub loop-place-preserved : goal.loop-place-preserved
loop-place-preserved c =
    let x = c.args.self.now in
    let by = x.settings.value in
    let es = c.args.outline.now in
    let s = c.args.range.now.start in
    let i = c.loop-place.place in
    let e = c.entry.result.now in
    let within : i < length es = omega (arith, c.loop-place-test.true, c.requires.within) in
    let ahead : s ≤ i = search in
    let long : i ≡ s + length (between s i es) = let l = between_long es s i ahead (omega (arith, within)) in omega (arith, l, ahead) in
    let stamps = c.as_slice.ensures.value ∙ c.in_ok-write_active.ensures.ok ∙ ap (λ (f : FileSettings). active_stamps f e) (c.as_ref.ensures ∙ c.in_ok-settings.ensures.cases) in
    let put : HasPut i (active_stamps by e) c.loop-place.self c.put_stamps.new.self = subst (λ ss. HasPut i ss c.loop-place.self c.put_stamps.new.self) stamps c.in_ok-first.ensures.ok in
    let first_id_of = c.in_ok-push.ensures.items ∙ ap (λ f. c.loop-place.first_id_of.items ++ f ∷ []) c.in_ok-first.ensures.first in
    subst (λ xs. ArePut by s xs c.push.new.self.items x c.put_stamps.new.self) (sym (between_more es s i e ahead within c.entry.ensures.value))
    (subst (λ fs. ArePut by s (between s i es ++ e ∷ []) fs x c.put_stamps.new.self) (sym first_id_of)
    (put_entry by s i (between s i es) c.loop-place.first_id_of.items e x c.loop-place.self c.put_stamps.new.self long c.loop-place.invariant put))
