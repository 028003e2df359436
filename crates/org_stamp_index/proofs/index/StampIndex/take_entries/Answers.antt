use Rattle.std.proofs.Common.{◌≡◌, ◌∙◌, ◌++◌, ◌∷◌, ◌<◌, ◌≤◌, ◌+◌, [], length, get_or, sym, ap, refl, subst, arith}
use Rattle.std.specs.List.{between}
use Rattle.std.proofs.lemmas.Option.{slice_get_read}
use Rattle.org_settings.specs.Settings.{FileSettings}
use Rattle.org_entry.specs.Active.{active_stamps}
use Rattle.org_stamp_index.specs.Index.{AreTaken, HasTaken}
use Rattle.org_stamp_index.proofs.IndexLemmas.{first_within, ids_fit}
use Rattle.org_stamp_index.proofs.ReplaceLemmas.{between_long, between_more, between_none, get_same, taken_entry, taken_none}
use Rattle.org_stamp_index.proofs.index.StampIndex.take_entries.Goals as goal

pub loop-place-init : goal.loop-place-init
loop-place-init c =
    let x = c.args.self.now in
    let s = c.args.range.now.start in
    subst (λ es. AreTaken x.settings.value es (between s s x.first_id_of.items) x x) (sym (between_none c.args.outline.now s))
    (subst (λ fs. AreTaken x.settings.value [] fs x x) (sym (between_none x.first_id_of.items s)) (taken_none x.settings.value x))

pub first_id-first-requires : goal.first_id-first-requires
first_id-first-requires c =
    let x = c.args.self.now in
    let within = first_within x.settings.value c.args.outline.now x c.loop-place.place c.requires.is (omega (arith, c.loop-place-test.true, c.requires.within)) in
    omega (arith, within, ap length c.loop-place.invariant.first_id_of)

pub take_stamps-requires : goal.take_stamps-requires
take_stamps-requires c =
    let x = c.args.self.now in
    let es = c.args.outline.now in
    let i = c.loop-place.place in
    let there = slice_get_read es (length es) i c.entry.result.now refl (omega (arith, c.loop-place-test.true, c.requires.within)) c.entry.ensures.value in
    let fits = ids_fit x.settings.value es x i c.entry.result.now c.requires.is there in
    let first = c.first_id-first.ensures.value ∙ ap (λ fs. get_or fs i 0) c.loop-place.invariant.first_id_of in
    record { at_most = omega (arith, fits, first, ap length (c.as_slice.ensures.value ∙ c.in_ok-write_active.ensures.ok ∙ ap (λ (s : FileSettings). active_stamps s c.entry.result.now) (c.as_ref.ensures ∙ c.in_ok-settings.ensures.cases))) }

pub loop-place-preserved : goal.loop-place-preserved
loop-place-preserved c =
    let x = c.args.self.now in
    let by = x.settings.value in
    let es = c.args.outline.now in
    let fs = x.first_id_of.items in
    let s = c.args.range.now.start in
    let i = c.loop-place.place in
    let e = c.entry.result.now in
    let f = get_or fs i 0 in
    let within : i < length es = omega (arith, c.loop-place-test.true, c.requires.within) in
    let within' : i < length fs = first_within by es x i c.requires.is within in
    let ahead : s ≤ i = search in
    let long : length (between s i fs) ≡ length (between s i es) = between_long fs s i ahead (omega (arith, within')) ∙ sym (between_long es s i ahead (omega (arith, within))) in
    let stamps = c.as_slice.ensures.value ∙ c.in_ok-write_active.ensures.ok ∙ ap (λ (g : FileSettings). active_stamps g e) (c.as_ref.ensures ∙ c.in_ok-settings.ensures.cases) in
    let first = c.first_id-first.ensures.value ∙ ap (λ gs. get_or gs i 0) c.loop-place.invariant.first_id_of in
    let taken : HasTaken f (active_stamps by e) c.loop-place.self c.take_stamps.new.self =
    subst (λ ss. HasTaken f ss c.loop-place.self c.take_stamps.new.self) stamps (subst (λ n. HasTaken n c.as_slice.result.now c.loop-place.self c.take_stamps.new.self) first c.take_stamps.ensures.value) in
    subst (λ xs. AreTaken by xs (between s (i + 1) fs) x c.take_stamps.new.self) (sym (between_more es s i e ahead within c.entry.ensures.value))
    (subst (λ gs. AreTaken by (between s i es ++ e ∷ []) gs x c.take_stamps.new.self) (sym (between_more fs s i f ahead within' (get_same fs i within')))
    (taken_entry by (between s i es) (between s i fs) e f x c.loop-place.self c.take_stamps.new.self long c.loop-place.invariant taken))
