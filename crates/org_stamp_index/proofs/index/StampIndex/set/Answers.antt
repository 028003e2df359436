use Rattle.std.proofs.Common.{◌≡◌, ◌∙◌, length, get_or, ap, refl, subst, arith}
use Rattle.std.specs.Prelude.{slice_set}
use Rattle.std.specs.Vec.{with_item}
use Rattle.std.proofs.lemmas.Option.{slice_get_read}
use Rattle.org_settings.specs.Settings.{FileSettings}
use Rattle.org_entry.specs.Active.{active_stamps}
use Rattle.org_stamp_index.specs.Index.{HasPut, HasTaken}
use Rattle.org_stamp_index.specs.declared.index.StampIndex.{StampIndex}
use Rattle.org_stamp_index.proofs.IndexLemmas.{first_within, fresh_taken, ids_fit, set_there}
use Rattle.org_stamp_index.proofs.index.StampIndex.set.Goals as goal

pub first_id-first-requires : goal.first_id-first-requires
first_id-first-requires c = first_within c.args.self.now.settings.value c.args.outline.now c.args.self.now c.args.place c.requires.is c.requires.within

pub take_stamps-requires : goal.take_stamps-requires
take_stamps-requires c =
    let there = slice_get_read c.args.outline.now (length c.args.outline.now) c.args.place c.entry.result.now refl c.requires.within c.entry.ensures.value in
    let fits = ids_fit c.args.self.now.settings.value c.args.outline.now c.args.self.now c.args.place c.entry.result.now c.requires.is there in
    record { at_most = omega (arith, fits, c.first_id-first.ensures.value, ap length (c.as_slice.ensures.value ∙ c.in_ok-write_active.ensures.ok ∙ ap (λ (s : FileSettings). active_stamps s c.entry.result.now) (c.as_ref.ensures ∙ c.in_ok-settings.ensures.cases))) }

pub put_stamps-requires : goal.put_stamps-requires
put_stamps-requires c =
    let there = slice_get_read c.args.outline.now (length c.args.outline.now) c.args.place c.entry.result.now refl c.requires.within c.entry.ensures.value in
    let taken : HasTaken (get_or c.args.self.now.first_id_of.items c.args.place 0) (active_stamps c.args.self.now.settings.value c.entry.result.now) c.args.self.now c.take_stamps.new.self =
    subst (λ ss. HasTaken (get_or c.args.self.now.first_id_of.items c.args.place 0) ss c.args.self.now c.take_stamps.new.self) (c.as_slice.ensures.value ∙ c.in_ok-write_active.ensures.ok ∙ ap (λ (s : FileSettings). active_stamps s c.entry.result.now) (c.as_ref.ensures ∙ c.in_ok-settings.ensures.cases))
    (subst (λ n. HasTaken n c.as_slice.result.now c.args.self.now c.take_stamps.new.self) c.first_id-first.ensures.value c.take_stamps.ensures.value) in
    record { unused_ids = fresh_taken c.args.self.now.settings.value c.args.outline.now c.args.place c.entry.result.now c.args.self.now c.take_stamps.new.self c.requires.is there taken }

pub index_mut-requires : goal.index_mut-requires
index_mut-requires c =
    let within = first_within c.args.self.now.settings.value c.args.outline.now c.args.self.now c.args.place c.requires.is c.requires.within in
    let same = ap length (c.in_ok-first.ensures.ok.first_id_of ∙ c.take_stamps.ensures.value.first_id_of) in
    omega (arith, within, same)

pub returns-clause-ok : goal.returns-clause-ok
returns-clause-ok c =
    let there = slice_get_read c.args.outline.now (length c.args.outline.now) c.args.place c.entry.result.now refl c.requires.within c.entry.ensures.value in
    let taken : HasTaken (get_or c.args.self.now.first_id_of.items c.args.place 0) (active_stamps c.args.self.now.settings.value c.entry.result.now) c.args.self.now c.take_stamps.new.self =
    subst (λ ss. HasTaken (get_or c.args.self.now.first_id_of.items c.args.place 0) ss c.args.self.now c.take_stamps.new.self) (c.as_slice.ensures.value ∙ c.in_ok-write_active.ensures.ok ∙ ap (λ (s : FileSettings). active_stamps s c.entry.result.now) (c.as_ref.ensures ∙ c.in_ok-settings.ensures.cases))
    (subst (λ n. HasTaken n c.as_slice.result.now c.args.self.now c.take_stamps.new.self) c.first_id-first.ensures.value c.take_stamps.ensures.value) in
    let put : HasPut c.args.place (active_stamps c.args.self.now.settings.value c.args.entry.now) c.take_stamps.new.self c.put_stamps.new.self =
    subst (λ ss. HasPut c.args.place ss c.take_stamps.new.self c.put_stamps.new.self) (c.as_slice-2.ensures.value ∙ c.in_ok-write_active-2.ensures.ok ∙ ap (λ (s : FileSettings). active_stamps s c.args.entry.now) (c.as_ref-2.ensures ∙ c.in_ok-settings.ensures.cases)) c.in_ok-first.ensures.ok in
    let y = c.put_stamps.new.self in
    let z : StampIndex = record { settings = y.settings; profile = y.profile; reminding = y.reminding; plain = y.plain; heading_of = y.heading_of; first_id_of = with_item y.first_id_of c.args.place c.in_ok-first.first; retired = y.retired } in
    let first_id_of : z.first_id_of.items ≡ slice_set y.first_id_of.items c.args.place (length c.take_stamps.new.self.heading_of.items) = ap (slice_set y.first_id_of.items c.args.place) c.in_ok-first.ensures.first in
    set_there c.args.self.now.settings.value c.args.outline.now c.args.place c.entry.result.now c.args.entry.now c.args.self.now c.take_stamps.new.self y z c.requires.is there taken put refl first_id_of refl refl refl
