use Rattle.std.proofs.Common.{◌≡◌, ◌∙◌, ◌≤◌, ◌+◌, ◌-◌, ◌^◌, List, length, map, sym, ap, refl, subst, arith}
use Rattle.std.specs.List.{between, splice}
use Rattle.std.specs.Vec.{with_items}
use Rattle.std.proofs.lemmas.List.{length-map}
use Rattle.org_entry.specs.declared.entry.Entry.{Entry}
use Rattle.org_settings.specs.Settings.{FileSettings}
use Rattle.org_stamp_index.specs.Index.{ArePut, IsIndexOf, behind_in, moved}
use Rattle.org_stamp_index.specs.declared.index.StampIndex.{StampIndex}
use Rattle.org_stamp_index.proofs.HeadingIdLemmas.{housed_long}
use Rattle.org_stamp_index.proofs.ReplaceLemmas.{fresh_left, replaced_is, rewritten, spliced_long}
use Rattle.org_stamp_index.proofs.index.StampIndex.replace.Goals as goal

pub put_entries-requires-clause-unused_ids : goal.put_entries-requires-clause-unused_ids
put_entries-requires-clause-unused_ids c =
    let x = c.args.self.now in
    let a = c.take_entries.new.self in
    let b : StampIndex = record { settings = a.settings; profile = a.profile; reminding = a.reminding; plain = a.plain; heading_of = with_items a.heading_of c.renumber_headings.new.heading_of; first_id_of = a.first_id_of; retired = a.retired } in
    let many : length c.renumber_headings.new.heading_of ≡ length a.heading_of.items = ap length (c.renumber_headings.ensures.value) ∙ length-map c.deref_mut.result.now (moved c.args.range.now.end (c.count.result - (c.count-2.result - c.args.range.now.end))) ∙ ap length c.deref_mut.ensures.value in
    let count : length b.heading_of.items ≡ length a.heading_of.items = ap length (rewritten a.heading_of c.renumber_headings.new.heading_of many) ∙ many in
    fresh_left x.settings.value c.args.before.now c.args.range.now.start c.args.range.now.end x a b c.requires.order c.requires.within c.requires.is c.in_ok-take_entries.ensures.ok count refl refl

pub splice_ids-requires-clause-within : goal.splice_ids-requires-clause-within
splice_ids-requires-clause-within c =
    let x = c.args.self.now in
    let long = housed_long x.settings.value x.heading_of.items 0 x.first_id_of.items c.args.before.now c.requires.is.housed in
    let same = ap length (c.as_slice.ensures.value ∙ c.in_ok-first_id_of.ensures.ok.first_id_of ∙ c.in_ok-take_entries.ensures.ok.first_id_of) in
    omega (arith, long, same, c.requires.within)

pub returns-clause-ok : goal.returns-clause-ok
returns-clause-ok c =
    let x = c.args.self.now in
    let a = c.take_entries.new.self in
    let b : StampIndex = record { settings = a.settings; profile = a.profile; reminding = a.reminding; plain = a.plain; heading_of = with_items a.heading_of c.renumber_headings.new.heading_of; first_id_of = a.first_id_of; retired = a.retired } in
    let y = c.put_entries.new.self in
    let z : StampIndex = record { settings = y.settings; profile = y.profile; reminding = y.reminding; plain = y.plain; heading_of = y.heading_of; first_id_of = c.in_ok-self.field-0; retired = y.retired } in
    let es = c.args.before.now in
    let after = c.args.after.now in
    let s = c.args.range.now.start in
    let e = c.args.range.now.end in
    let ds : List Entry = between s (behind_in es e after) after in
    let taken = c.in_ok-take_entries.ensures.ok in
    let long : length after ≡ s + length ds + (length es - e) = ap length c.requires.change ∙ spliced_long es s e ds c.requires.order c.requires.within in
    let found : c.count.result - (c.count-2.result - e) ≡ behind_in es e after = λ k. c.count.ensures.value k - (c.count-2.ensures.value k - e) in
    let behind : behind_in es e after ≡ s + length ds = omega (arith, long, c.requires.within) in
    let moved_are : c.renumber_headings.new.heading_of ≡ map (moved e (s + length ds)) a.heading_of.items = c.renumber_headings.ensures.value ∙ (λ k. map (moved e ((found ∙ behind) k)) (c.deref_mut.ensures.value k)) in
    let many : length c.renumber_headings.new.heading_of ≡ length a.heading_of.items = ap length moved_are ∙ length-map a.heading_of.items (moved e (s + length ds)) in
    let heading_of : b.heading_of.items ≡ map (moved e (s + length ds)) a.heading_of.items = rewritten a.heading_of c.renumber_headings.new.heading_of many ∙ moved_are in
    let small : s + length ds + (length es - e) ≤ 2 ^ 64 - 1 = omega (arith, long, c.count.ensures.value, c.count.type_inv) in
    let put : ArePut x.settings.value s ds c.in_ok-first_id_of.first_id_of.items b y =
    subst (λ (by : FileSettings). ArePut by s ds c.in_ok-first_id_of.first_id_of.items b y) taken.settings
    (subst (λ n. ArePut a.settings.value s (between s n after) c.in_ok-first_id_of.first_id_of.items b y) found c.in_ok-first_id_of.ensures.ok) in
    let first_id_of : z.first_id_of.items ≡ splice y.first_id_of.items s e c.in_ok-first_id_of.first_id_of.items = c.in_ok-self.ensures.value ∙ (λ k. splice (c.as_slice.ensures.value k) s e (c.as_slice-2.ensures.value k)) in
    subst (λ xs. IsIndexOf x.settings.value xs z) (sym c.requires.change)
    (replaced_is x.settings.value es s e ds c.in_ok-first_id_of.first_id_of.items x a b y z c.requires.order c.requires.within small c.requires.is taken heading_of refl refl refl refl put refl first_id_of refl refl refl)
