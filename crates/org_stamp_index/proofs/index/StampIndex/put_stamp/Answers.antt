use Rattle.std.proofs.Common.{◌≡◌, ◌∙◌, ◌∷◌, ◌<◌, ◌^◌, [], length, sym, ap, refl, arith}
use Rattle.std.specs.BTreeMap.{is_at}
use Rattle.std.specs.Map.{lookup}
use Rattle.std.specs.Ordering.{nat_cmp}
use Rattle.org_index.specs.Reaches.{reach_of}
use Rattle.org_index.specs.Near.{with_reach}
use Rattle.org_stamp_index.specs.Index.{HasPut}
use Rattle.org_stamp_index.specs.declared.index.StampIndex.{StampIndex}
use Rattle.org_stamp_index.proofs.SumLemmas.{below_none}
use Rattle.org_stamp_index.proofs.PutLemmas.{on_ok, put_reminding, put_waiting}
use Rattle.org_stamp_index.proofs.index.StampIndex.put_stamp.Goals as goal

pub put-requires : goal.put-requires
put-requires c =
    let next : c.len-id.result ≡ length c.args.self.now.heading_of.items = search in
    record { new = ap (λ n. lookup (is_at (nat_cmp n)) c.args.self.now.reminding) next ∙ below_none (length c.args.self.now.heading_of.items) c.args.self.now.reminding c.requires.unused_ids.reminding }

pub put-requires-else-is_reminding : goal.put-requires-else-is_reminding
put-requires-else-is_reminding c =
    let next : c.len-id.result ≡ length c.args.self.now.heading_of.items = search in
    record { new = ap (λ n. lookup (is_at (nat_cmp n)) c.args.self.now.plain) next ∙ below_none (length c.args.self.now.heading_of.items) c.args.self.now.plain c.requires.unused_ids.plain }

pub returns-then-is_reminding-clause-ok : goal.returns-then-is_reminding-clause-ok
returns-then-is_reminding-clause-ok c =
    let next : c.len-id.result ≡ length c.args.self.now.heading_of.items = search in
    let few : length c.args.self.now.heading_of.items < 2 ^ 32 = omega (arith, next, c.if-id-ge-MOST_IDS.false) in
    let x = c.args.self.now in
    let y : StampIndex = record { settings = x.settings; profile = x.profile; reminding = c.put.new.self; plain = x.plain; heading_of = c.push.new.self; first_id_of = x.first_id_of; retired = x.retired } in
    on_ok c.put.result _ (HasPut c.args.place (c.args.stamp.now ∷ []) x y)
    (λ new. put_reminding c.args.place c.args.stamp.now x y c.requires.unused_ids c.in_ok-push.ensures.items refl refl refl few (sym c.is_reminding.ensures ∙ c.if-is_reminding.true)
    (new ∙ ap (λ n. with_reach c.args.self.now.reminding n (reach_of c.args.self.now.profile c.args.stamp.now.stamp)) next) refl)
    c.put.ensures.ok

pub returns-else-is_reminding-clause-ok : goal.returns-else-is_reminding-clause-ok
returns-else-is_reminding-clause-ok c =
    let next : c.len-id.result ≡ length c.args.self.now.heading_of.items = search in
    let few : length c.args.self.now.heading_of.items < 2 ^ 32 = omega (arith, next, c.if-id-ge-MOST_IDS.false) in
    let x = c.args.self.now in
    let y : StampIndex = record { settings = x.settings; profile = x.profile; reminding = x.reminding; plain = c.put-else-is_reminding.new.self; heading_of = c.push.new.self; first_id_of = x.first_id_of; retired = x.retired } in
    on_ok c.put-else-is_reminding.result _ (HasPut c.args.place (c.args.stamp.now ∷ []) x y)
    (λ new. put_waiting c.args.place c.args.stamp.now x y c.requires.unused_ids c.in_ok-push.ensures.items refl refl refl few (sym c.is_reminding.ensures ∙ c.if-is_reminding.false)
    (new ∙ ap (λ n. with_reach c.args.self.now.plain n (reach_of c.args.self.now.profile c.args.stamp.now.stamp)) next) refl)
    c.put-else-is_reminding.ensures.ok
