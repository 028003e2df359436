use Rattle.std.proofs.Common.{map, length, ap, ◌∙◌, arith}
use Rattle.org_outline.specs.Parents.{up_to_parent}
use Rattle.org_outline.specs.Tree.{parent}
use Rattle.org_outline.specs.Levels.{levels}
use Rattle.org_outline.proofs.ByPlace.{counted_parent, table_length, table_at, levels_length}
use Rattle.org_outline.proofs.body.Body.parent.Goals as goal

pub index-requires : goal.index-requires
index-requires c =
    let n = ap length c.self.view_is in
    let t = c.self.invariant in
    let l = table_length _ _ _ t in
    omega (arith, n, l, levels_length (map (λ e. e.value) c.self.inside.list.items), c.requires)

pub returns : goal.returns
returns c =
    let n = ap length c.self.view_is in
    let h = c.requires in
    let es = c.args.self.now in
    record {
      value = counted_parent c.checked_sub.result c.index.result.now (parent (levels es) c.args.place) c.checked_sub.ensures
          (c.index.ensures
          ∙ table_at _ _ _ c.args.place c.index.result.now c.self.invariant (omega (arith, n, h, levels_length (map (λ e. e.value) c.self.inside.list.items)))
          ∙ ap (λ v. up_to_parent (levels v) c.args.place) c.self.view_is);
    }
