-- The way that is left, its ends and its name.
use Rattle.std.proofs.Common.{◌≡◌, ◌∙◌, ℕ, List, [], length, take, sym, ap, append-nil}
use Rattle.org_ids.specs.Names.{NamesView, bounded, ends_from, left_end, lower, lower_count, one_line}
use Rattle.org_ids.proofs.WayLemmas.{left_bytes, left_length, lower_ends, lower_length, way_bytes}
use Rattle.org_ids.proofs.names.Names.leave.Goals as goal

pub returns : goal.returns
returns c = record {
  value = λ file way names e.
      let level = c.args.level in
      let seen : c.self.inside.above.items ≡ ends_from file [] way = ap (λ (v : NamesView). v.above) (c.self.view_is ∙ e) in
      let bytes : c.self.inside.way.items ≡ bounded (way_bytes file way) = ap (λ (v : NamesView). v.way) (c.self.view_is ∙ e) in
      let base : c.self.inside.base ≡ length (bounded (one_line file)) = ap (λ (v : NamesView). v.base) (c.self.view_is ∙ e) in
      let put : c.self.inside.names ≡ names = ap (λ (v : NamesView). v.names) (c.self.view_is ∙ e) in
      let lent : c.as_slice.result.now ≡ ends_from file [] way = c.as_slice.ensures.value ∙ seen in
      let count : c.left_on-left.result.count ≡ length (lower level way) = c.left_on-left.ensures.count ∙ ap (lower_count level) lent ∙ lower_length file [] way level in
      let plain : bounded (way_bytes file []) ≡ bounded (one_line file) = ap bounded (append-nil (one_line file)) in
      let end : c.left_on-left.result.end ≡ length (bounded (way_bytes file (lower level way))) =
      c.left_on-left.ensures.end ∙ (λ i. left_end level (base i) (lent i)) ∙ ap (λ (x : List ℕ). left_end level (length x) (ends_from file [] way)) (sym plain) ∙ left_length file [] way level in
      let above : c.truncate.new.self.items ≡ ends_from file [] (lower level way) =
      c.truncate.ensures.items ∙ (λ i. take (count i) (seen i)) ∙ lower_ends file [] way level in
      let left : c.truncate-2.new.self.items ≡ bounded (way_bytes file (lower level way)) =
      c.truncate-2.ensures.items ∙ (λ i. take (end i) (bytes i)) ∙ left_bytes file way level in
      λ i. record { base = base i; way = left i; above = above i; names = put i };
}
