use Rattle.std.proofs.Common.{◌≡◌, ◌+◌, ◌++◌, length, take, drop, arith, ap, sym, ◌∙◌, length-take, vec_len}
use Rattle.std.specs.List.{slice_range}
use Rattle.org_lines.proofs.LineLemmas.{range_more}
use Rattle.org_lines.proofs.lines.bytes_at.Goals as goal

pub loop-out-preserved : goal.loop-out-preserved
loop-out-preserved g c =
    let text = g.T.Text.content c.args.text.now in
    let piece = c.piece_at-piece-in-loop-out.result.now in
    let more = c.min-more.result in
    let part = length-take more piece in
    let after = c.in_ok-extend_from_slice.ensures.len in
    let len : vec_len c.extend_from_slice.new.self ≡ vec_len c.loop-out.out + more = omega arith in
    let at_is : c.args.at + c.len-in-loop-out.result ≡ c.args.at + vec_len c.loop-out.out = omega arith in
    record {
      within = omega arith;
      copied = c.in_ok-extend_from_slice.ensures.items ∙ (ap (λ xs. xs ++ take more piece) c.loop-out.invariant.copied ∙ (range_more text piece c.args.at (vec_len c.loop-out.out) more (c.piece_at-piece-in-loop-out.ensures.value ∙ ap (λ i. take (length piece) (drop i text)) at_is) (omega arith) ∙ ap (λ n. slice_range text c.args.at (c.args.at + n)) (sym len)));
    }
