use Rattle.std.proofs.Common.{◌≡◌, ◌+◌, ◌-◌, ◌++◌, ◌∙◌, ap, arith, drop, length, length-take, sym, take}
use Rattle.org_check.proofs.PrintedLemmas.{part_end, part_more}
use Rattle.org_check.proofs.show.part_of.Goals as goal

pub loop-here-preserved : goal.loop-here-preserved
loop-here-preserved g c =
    let content = g.T.Text.content c.args.text.now in
    let piece = c.piece_at-piece.result.now in
    let here = c.loop-here.here in
    let more = c.min.result in
    let size = length-take more piece in
    let same : length (take more piece) ≡ more = omega (arith, size) in
    record {
      from = omega arith;
      within = omega (arith, size);
      copied =
          c.in_ok-push.ensures.ok
          ∙ (ap (λ o. o ++ take more piece) c.loop-here.invariant.copied
          ∙ (part_more content piece c.args.at here more c.loop-here.invariant.from c.piece_at-piece.ensures.value (omega arith)
          ∙ ap (λ n. take (here + n - c.args.at) (drop c.args.at content)) (sym same)));
    }

pub returns : goal.returns
returns g c =
    let content = g.T.Text.content c.args.text.now in
    record { value = c.loop-here.invariant.copied ∙ part_end content c.args.at c.args.len c.loop-here.here (omega arith) }
