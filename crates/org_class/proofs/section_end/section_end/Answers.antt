-- A section ends at the first star at which a heading line begins.
use Rattle.std.proofs.Common.{◌≡◌, ◌∙◌, ◌+◌, ◌<◌, ℕ, false, refl, sym, arith, take, length-take}
use Rattle.org_class.specs.SectionEnds.{ends_before}
use Rattle.org_class.proofs.SectionEndLemmas.{ends_further, no_end_behind, run_ends_line, run_of, star_end, star_ends_no_line}
use Rattle.org_class.proofs.section_end.section_end.Goals as goal

pub returns-then-has_heading_in : goal.returns-then-has_heading_in
returns-then-has_heading_in g c =
    let t = g.T.Text.content c.args.text.now in
    let run = take c.min.result c.piece_at-piece.result.now in
    let len = length-take c.min.result c.piece_at-piece.result.now in
    let is = run_of t c.piece_at-piece.result.now c.loop-here.here c.min.result c.piece_at-piece.ensures.value in
    let before = c.loop-here.invariant in
    let star = c.in-Some.ensures.some in record {
      value = record {
        after = omega (arith, before.order);
        within = omega (arith, star.within, len);
        none = ends_further t run c.args.end c.args.at c.loop-here.here c.in-Some.star c.loop-here.at_front is before.order (omega (arith, len)) (omega (arith, star.within)) before.front star.none before.none;
        ends = λ _. star_end t run c.args.end c.loop-here.here c.in-Some.star c.loop-here.at_front is (omega (arith, before.order)) star.within before.front star.star ∙ sym c.has_heading_in.ensures.value ∙ c.if-has_heading_in.true;
      };
    }

pub loop-here-preserved-in-Some : goal.loop-here-preserved-in-Some
loop-here-preserved-in-Some g c =
    let t = g.T.Text.content c.args.text.now in
    let run = take c.min.result c.piece_at-piece.result.now in
    let len = length-take c.min.result c.piece_at-piece.result.now in
    let is = run_of t c.piece_at-piece.result.now c.loop-here.here c.min.result c.piece_at-piece.ensures.value in
    let before = c.loop-here.invariant in
    let star = c.in-Some.ensures.some in
    let none : (k : ℕ) → c.args.at < k → k < c.loop-here.here + c.in-Some.star → ends_before t c.args.end k ≡ false =
    ends_further t run c.args.end c.args.at c.loop-here.here c.in-Some.star c.loop-here.at_front is before.order (omega (arith, len)) (omega (arith, star.within)) before.front star.none before.none in
    let here = star_end t run c.args.end c.loop-here.here c.in-Some.star c.loop-here.at_front is (omega (arith, before.order)) star.within before.front star.star ∙ sym c.has_heading_in.ensures.value ∙ c.if-has_heading_in.false in record {
      order = omega (arith, before.order);
      within = omega (arith, star.within, len);
      none = no_end_behind (λ k. ends_before t c.args.end k ≡ false) c.args.at (c.loop-here.here + c.in-Some.star) here none;
      front = star_ends_no_line t run c.loop-here.here c.in-Some.star c.loop-here.at_front is star.within star.star;
    }

pub loop-here-preserved : goal.loop-here-preserved
loop-here-preserved g c =
    let t = g.T.Text.content c.args.text.now in
    let run = take c.min.result c.piece_at-piece.result.now in
    let len = length-take c.min.result c.piece_at-piece.result.now in
    let is = run_of t c.piece_at-piece.result.now c.loop-here.here c.min.result c.piece_at-piece.ensures.value in
    let before = c.loop-here.invariant in record {
      order = omega (arith, before.order);
      within = omega (arith, len);
      none = ends_further t run c.args.end c.args.at c.loop-here.here _ c.loop-here.at_front is before.order (omega (arith, len)) (omega arith) before.front (c.in-None.ensures.none refl) before.none;
      front = run_ends_line t run c.loop-here.here is (omega (arith, len));
    }
