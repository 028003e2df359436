-- The stars end in a piece, or go on after it.
use Rattle.std.proofs.Common.{◌∙◌, ap, sym, arith, take, length-take}
use Rattle.org_class.specs.Heading.{begins_heading}
use Rattle.org_class.proofs.AtLemmas.{more_stars, stars_here, stars_past}
use Rattle.org_class.proofs.SectionEndLemmas.{no_stars, range_is_drop, run_before}
use Rattle.org_class.proofs.at.has_heading_in.Goals as goal

pub returns-then-place-stars : goal.returns-then-place-stars
returns-then-place-stars g c =
    let t = g.T.Text.content c.args.text.now in
    let run = take c.min.result c.piece_at-piece.result.now in
    let is = run_before t c.piece_at-piece.result.now c.args.end c.loop-place.place c.min.result c.piece_at-piece.ensures.value c.loop-place.invariant.within (omega (arith, length-take c.min.result c.piece_at-piece.result.now)) in record {
      value = stars_here (take c.args.end t) c.args.at c.loop-place.place run c.leading_stars-stars.result c.loop-place.invariant.stars is c.leading_stars-stars.ensures.value
          (omega (arith, c.if-stars-run.true)) (omega (arith, c.if-place-stars.true))
          ∙ ap begins_heading (sym (range_is_drop t c.args.end c.args.at c.requires.order));
    }

pub returns-else-place-stars : goal.returns-else-place-stars
returns-else-place-stars g c =
    let t = g.T.Text.content c.args.text.now in
    let run = take c.min.result c.piece_at-piece.result.now in
    let is = run_before t c.piece_at-piece.result.now c.args.end c.loop-place.place c.min.result c.piece_at-piece.ensures.value c.loop-place.invariant.within (omega (arith, length-take c.min.result c.piece_at-piece.result.now)) in record {
      value = no_stars (take c.args.end t) c.args.at c.loop-place.place run c.leading_stars-stars.result c.loop-place.invariant.stars is c.leading_stars-stars.ensures.value
          (omega (arith, c.if-stars-run.true)) (omega (arith, c.if-place-stars.false))
          ∙ ap begins_heading (sym (range_is_drop t c.args.end c.args.at c.requires.order));
    }

pub loop-place-preserved : goal.loop-place-preserved
loop-place-preserved g c =
    let t = g.T.Text.content c.args.text.now in
    let run = take c.min.result c.piece_at-piece.result.now in
    let len = length-take c.min.result c.piece_at-piece.result.now in
    let is = run_before t c.piece_at-piece.result.now c.args.end c.loop-place.place c.min.result c.piece_at-piece.ensures.value c.loop-place.invariant.within (omega (arith, len)) in record {
      within = omega (arith, len, c.leading_stars-stars.ensures.within);
      stars = more_stars (take c.args.end t) c.args.at c.loop-place.place run c.leading_stars-stars.result c.loop-place.invariant.stars is c.leading_stars-stars.ensures.value
          c.leading_stars-stars.ensures.within (omega (arith, c.if-stars-run.false));
    }

pub returns : goal.returns
returns g c =
    let t = g.T.Text.content c.args.text.now in
    let len = length-take c.args.end t in record {
      value = stars_past (take c.args.end t) c.args.at c.loop-place.place c.loop-place.invariant.stars (omega (arith, len)) (omega (arith, len, c.requires))
          ∙ ap begins_heading (sym (range_is_drop t c.args.end c.args.at c.requires.order));
    }
