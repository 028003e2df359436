-- The stars of a run in their order.
use Rattle.std.proofs.Common.{sym, ap, ◌∙◌, ◌≡◌, ◌+◌, ◌&&◌, false, arith, length, length-drop, slice_index}
use Rattle.org_class.proofs.HeadingWords.{is_star}
use Rattle.org_class.specs.SectionEnds.{has_line_star}
use Rattle.org_class.proofs.SectionEndLemmas.{and_true, no_star_further, one_further, star_byte, whole_range}
use Rattle.org_class.proofs.section_end.line_star.Goals as goal

pub returns-in-None-clause-none : goal.returns-in-None-clause-none
returns-in-None-clause-none c _ k hi =
    let run = c.args.run.now in
    let rest = whole_range run c.loop-from.from c.loop-from.invariant.within in
    no_star_further c.args.at_front run _ c.loop-from.from _ rest c.loop-from.invariant.none c.in-None.ensures k (omega (arith, hi, ap length rest, length-drop c.loop-from.from run))

pub returns-then-begins_line-clause-some : goal.returns-then-begins_line-clause-some
returns-then-begins_line-clause-some c =
    let run = c.args.run.now in
    let rest = whole_range run c.loop-from.from c.loop-from.invariant.within in
    let first = c.in-Some.ensures in record {
      within = omega (arith, first.0.high, ap length rest, length-drop c.loop-from.from run);
      star = and_true _ _ (sym c.begins_line.ensures.value ∙ c.if-begins_line.true) (star_byte run _ c.loop-from.from c.in-Some.more rest first.1);
      none = no_star_further c.args.at_front run _ c.loop-from.from c.in-Some.more rest c.loop-from.invariant.none first.0.before;
    }

pub loop-from-preserved : goal.loop-from-preserved
loop-from-preserved c =
    let run = c.args.run.now in
    let rest = whole_range run c.loop-from.from c.loop-from.invariant.within in
    let first = c.in-Some.ensures in
    let star = c.loop-from.from + c.in-Some.more in record {
      within = omega (arith, first.0.high, ap length rest, length-drop c.loop-from.from run);
      none = one_further (λ k. has_line_star c.args.at_front run k ≡ false) star
          (ap (λ v. v && is_star (slice_index run star)) (sym c.begins_line.ensures.value ∙ c.if-begins_line.false))
          (no_star_further c.args.at_front run _ c.loop-from.from c.in-Some.more rest c.loop-from.invariant.none first.0.before);
    }
