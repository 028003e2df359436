use Rattle.std.proofs.Common.{ℕ, List, IsTrue, arith, sym, refl, ◌∙◌, ◌+◌, subst}
use Rattle.std.specs.Map.{lookup}
use Rattle.std.specs.Ordering.{nat_cmp}
use Rattle.std.specs.BTreeMap.{is_at}
use Rattle.org_index.specs.declared.reach.Reach.{Reach}
use Rattle.org_index.specs.Near.{is_candidate}
use Rattle.org_index.proofs.NearLemmas.{found_all, adds_kept, keeps_more}
use Rattle.org_index.proofs.index.gather_ids.Goals as goal

pub returns : goal.returns
returns c = record {
  all = λ id h.
      let x = c.index.inside in
      let i = c.index.invariant in
      let one = c.gather.new.found.items in
      let two = c.gather_if.new.found.items in
      let three = c.gather-2.new.found.items in
      let four = c.gather-3.new.found.items in
      let five = c.gather_if-2.new.found.items in
      let last = c.gather_ranges.new.found.items in
      let k5 = c.in_ok-gather_ranges.ensures.keeps in
      let k4 = keeps_more four five last c.in_ok-gather_if-2.ensures.keeps k5 in
      let k3 = keeps_more three four last c.in_ok-gather-3.ensures.keeps k4 in
      let k2 = keeps_more two three last c.in_ok-gather-2.ensures.keeps k3 in
      let k1 = keeps_more one two last c.in_ok-gather_if.ensures.keeps k2 in
      found_all x.reaches x.day_sets.days x.day_sets.repeating x.day_sets.delayed x.day_sets.warned x.day_sets.ranges last c.args.from c.args.to c.args.today id (lookup (is_at (nat_cmp id)) x.reaches.entries) (omega arith)
      i.days i.repeating i.delayed i.warned i.ranges
      (adds_kept x.day_sets.days c.args.from c.args.to one last c.in_ok-gather.ensures.adds k1)
      (λ asked. adds_kept x.day_sets.days 0 (c.args.today + 14) two last (c.in_ok-gather_if.ensures.adds (c.lies_in-asked.ensures.value ∙ asked)) k2)
      (adds_kept x.day_sets.repeating 0 c.args.to three last c.in_ok-gather-2.ensures.adds k3)
      (adds_kept x.day_sets.delayed c.args.from c.args.to four last c.in_ok-gather-3.ensures.adds k4)
      (λ asked. adds_kept x.day_sets.warned 0 c.args.today five last (c.in_ok-gather_if-2.ensures.adds (c.lies_in-asked.ensures.value ∙ asked)) k5)
      c.in_ok-gather_ranges.ensures.adds
      refl
      (subst (λ (es : List (ℕ × Reach)). IsTrue (is_candidate es c.args.from c.args.to c.args.today id)) (sym c.index.view_is) h);
}
