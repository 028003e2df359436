use Rattle.std.proofs.Common.{◌≡◌, ◌+◌, ◌*◌, ℕ, ℤ, pos, sym, subst, to_z, w64, arith, ap, ◌∙◌, Some}
use Rattle.std.proofs.lemmas.Int.{ints}
use Rattle.std.proofs.lemmas.Option.{same_Some}
use Rattle.org_cal.specs.Added.{IsAdded}
use Rattle.org_repeat.specs.Steps.{moment_at}
use Rattle.org_repeat.specs.Shifted.{IsMoved, IsAtMinute, minutes_at}
use Rattle.org_repeat.proofs.MovedLemmas.{added_of, moved_of}
use Rattle.org_repeat.proofs.shifting.moment_after.Goals as goal

pub returns-in-Hour-clause-only : goal.returns-in-Hour-clause-only
returns-in-Hour-clause-only c = λ d t m.
    let at : IsAtMinute (minutes_at c.args.from.day c.args.from.minute + 60 * c.args.n) d t = subst (λ u. IsMoved c.args.from.day c.args.from.minute c.args.n u d t) c.in-Hour.is m in
    c.at_minute.ensures.only d t (at.0, at.1, omega (arith, at.2, c.minutes_at.ensures.value))

pub returns-in-Some : goal.returns-in-Some
returns-in-Some c =
    let n : to_z w64 c.args.n ≡ pos c.args.n = omega (arith, ints) in
    record {
      some = moved_of c.args.from.day c.args.from.minute c.args.n c.in-Some.day c.args.unit c.in_default.not-Hour (subst (λ (z : ℤ). IsAdded c.args.from.day z c.args.unit c.in-Some.day) n c.in-Some.ensures.some);
      only = λ d t m.
          let a = added_of c.args.from.day c.args.from.minute c.args.n d t c.args.unit c.in_default.not-Hour m in
          let same : c.in-Some.day ≡ d = same_Some c.in-Some.day d (c.in-Some.ensures.only d (subst (λ (z : ℤ). IsAdded c.args.from.day z c.args.unit d) (sym n) a.0)) in
          ap (λ (x : ℕ). Some (moment_at x c.args.from.minute)) same ∙ ap (λ (x : ℕ). Some (moment_at d x)) (sym a.1);
    }

pub returns-in-None : goal.returns-in-None
returns-in-None c =
    let n : to_z w64 c.args.n ≡ pos c.args.n = omega (arith, ints) in
    record {
      some = tt;
      only = λ d t m.
          let a = added_of c.args.from.day c.args.from.minute c.args.n d t c.args.unit c.in_default.not-Hour m in
          let no = c.in-None.ensures.only d (subst (λ (z : ℤ). IsAdded c.args.from.day z c.args.unit d) (sym n) a.0) in absurd (cc);
    }
