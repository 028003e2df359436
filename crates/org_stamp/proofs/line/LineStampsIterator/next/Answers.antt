use Rattle.std.proofs.Common.{◌∙◌, length, sym, ap, arith, rules}
use Rattle.org_stamp.proofs.LineLemmas.{close_later, no_digit_follows, some_here, none_here, none_left}
use Rattle.org_stamp.proofs.line.LineStampsIterator.next.Goals as goal

pub invariant_of-self-in-Some : goal.invariant_of-self-in-Some
invariant_of-self-in-Some c = (
  omega (arith, c.in-Some.ensures.within),
  λ le. close_later c.loop-self.self-inside.line.now c.loop-self.self-inside.at c.in-Some.len c.next_close-self-inside.result c.next_close-self-inside.ensures.value le,
)

steps : goal.returns-in-Some-clause-steps
steps c =
    sym c.self.view_is
    ∙ (sym c.loop-self.invariant.left
    ∙ some_here c.loop-self.self-inside.line.now c.loop-self.self-inside.at c.in-Some.stamp c.in-Some.len (omega arith) (sym c.in-Some.ensures.value))

pub returns-in-Some-clause-steps : goal.returns-in-Some-clause-steps
returns-in-Some-clause-steps c = steps c

pub returns-in-Some-clause-goes : goal.returns-in-Some-clause-goes
returns-in-Some-clause-goes c =
    let e = ap length (steps c) in
    record { on = λ finite. (search rules, search rules, omega (arith, e)); keeps = search rules; rests = λ finite. search rules }

pub loop-self-preserved-then-not-digit_follows : goal.loop-self-preserved-then-not-digit_follows
loop-self-preserved-then-not-digit_follows c =
    let none = no_digit_follows c.loop-self.self-inside.line.now c.loop-self.self-inside.at (sym c.digit_follows.ensures.value ∙ c.if-not-digit_follows.true) in
    record {
      same_line = c.loop-self.invariant.same_line;
      in_line = omega arith;
      close_is = λ le. close_later c.loop-self.self-inside.line.now c.loop-self.self-inside.at 1 c.loop-self.self-inside.close (c.loop-self.invariant.close_is (omega (arith, le))) le;
      left = sym (none_here c.loop-self.self-inside.line.now c.loop-self.self-inside.at (omega arith) none) ∙ c.loop-self.invariant.left;
    }

pub loop-self-preserved : goal.loop-self-preserved
loop-self-preserved c = record {
  same_line = c.loop-self.invariant.same_line;
  in_line = omega arith;
  close_is = λ le. close_later c.loop-self.self-inside.line.now c.loop-self.self-inside.at 1 c.next_close-self-inside.result c.next_close-self-inside.ensures.value le;
  left = sym (none_here c.loop-self.self-inside.line.now c.loop-self.self-inside.at (omega arith) (sym c.in-None.ensures.value)) ∙ c.loop-self.invariant.left;
}

pub returns-clause-steps : goal.returns-clause-steps
returns-clause-steps c =
    let none = none_left c.loop-self.self-inside.line.now c.loop-self.self-inside.at (omega arith) in
    (sym c.self.view_is ∙ (sym c.loop-self.invariant.left ∙ none), none)
