use Rattle.std.proofs.Common.{◌-◌, length, Some, None, arith, ap, sym, ◌∙◌}
use Rattle.org_sequence.specs.Sums.{bears}
use Rattle.org_sequence.proofs.Splices.{fork_items}
use Rattle.org_sequence.proofs.Finds.{first_none, first_left, first_beyond, first_after, first_is_none}
use Rattle.org_sequence.proofs.tree.Tree.+first_from.Goals as goal

pub returns-then-signs-eq0 : goal.returns-then-signs-eq0
returns-then-signs-eq0 g t c =
    first_none (bears g.T.Measured.pending g.T.Measured.flagged c.args.sign) c.args.self.now.0 c.args.at (sym c.signs.ensures.value ∙ c.if-signs-eq0.true)

pub returns-in-Some : goal.returns-in-Some
returns-in-Some g t c =
    let seen = fork_items _ _ _ _ _ _ c.self.view_is c.in-Fork.is in
    let count = c.count-count.ensures.value ∙ ap (λ d. length d.0) c.deref-in-Fork.ensures in
    first_beyond (bears g.T.Measured.pending g.T.Measured.flagged c.args.sign) c.args.self.now.0 c.in-Fork.left.value.0 c.in-Fork.right.value.0 c.deref-then-at-count.result.now.0 c.args.at (c.args.at - c.count-count.result) c.count-count.result (Some c.in-Some.i) seen (ap (λ d. d.0) c.deref-then-at-count.ensures) count (omega arith) c.in-Some.ensures

pub returns-in-None : goal.returns-in-None
returns-in-None g t c =
    let seen = fork_items _ _ _ _ _ _ c.self.view_is c.in-Fork.is in
    let count = c.count-count.ensures.value ∙ ap (λ d. length d.0) c.deref-in-Fork.ensures in
    first_beyond (bears g.T.Measured.pending g.T.Measured.flagged c.args.sign) c.args.self.now.0 c.in-Fork.left.value.0 c.in-Fork.right.value.0 c.deref-then-at-count.result.now.0 c.args.at (c.args.at - c.count-count.result) c.count-count.result None seen (ap (λ d. d.0) c.deref-then-at-count.ensures) count (omega arith) c.in-None.ensures

pub returns-in-Some-first_from : goal.returns-in-Some-first_from
returns-in-Some-first_from g t c =
    let seen = fork_items _ _ _ _ _ _ c.self.view_is c.in-Fork.is in
    let count = c.count-count.ensures.value ∙ ap (λ d. length d.0) c.deref-in-Fork.ensures in
    first_left (bears g.T.Measured.pending g.T.Measured.flagged c.args.sign) c.args.self.now.0 c.in-Fork.left.value.0 c.in-Fork.right.value.0 c.deref-in-Fork-2.result.now.0 c.args.at c.in-Some-first_from.i seen (ap (λ d. d.0) c.deref-in-Fork-2.ensures) (omega (arith, count)) c.in-Some-first_from.ensures

pub returns-in-Some-first_from-2 : goal.returns-in-Some-first_from-2
returns-in-Some-first_from-2 g t c =
    let seen = fork_items _ _ _ _ _ _ c.self.view_is c.in-Fork.is in
    let count = c.count-count.ensures.value ∙ ap (λ d. length d.0) c.deref-in-Fork.ensures in
    let p = bears g.T.Measured.pending g.T.Measured.flagged c.args.sign in
    let none = first_is_none p c.deref-in-Fork-2.result.now.0 c.args.at c.first_from-in-Fork.result c.first_from-in-Fork.ensures (λ i e. c.in_default.not-Some i e) in
    first_after p c.args.self.now.0 c.in-Fork.left.value.0 c.in-Fork.right.value.0 c.deref-in-Fork-2.result.now.0 c.deref-in-Fork-3.result.now.0 c.args.at c.count-count.result (Some c.in-Some-first_from-2.i) seen (ap (λ d. d.0) c.deref-in-Fork-2.ensures) (ap (λ d. d.0) c.deref-in-Fork-3.ensures) count (omega arith) none c.in-Some-first_from-2.ensures
