use Rattle.std.proofs.Common.{◌≡◌, ◌∙◌, List, ℕ, length, take, sym, ap}
use Rattle.std.specs.Prelude.{bytes_eq}
use Rattle.org_history.specs.Changes.{kept}
use Rattle.org_history.proofs.BeforeLemmas.{absent, short, there}
use Rattle.org_history.proofs.change.text_before.Goals as goal

pub returns-then-left-at : goal.returns-then-left-at
returns-then-left-at c = record { value = sym (short c.args.left.now (kept c.args.change.now) c.if-left-at.true) }

pub returns-in_default : goal.returns-in_default
returns-in_default c =
    let k = kept c.args.change.now in
    let apart = ap (λ (x : List ℕ). bytes_eq (take (length k.inserted) x) k.inserted) (sym c.split_at.ensures.back) ∙ c.in_default.ensures.cases in
    record { value = sym (absent c.args.left.now k c.if-left-at.false apart) }

pub returns : goal.returns
returns c =
    let k = kept c.args.change.now in
    let found = c.in-Some.ensures.cases in
    let same = ap (λ (x : List ℕ). bytes_eq (take (length k.inserted) x) k.inserted) (sym c.split_at.ensures.back) ∙ found.0 in
    record { value = rw (c.in_ok-extend_from_slice-2.ensures.items, c.in_ok-extend_from_slice.ensures.items, c.in_ok-text.ensures.items, found.1, c.split_at.ensures.front, c.split_at.ensures.back) (sym (there c.args.left.now k c.if-left-at.false same)) }
