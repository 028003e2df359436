-- Without a closing bracket there is no stamp.
use Rattle.std.proofs.Common.{◌≡◌, ◌∙◌, length, drop, sym, ap, arith}
use Rattle.std.specs.List.{position_or_len}
use Rattle.std.proofs.lemmas.List.{drop_all}
use Rattle.org_stamp.specs.Stamp.{is_close}
use Rattle.org_stamp.proofs.LineLemmas.{none_left, none_unclosed, close_within}
use Rattle.org_stamp.proofs.line.first_place.Goals as goal

pub returns-else-close-line-clause-close : goal.returns-else-close-line-clause-close
returns-else-close-line-clause-close c = λ le.
    let line = c.args.line.now in
    let none : position_or_len is_close (drop (length line) line) ≡ 0 = ap (position_or_len is_close) (drop_all (length line) line (omega arith)) in
    let most = close_within line in
    omega (arith, none, most, c.requires.close, le)

pub returns-else-close-line-clause-left : goal.returns-else-close-line-clause-left
returns-else-close-line-clause-left c =
    let line = c.args.line.now in
    let most = close_within line in
    none_left line (length line) (omega arith) ∙ sym (none_unclosed line 0 (omega (arith, most, c.requires.close, c.if-close-line.false)))
