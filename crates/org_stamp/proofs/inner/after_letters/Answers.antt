use Rattle.std.proofs.Common.{◌≡◌, ◌∙◌, sym, length, arith}
use Rattle.std.proofs.lemmas.Bool.Decides.{nat_tests}
use Rattle.org_stamp.proofs.ShortLemmas.{without_words}
use Rattle.org_stamp.proofs.inner.after_letters.Goals as goal

pub returns-then-is_empty : goal.returns-then-is_empty
returns-then-is_empty c =
    let none : length c.args.bytes.now ≡ 0 = grind (arith, nat_tests, c.is_empty.ensures, c.if-is_empty.true) in
    record { value = c.of_day.ensures.value ∙ sym (without_words c.args.active c.args.day c.args.bytes.now none) }
