use Rattle.std.proofs.Common.{length, length-append, arith, ap}
use Rattle.std.proofs.lemmas.Bool.Decides.{nat_tests}
use Rattle.org_sequence.proofs.leaf.leaf_of.Goals as goal

pub leaf-requires-clause-some : goal.leaf-requires-clause-some
leaf-requires-clause-some g c =
    let empty = c.is_empty.ensures in
    grind (arith, nat_tests, empty, ap length c.in_ok-push_all.ensures, length-append c.in_ok-copy.copy.items c.args.items.now)
