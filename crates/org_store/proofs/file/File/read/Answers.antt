-- What was read stays read.
use Rattle.std.proofs.Common.{◌≡◌, true, false, ap, get_or}
use Rattle.org_store.proofs.ReadLemmas.{marked_again}
use Rattle.org_store.proofs.file.File.read.Goals as goal

pub returns-then-is_some-clause-ok : goal.returns-then-is_some-clause-ok
returns-then-is_some-clause-ok g c =
    let now = c.args.self.now in
    let there : get_or now.marks c.args.place false ≡ true = cc (c.entry.ensures.mark, c.is_some.ensures, c.if-is_some.true) in
    ap (λ ms. record now { marks = ms }) (marked_again now.marks c.args.place c.requires.within there)
