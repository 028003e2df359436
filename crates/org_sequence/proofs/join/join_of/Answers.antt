use Rattle.org_sequence.proofs.join.join_of.Goals as goal

pub returns-in_ok-tree-in-Some-Some : goal.returns-in_ok-tree-in-Some-Some
returns-in_ok-tree-in-Some-Some g c = rw (c.in-Some-Some.is-0, c.in-Some-Some.is-1) c.in_ok-tree-in-Some-Some.ensures.items
