-- Those of the files so far, each one text's.
use Rattle.org_client.specs.Files.{AreFirst, scope_of}
use Rattle.org_client.proofs.file_set.FileSet.inherits.Given as goal

abbrev pub invariant-loop-place : goal.invariant-loop-place
invariant-loop-place g l = AreFirst (scope_of l.self.inherited) l.self.files l.place l.inherits
