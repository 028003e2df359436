-- None of the files so far is of the path.
use Rattle.std.proofs.Common.{take}
use Rattle.org_client.specs.Files.{IsNew}
use Rattle.org_client.proofs.file_set.FileSet.has.Given as goal

abbrev pub invariant-loop-place : goal.invariant-loop-place
invariant-loop-place g l = IsNew l.path (take l.place l.self.files)
