-- One file more.
use Rattle.org_client.proofs.LogLemmas.{files_more}
use Rattle.org_clocktable.proofs.TableLemmas.{moved}
use Rattle.org_client.proofs.logged.all_rows.Goals as goal

pub loop-file-preserved : goal.loop-file-preserved
loop-file-preserved g c =
    moved _ _ _ _ _ _ c.in_ok-push_file.ensures.ok (files_more c.args.asked.now c.args.file_set.now.files c.args.inherits.now c.loop-file.file c.get.result.now c.get.ensures.value) c.loop-file.invariant
