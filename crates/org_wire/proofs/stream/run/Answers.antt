use Rattle.org_wire.specs.Stream.{is_second}
use Rattle.org_wire.proofs.SaysLemmas.{all_spelled, spelled_run}
use Rattle.org_wire.proofs.stream.run.Goals as goal

pub returns-clause-value : goal.returns-clause-value
returns-clause-value g c = λ begun.
    spelled_run (is_second c.args.options.protocol) g.W.Write.contents (g.R.Read.remaining c.args.reader.now.inner) c.args.writer.now c.args.engine.now
    c.run_counted.result c.run_counted.new.writer c.run_counted.new.engine (c.run_counted.ensures.value begun)

pub returns-clause-taken : goal.returns-clause-taken
returns-clause-taken g c = λ is fine.
    all_spelled (is_second c.args.options.protocol) g.W.Write.contents (g.R.Read.remaining c.args.reader.now.inner) c.args.writer.now c.args.engine.now
    (g.R.Read.remaining c.run_counted.new.reader.inner) c.run_counted.new.writer c.run_counted.new.engine (c.run_counted.ensures.taken is fine)
