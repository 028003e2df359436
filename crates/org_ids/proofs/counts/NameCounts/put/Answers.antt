-- The map's entries are those of its view, with one inserted.
use Rattle.std.proofs.Common.{◌∙◌, cond, ap}
use Rattle.std.specs.Prelude.{bytes_eq, Some}
use Rattle.org_ids.specs.Counts.{number_of}
use Rattle.org_ids.proofs.CountLemmas.{number_of-insert, seen}
use Rattle.org_ids.proofs.counts.NameCounts.put.Goals as goal

pub returns : goal.returns
returns c = record {
  ok = λ q.
      let es = c.self.inside.by_name.entries in
      ap (λ es. number_of (seen es) q) c.in_ok-insert.ensures.entries
      ∙ number_of-insert q c.args.name.now es c.in_ok-name.name c.args.number c.in_ok-name.ensures.items
      ∙ ap (λ p. cond (bytes_eq q c.args.name.now) (Some c.args.number) (number_of p q)) c.self.view_is;
}
