-- Behind the last section stands nothing.
use Rattle.std.proofs.Common.{◌+◌, sym, ◌∙◌}
use Rattle.org_client.proofs.OwnLemmas.{end_none, place_none}
use Rattle.org_client.proofs.read_file.ReadFile.end_within.Goals as goal

pub returns-in-None : goal.returns-in-None
returns-in-None g c =
    let text = c.args.self.now.text in
    let none = sym c.place_behind.ensures.value ∙ c.in-None.is in
    record { value = end_none text (c.args.heading + 1) c.args.own (place_none text (c.args.heading + 1) none) c.requires.within }
