use Rattle.std.proofs.Common.{◌∙◌}
use Rattle.org_engine.proofs.FilesLemmas.{place_of_key}
use Rattle.org_engine.proofs.world.World.place.Goals as goal

pub returns : goal.returns
returns g c = record { value = rw (← c.self.view_is) (c.get_index_of.ensures.index ∙ place_of_key c.args.name.now c.self.inside.files.entries) }
