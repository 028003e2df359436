use Rattle.std.specs.List.{filter_map}
use Rattle.org_drawer.specs.Node.{given_of}
use Rattle.org_drawer.proofs.laws.drawers_have_values.Goals as goal

pub returns : goal.returns
returns c = λ lines name. c.values_are_of_their_names.ensures (filter_map given_of lines) name
