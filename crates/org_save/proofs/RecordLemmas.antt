-- Names and their numbers.
use Rattle.std.proofs.Common.{◌≡◌}
use Rattle.org_save.specs.Events.{name, names_are_numbered, number}
use Rattle.org_save.specs.declared.name.Name.{Name}

pub named : (a : Name) → name (number a) ≡ a
named = names_are_numbered
