use Rattle.std.proofs.Common.{arith}
use Rattle.org_engine.proofs.PinLemmas.{length-pins_of}
use Rattle.org_engine.proofs.pins.Pins.count.Goals as goal

pub returns : goal.returns
returns g c = record { value = rw (← c.self.view_is) (omega (arith, c.len.ensures, length-pins_of c.self.inside.pins.items)) }
