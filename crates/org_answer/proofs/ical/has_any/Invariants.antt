-- What is left decides.
use Rattle.std.proofs.Common.{◌≡◌, drop, map}
use Rattle.org_answer.specs.Ical.{has_any}
use Rattle.org_ical.specs.Components.{component_text}
use Rattle.org_answer.proofs.ical.has_any.Given as goal

abbrev pub invariant-loop-component : goal.invariant-loop-component
invariant-loop-component l = has_any (map component_text (drop l.component-index l.components)) ≡ has_any (map component_text l.components)
