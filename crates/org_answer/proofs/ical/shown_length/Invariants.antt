-- Those so far, with what is left.
use Rattle.std.proofs.Common.{◌≡◌, ◌+◌, drop, map}
use Rattle.org_answer.specs.Ical.{told_length}
use Rattle.org_ical.specs.Components.{component_text}
use Rattle.org_answer.proofs.ical.shown_length.Given as goal

abbrev pub invariant-loop-component : goal.invariant-loop-component
invariant-loop-component l = record {
  place : l.length ≡ l.component-index;
  told : l.length + told_length l.left (map component_text (drop l.component-index l.components)) ≡ told_length l.count (map component_text l.components);
}
