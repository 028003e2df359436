-- Keys that came are counted, and what is written goes on with the components that are left.
use Rattle.std.proofs.Common.{◌≡◌, ◌++◌, List, [], ℕ, drop, length, map}
use Rattle.org_ical.specs.Components.{component_text, components_lines}
use Rattle.org_ical.specs.Counts.{AreCounted}
use Rattle.org_ical.specs.Lines.{written}
use Rattle.org_ical.proofs.calendar.push_components.Given as goal

abbrev pub invariant-loop-component : goal.invariant-loop-component
invariant-loop-component l =
    (seen : List (List ℕ))
    × AreCounted l.counts seen
    × (length seen ≡ l.component-index)
    × (l.out.items ++ written (components_lines l.stamp seen (map component_text (drop l.component-index l.components)))
    ≡ l.fn.out.items ++ written (components_lines l.stamp [] (map component_text l.components)))
