-- The first components, by their texts.
use Rattle.std.proofs.Common.{◌≡◌, ℕ, List, map, take, sym}
use Rattle.std.proofs.lemmas.List.{take-map}
use Rattle.org_ical.specs.Components.{component_text}
use Rattle.org_ical.specs.declared.component.Component.{Component}

pub first_texts : (count : ℕ) (components : List Component) → map component_text (take count components) ≡ take count (map component_text components)
first_texts count components = sym (take-map component_text count components)
