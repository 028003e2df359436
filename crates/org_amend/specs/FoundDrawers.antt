-- The property drawer at the front of a text, as it is found (profile).
use Rattle.std.specs.Prelude.{◌≡◌, ◌≤◌, ℕ, List, [], length, get_or, Option, Some, None, IfOk, Result}
use Rattle.std.specs.List.{concat}
use Rattle.org_amend.specs.declared.found_drawer.FoundDrawer.{FoundDrawer}
use Rattle.org_lines.specs.Cuts.{lines}

-- the first line of a text, with what ends it; empty where there is none
abbrev pub first_of : List ℕ → List ℕ
first_of text = get_or (lines text) 0 []

-- a drawer of these lines was found, which are the front of a text; or none
abbrev pub IsDrawer : List ℕ → Option FoundDrawer → Option (List (List ℕ)) → Type 0
IsDrawer text None found = found ≡ None
IsDrawer text (Some drawer) found = (found ≡ Some drawer.lines) × (drawer.len ≡ length (concat drawer.lines)) × (drawer.len ≤ length text)

abbrev pub GivesDrawer : {E : Type 0} → Result (Option FoundDrawer) E → List ℕ → Option (List (List ℕ)) → Type 0
GivesDrawer result text found = IfOk result (λ given. IsDrawer text given found)
