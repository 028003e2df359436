-- How far a section was classified, and what that leaves of the rules to the lines after.
use Rattle.std.specs.Prelude.{ℕ, List, Some, None, ◌≡◌, ◌∷◌}
use Rattle.org_class.specs.Blocks.{body_classes}
use Rattle.org_class.specs.Classes.{classes, classes_under_heading, front_classes}
use Rattle.org_class.specs.Drawers.{classes_below, drawer_classes}
use Rattle.org_class.specs.declared.class.Class.{Class}
use Rattle.org_class.specs.declared.stage.Stage.{Stage}
use Rattle.org_class.specs.declared.stage.Stage.TheVariants as stage

-- the classes of the lines that are left at a stage
abbrev pub classes_at : Stage → List (List ℕ) → List Class
classes_at stage.Start ls = classes ls
classes_at stage.Front ls = front_classes ls
classes_at stage.UnderHeading ls = classes_under_heading ls
classes_at stage.Below ls = classes_below ls
classes_at stage.Drawer ls = drawer_classes ls
classes_at stage.Body ls = body_classes None ls
classes_at (stage.Block name) ls = body_classes (Some name) ls

-- a rule for the lines from a place on gives the first of them this class, and the lines after it what a stage gives them
abbrev pub IsPassed : (List (List ℕ) → List Class) → List ℕ → List (List ℕ) → Stage → Class → Type 0
IsPassed rule line ahead stage class = rule (line ∷ ahead) ≡ class ∷ classes_at stage ahead
