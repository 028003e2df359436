-- What findings say of marks.
use Rattle.std.specs.Prelude.{◌≡◌, ◌↔◌, ◌++◌, ℕ, Option, Some, None, List, [], ◌∷◌, Result, OnOk}
use Rattle.std.specs.Option.{option_map}
use Rattle.org_check.specs.declared.finding.Finding.{Finding}
use Rattle.org_check.specs.declared.kind.Kind.{Kind}
use Rattle.org_check.specs.declared.kind.Kind.TheVariants as kind
use Rattle.org_check.specs.declared.look.Look.{Look}
use Rattle.org_check.specs.declared.look.Look.TheVariants as look
use Rattle.org_check.specs.declared.look.Mark.{Mark}
use Rattle.org_check.specs.Marked.{IsMarkOf}
use Rattle.org_check.specs.Marks.{text_marks}

-- what a place looked like, of which a kind says that it isn't read so
abbrev pub look_of : Kind → Option Look
look_of (kind.Stamp why) = Some look.Stamp
look_of (kind.Planning why) = Some look.Planning
look_of (kind.Drawer why) = Some look.Drawer
look_of kind.UnclosedBlock = Some look.Block
look_of kind.UnreadClock = Some look.Clock
look_of (kind.Minutes why) = Some look.Minutes
look_of (kind.Beside what) = None

-- the mark that a finding explains: where it stands, and what its kind says
abbrev pub mark_of : Finding → Option Mark
mark_of f = option_map (λ what. record { line_at = f.line_at; place = f.place; look = what }) (look_of f.kind)

-- one element, or none
abbrev pub option_list : {X : Type 0} → Option X → List X
option_list None = []
option_list (Some x) = x ∷ []

-- the marks that findings explain
abbrev pub said : List Finding → List Mark
said [] = []
said (f ∷ fs) = option_list (mark_of f) ++ said fs

-- the mark that a finding of a kind explains at a place of a line that begins at a place, if it explains one
abbrev pub kind_marks : Kind → ℕ → ℕ → List Mark
kind_marks k at p = option_list (option_map (λ what. record { line_at = at; place = p; look = what }) (look_of k))

-- findings that explain these marks stand after those that were there, unless it's refused
abbrev pub Says : {T E : Type 0} → Result T E → List Finding → List Finding → List Mark → Type 0
Says result old new marks = OnOk result (said new ≡ said old ++ marks)

-- each of these marks has its finding, and each finding that explains one explains one of these
abbrev pub AreSaid : List Mark → List Finding → Type 0
AreSaid marks fs = (m : Mark) → IsMarkOf m marks ↔ IsMarkOf m (said fs)

-- just the marks of a text are explained
abbrev pub MarksAreSaid : List ℕ → List Finding → Type 0
MarksAreSaid content fs = AreSaid (text_marks content) fs
