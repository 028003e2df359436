-- Findings as they are printed (profile; as compilers write, or an object of JSON for each).
use Rattle.std.specs.Prelude.{ℕ, List, [], ◌∷◌, ◌++◌, Option, Some, None, codes, decimal, flat_map}
use Rattle.org_check.specs.Chosen.{Chosen, severity_name, wanted_of}
use Rattle.org_check.specs.Kinds.{name_of, severity_of}
use Rattle.org_check.specs.Sentences.{at_of, column_of, other_line_of, said_of}
use Rattle.org_check.specs.declared.finding.Finding.{Finding}
use Rattle.org_check.specs.declared.kind.Kind.{Kind}
use Rattle.org_check.specs.declared.show.Form.{Form}
use Rattle.org_check.specs.declared.show.Form.TheVariants.{Json, Lines}
use Rattle.org_check.specs.declared.show.Wanted.{Wanted}
use Rattle.org_visible.specs.Visible.{visible}
use Rattle.org_visible.specs.declared.visible.Escape.TheVariants as escape

-- a text as a string of JSON
abbrev pub quoted : List ℕ → List ℕ
quoted text = 34 ∷ visible escape.Json text ++ 34 ∷ []

-- where a finding is: `FILE:LINE:COLUMN: '
abbrev pub spot_text : List ℕ → Finding → List ℕ
spot_text name f = name ++ (codes ":" ++ (decimal f.shown.line ++ (codes ":" ++ (decimal (column_of f) ++ codes ": "))))

-- what is found there: `SEVERITY: SENTENCE [KIND]'
abbrev pub found_text : Kind → List ℕ → List ℕ
found_text k said = severity_name (severity_of k) ++ (codes ": " ++ (said ++ (codes " [" ++ (name_of k ++ codes "]"))))

abbrev pub plain_text : List ℕ → Finding → List ℕ → List ℕ
plain_text name f said = spot_text name f ++ found_text f.kind said

-- a member of an object behind what stands before its value
abbrev pub string_member : List ℕ → List ℕ → List ℕ
string_member before text = before ++ quoted text

abbrev pub number_member : List ℕ → ℕ → List ℕ
number_member before number = before ++ decimal number

abbrev pub other_member : Option ℕ → List ℕ
other_member None = []
other_member (Some line) = number_member (codes ",\"other_line\":") line

-- what is found, in which file, where, and what is said of it
abbrev pub kind_members : List ℕ → Kind → List ℕ
kind_members name k =
    string_member (codes "{\"kind\":") (name_of k)
    ++ (string_member (codes ",\"severity\":") (severity_name (severity_of k)) ++ string_member (codes ",\"file\":") name)

abbrev pub place_members : Finding → List ℕ
place_members f =
    number_member (codes ",\"line\":") f.shown.line
    ++ (number_member (codes ",\"column\":") (column_of f)
    ++ (number_member (codes ",\"byte\":") (at_of f)
    ++ (number_member (codes ",\"length\":") f.shown.len ++ other_member (other_line_of f.cause))))

abbrev pub object_text : List ℕ → Finding → List ℕ → List ℕ
object_text name f said = kind_members name f.kind ++ (place_members f ++ (string_member (codes ",\"text\":") said ++ codes "}"))

abbrev pub form_text : Form → List ℕ → Finding → List ℕ → List ℕ
form_text Lines name f said = plain_text name f said
form_text Json name f said = object_text name f said

-- the line of a finding of a text of a file, without control characters
abbrev pub finding_text : Form → List ℕ → List ℕ → Finding → List ℕ
finding_text form name content f = visible escape.Question (form_text form name f (said_of f content))

-- with a line feed
abbrev pub line_of : Form → List ℕ → List ℕ → Finding → List ℕ
line_of form name content f = finding_text form name content f ++ 10 ∷ []

-- what is printed of a file's findings: of each that is wanted its line, in their order
abbrev pub report_text : Form → Chosen → List ℕ → List ℕ → List Finding → List ℕ
report_text form c name content fs = flat_map (line_of form name content) (wanted_of c fs)

abbrev pub lines_by : Wanted → List ℕ → List ℕ → List Finding → List ℕ
lines_by wanted name content fs = report_text wanted.form wanted.selection.now name content fs
