-- Lines as a terminal is sent them (ECMA-48, "SGR").
use Rattle.std.specs.Prelude.{◌≡◌, ℕ, ◌++◌, List, [], ◌∷◌, codes, Option, None, Some}
use Rattle.std.specs.List.{flat_map}
use Rattle.std.specs.String.{string_bytes}
use Rattle.org_day.specs.declared.line.Line.{Line}
use Rattle.org_day.specs.declared.line.Span.{Span}
use Rattle.org_day.specs.declared.paint.Background.{Background}
use Rattle.org_day.specs.declared.paint.Background.TheVariants.{Dark, Light, Unknown}
use Rattle.org_day.specs.declared.role.Role.{Role}
use Rattle.org_day.specs.declared.role.Role.TheVariants.{Plain, Head, Dim, Late, LateHead, Due, DueHead, Now, NowHead}

-- the sequence of these codes
abbrev pub sequence : List ℕ → List ℕ
sequence numbers = 27 ∷ 91 ∷ (numbers ++ 109 ∷ [])

abbrev pub escape_on : Role → Background → List ℕ
escape_on Plain background = []
escape_on Head background = sequence (codes "1")
escape_on Dim background = sequence (codes "2")
escape_on Late Dark = sequence (codes "91")
escape_on Late Light = sequence (codes "31")
escape_on Late Unknown = sequence (codes "1;31")
escape_on LateHead Dark = sequence (codes "1;91")
escape_on LateHead Light = sequence (codes "1;31")
escape_on LateHead Unknown = sequence (codes "1;31")
escape_on Due Dark = sequence (codes "33")
escape_on Due Light = sequence (codes "35")
escape_on Due Unknown = sequence (codes "1;35")
escape_on DueHead Dark = sequence (codes "1;33")
escape_on DueHead Light = sequence (codes "1;35")
escape_on DueHead Unknown = sequence (codes "1;35")
escape_on Now Dark = sequence (codes "36")
escape_on Now Light = sequence (codes "34")
escape_on Now Unknown = sequence (codes "1")
escape_on NowHead Dark = sequence (codes "1;36")
escape_on NowHead Light = sequence (codes "1;34")
escape_on NowHead Unknown = sequence (codes "1")

-- what puts a terminal into the colour of a role; nothing where no colours are wanted
abbrev pub escape_of : Role → Option Background → List ℕ
escape_of role None = []
escape_of role (Some background) = escape_on role background

-- a text between such a sequence and the one that ends it
abbrev pub between : List ℕ → List ℕ → List ℕ
between [] text = text
between (code ∷ rest) text = (code ∷ rest) ++ (text ++ sequence (codes "0"))

abbrev pub painted_span : Option Background → Span → List ℕ
painted_span background span = between (escape_of span.role background) (string_bytes span.text)

abbrev pub painted_line : Option Background → Line → List ℕ
painted_line background line = flat_map (painted_span background) line.spans.items ++ 10 ∷ []
