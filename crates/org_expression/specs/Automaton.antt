-- The automaton of the grammar, in which `specs/Grammar` is read: each state can still come to an expression, so the longest front that
-- begins one ends where no step is left.
-- Characters by their codes: 33 !, 34 ", 38 &, 43 +, 45 -, 46 ., 47 /, 60 <, 61 =, 62 >, 92 \, 123 {, 124 |, 125 }.
use Rattle.std.specs.Char.{is_ascii_digit}
use Rattle.std.specs.Prelude.{ℕ, ◌+◌, Bool, true, false, ◌||◌, ◌==◌, nat_lt, List, [], ◌∷◌, Option, None, Some, is_some, if◌then◌else◌}
use Rattle.std.specs.Option.{option_or}
use Rattle.std.specs.Char.{len_utf8}
use Rattle.org_base.specs.Characters.{is_tag_char}
use Rattle.org_expression.specs.declared.state.Part.{Part}
use Rattle.org_expression.specs.declared.state.Part.TheVariants.{InTags, InTodo}
use Rattle.org_expression.specs.declared.state.State.{State}
use Rattle.org_expression.specs.declared.state.State.TheVariants.{Start, Linked, Signed, InName, Escaped, InPattern, Closed, AfterLess, AfterGreater, AfterCompare, AfterEqual, AfterMinus, InWhole, AfterPoint, InFraction, InText, AfterSlash, AfterBang}

-- a sign
abbrev pub sign_step : Part → ℕ → Option State
sign_step part c = if c == 43 || c == 45 then Some (Signed part) else None

-- the first character of a term
abbrev pub term_step : Part → ℕ → Option State
term_step InTags c =
    if c == 92 then Some (Escaped InTags) else if c == 123 then Some InPattern
    else if is_tag_char c then Some (InName InTags) else None
term_step InTodo c =
    if c == 92 then Some (Escaped InTodo) else if is_tag_char c then Some (InName InTodo) else None

-- a sign, or the first character of a term
abbrev pub begin_step : Part → ℕ → Option State
begin_step part c = option_or (sign_step part c) (term_step part c)

-- what stands after a whole term
abbrev pub next_step : Part → ℕ → Option State
next_step InTags c =
    if c == 43 || c == 45 then Some (Signed InTags) else if c == 38 || c == 124 then Some (Linked InTags)
    else if c == 47 then Some AfterSlash else None
next_step InTodo c =
    if c == 43 || c == 45 then Some (Signed InTodo) else if c == 38 || c == 124 then Some (Linked InTodo) else None

-- the first character of a value that is no pattern
abbrev pub value_step : ℕ → Option State
value_step c = if c == 45 then Some AfterMinus else if c == 34 then Some InText else if is_ascii_digit c then Some (InWhole 1) else None

-- what stands after the first character of a name
abbrev pub name_step : Part → ℕ → Option State
name_step InTags c =
    if c == 92 then Some (Escaped InTags) else if c == 60 then Some AfterLess else if c == 61 then Some AfterEqual
    else if c == 62 then Some AfterGreater else if is_tag_char c then Some (InName InTags) else next_step InTags c
name_step InTodo c =
    if c == 92 then Some (Escaped InTodo) else if is_tag_char c then Some (InName InTodo) else next_step InTodo c

-- one more character
abbrev pub step : State → ℕ → Option State
step Start c = if c == 47 then Some AfterSlash else begin_step InTags c
step (Linked part) c = begin_step part c
step (Signed part) c = term_step part c
step (InName part) c = name_step part c
step (Escaped part) c = if c == 45 then Some (InName part) else None
step InPattern c = if c == 125 then Some Closed else Some InPattern
step Closed c = next_step InTags c
step AfterLess c = if c == 61 then Some AfterCompare else if c == 62 then Some AfterEqual else value_step c
step AfterGreater c = if c == 61 then Some AfterCompare else value_step c
step AfterCompare c = value_step c
step AfterEqual c = if c == 123 then Some InPattern else value_step c
step AfterMinus c = if is_ascii_digit c then Some (InWhole 1) else None
step (InWhole n) c =
    if is_ascii_digit c then (if nat_lt n 18 then Some (InWhole (n + 1)) else None)
    else if c == 46 then Some AfterPoint else next_step InTags c
step AfterPoint c = if is_ascii_digit c then Some (InFraction 1) else None
step (InFraction n) c =
    if is_ascii_digit c then (if nat_lt n 9 then Some (InFraction (n + 1)) else None) else next_step InTags c
step InText c = if c == 34 then Some Closed else Some InText
step AfterSlash c = if c == 33 then Some AfterBang else begin_step InTodo c
step AfterBang c = begin_step InTodo c

-- an expression may end here
abbrev pub is_final : State → Bool
is_final (InName part) = true
is_final Closed = true
is_final (InWhole n) = true
is_final (InFraction n) = true
is_final AfterBang = true
is_final _ = false

-- the same, where there is a state
abbrev pub is_final_at : Option State → Bool
is_final_at None = false
is_final_at (Some s) = is_final s

-- a step, where there is a state
abbrev pub step_at : Option State → ℕ → Option State
step_at None c = None
step_at (Some s) c = step s c

-- where the characters lead
abbrev pub run : Option State → List ℕ → Option State
run o [] = o
run o (c ∷ cs) = run (step_at o c) cs

-- how many bytes the characters have that can be taken
abbrev pub reach : Option State → List ℕ → ℕ
reach o [] = 0
reach o (c ∷ cs) = if is_some (step_at o c) then len_utf8 c + reach (step_at o c) cs else 0
