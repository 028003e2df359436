-- What is read of an expression so far, and what each character adds to it.
-- Characters by their codes: 33 !, 34 ", 38 &, 43 +, 45 -, 46 ., 47 /, 60 <, 61 =, 62 >, 92 \, 123 {, 124 |, 125 }.
use Rattle.std.specs.Char.{is_ascii_digit}
use Rattle.std.specs.Prelude.{ℕ, Bool, true, false, ◌==◌, List, [], ◌∷◌, ◌++◌, Option, None, Some, if◌then◌else◌}
use Rattle.org_base.specs.Characters.{is_tag_char}
use Rattle.org_expression.specs.Grammar.{Link, Direct, And, Or, Sign, Unsigned, Plus, Minus, Op, Less, Equal, Greater, AtMost, AtLeast, Differs, Number, Quoted, Pattern, Term, Tag, Found, Compare, Item, item, Expr, Tags, Todo, Open}
use Rattle.org_expression.specs.declared.state.State.{State}
use Rattle.org_expression.specs.declared.state.State.TheVariants.{Start, Linked, Signed, InName, Escaped, InPattern, Closed, AfterLess, AfterGreater, AfterCompare, AfterEqual, AfterMinus, InWhole, AfterPoint, InFraction, InText, AfterSlash, AfterBang}
use Rattle.org_expression.specs.Automaton.{step_at, run, is_final}

-- which parts stand round the slash
pub data Kind : Type 0 where
  JustTags : Kind
  WithTodo : Kind
  WithOpen : Kind

-- what the term that is being read is
pub data Shape : Type 0 where
  AsTag : Shape
  AsFound : Shape
  AsNumber : Shape
  AsQuoted : Shape
  AsPattern : Shape

-- the parts that are read, what stands before the term that is being read, and its texts
pub record Draft : Type 0 where
  pub kind : Kind
  pub tags : List Item
  pub todo : List Item
  pub link : Link
  pub sign : Sign
  pub name : List ℕ
  pub op : Op
  pub shape : Shape
  pub is_negative : Bool
  pub whole : List ℕ
  pub fraction : List ℕ
  pub text : List ℕ

-- nothing is read
abbrev pub empty_draft : Draft
empty_draft = record {
  kind = JustTags;
  tags = [];
  todo = [];
  link = Direct;
  sign = Unsigned;
  name = [];
  op = Equal;
  shape = AsTag;
  is_negative = false;
  whole = [];
  fraction = [];
  text = [];
}

-- the term that is being read, by its shape
abbrev pub term_by : Shape → Draft → Term
term_by AsTag d = Tag d.name
term_by AsFound d = Found d.text
term_by AsNumber d = Compare d.name d.op (Number d.is_negative d.whole d.fraction)
term_by AsQuoted d = Compare d.name d.op (Quoted d.text)
term_by AsPattern d = Compare d.name d.op (Pattern d.text)

-- the term that is being read
abbrev pub term_of : Draft → Term
term_of d = term_by d.shape d

-- which parts there are, the items before the slash, and those after it
abbrev pub Parts : Type 0
Parts = Kind × List Item × List Item

-- parts with more items at the end of the one that is being read
abbrev pub extend : Parts → List Item → Parts
extend (JustTags, tags, todo) is = (JustTags, tags ++ is, todo)
extend (WithTodo, tags, todo) is = (WithTodo, tags, todo ++ is)
extend (WithOpen, tags, todo) is = (WithOpen, tags, todo ++ is)

-- without the term that is being read
abbrev pub open_parts : Draft → Parts
open_parts d = (d.kind, d.tags, d.todo)

-- with the term that is being read
abbrev pub parts_of : Draft → Parts
parts_of d = extend (open_parts d) (item d.link d.sign (term_of d) ∷ [])

-- other parts, and what stands before the next term
abbrev pub with_parts : Draft → Parts → Link → Sign → Draft
with_parts d (kind, tags, todo) link sign = record d { kind = kind; tags = tags; todo = todo; link = link; sign = sign }

-- the term that is being read among the parts, and what stands before the next term
abbrev pub with_term : Draft → Link → Sign → Draft
with_term d link sign = with_parts d (parts_of d) link sign

-- the expression of the parts
abbrev pub expr_of : Parts → Expr
expr_of (JustTags, tags, todo) = Tags tags
expr_of (WithTodo, tags, todo) = Todo tags todo
expr_of (WithOpen, tags, todo) = Open tags todo

-- where a term may begin
abbrev pub begin : ℕ → Draft → Draft
begin c d =
    if c == 43 then record d { sign = Plus } else if c == 45 then record d { sign = Minus }
    else if c == 47 then record d { kind = WithTodo } else if c == 33 then record d { kind = WithOpen }
    else if c == 92 then record d { name = []; shape = AsTag } else if c == 123 then record d { text = []; shape = AsFound }
    else record d { name = c ∷ []; shape = AsTag }

-- the slash begins the keywords' part
abbrev pub with_todo : Parts → Parts
with_todo (kind, tags, todo) = (WithTodo, tags, todo)

-- after a whole term
abbrev pub follow : ℕ → Draft → Draft
follow c d =
    if c == 43 then with_term d Direct Plus else if c == 45 then with_term d Direct Minus
    else if c == 38 then with_term d And Unsigned else if c == 124 then with_term d Or Unsigned
    else with_parts d (with_todo (parts_of d)) Direct Unsigned

-- where a value begins
abbrev pub begin_value : ℕ → Draft → Draft
begin_value c d =
    if c == 45 then record d { shape = AsNumber; is_negative = true; whole = []; fraction = [] }
    else if c == 34 then record d { shape = AsQuoted; text = [] } else if c == 123 then record d { shape = AsPattern; text = [] }
    else record d { shape = AsNumber; is_negative = false; whole = c ∷ []; fraction = [] }

-- after the first character of a name
abbrev pub in_name : ℕ → Draft → Draft
in_name c d =
    if c == 92 then d else if c == 60 then record d { op = Less } else if c == 61 then record d { op = Equal }
    else if c == 62 then record d { op = Greater } else if is_tag_char c then record d { name = d.name ++ c ∷ [] } else follow c d

-- a character, in the state that the ones before it lead to
abbrev pub absorb : State → ℕ → Draft → Draft
absorb Start c d = begin c d
absorb (Linked part) c d = begin c d
absorb (Signed part) c d = begin c d
absorb AfterSlash c d = begin c d
absorb AfterBang c d = begin c d
absorb (InName part) c d = in_name c d
absorb (Escaped part) c d = record d { name = d.name ++ 45 ∷ [] }
absorb InPattern c d = if c == 125 then d else record d { text = d.text ++ c ∷ [] }
absorb InText c d = if c == 34 then d else record d { text = d.text ++ c ∷ [] }
absorb Closed c d = follow c d
absorb AfterLess c d =
    if c == 61 then record d { op = AtMost } else if c == 62 then record d { op = Differs } else begin_value c d
absorb AfterGreater c d = if c == 61 then record d { op = AtLeast } else begin_value c d
absorb AfterCompare c d = begin_value c d
absorb AfterEqual c d = begin_value c d
absorb AfterMinus c d = record d { whole = d.whole ++ c ∷ [] }
absorb (InWhole n) c d = if is_ascii_digit c then record d { whole = d.whole ++ c ∷ [] } else if c == 46 then d else follow c d
absorb AfterPoint c d = record d { fraction = d.fraction ++ c ∷ [] }
absorb (InFraction n) c d = if is_ascii_digit c then record d { fraction = d.fraction ++ c ∷ [] } else follow c d

-- a character adds nothing where there is no state
abbrev pub absorb_at : Option State → ℕ → Draft → Draft
absorb_at None c d = d
absorb_at (Some s) c d = absorb s c d

-- the draft after the characters
abbrev pub advance : Option State → Draft → List ℕ → Draft
advance o d [] = d
advance o d (c ∷ cs) = advance (step_at o c) (absorb_at o c d) cs

-- what a draft is, where it ends
abbrev pub finished : Option State → Draft → Option Expr
finished (Some AfterBang) d = Some (expr_of (open_parts d))
finished (Some s) d = if is_final s then Some (expr_of (parts_of d)) else None
finished None d = None

-- the expression that the characters are
abbrev pub read_all : List ℕ → Option Expr
read_all cs = finished (run (Some Start) cs) (advance (Some Start) empty_draft cs)
