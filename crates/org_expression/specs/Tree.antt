-- The grammar's expressions that those of the program stand for.
use Rattle.std.specs.Prelude.{List, map}
use Rattle.org_expression.specs.Grammar as grammar
use Rattle.org_expression.specs.declared.tree.Link.{Link}
use Rattle.org_expression.specs.declared.tree.Link.TheVariants.{Direct, And, Or}
use Rattle.org_expression.specs.declared.tree.Sign.{Sign}
use Rattle.org_expression.specs.declared.tree.Sign.TheVariants.{Unsigned, Plus, Minus}
use Rattle.org_expression.specs.declared.tree.Op.{Op}
use Rattle.org_expression.specs.declared.tree.Op.TheVariants.{Less, Equal, Greater, AtMost, AtLeast, Differs}
use Rattle.org_expression.specs.declared.tree.Value.{Value}
use Rattle.org_expression.specs.declared.tree.Value.TheVariants.{Number, Quoted, Pattern}
use Rattle.org_expression.specs.declared.tree.Term.{Term}
use Rattle.org_expression.specs.declared.tree.Term.TheVariants.{Tag, Found, Compare}
use Rattle.org_expression.specs.declared.tree.Item.{Item}
use Rattle.org_expression.specs.declared.tree.Kind.{Kind}
use Rattle.org_expression.specs.declared.tree.Kind.TheVariants.{Tags, Todo, Open}

-- a link as the grammar has it
abbrev pub link_of : Link → grammar.Link
link_of Direct = grammar.Direct
link_of And = grammar.And
link_of Or = grammar.Or

-- a sign as the grammar has it
abbrev pub sign_of : Sign → grammar.Sign
sign_of Unsigned = grammar.Unsigned
sign_of Plus = grammar.Plus
sign_of Minus = grammar.Minus

-- a comparison as the grammar has it
abbrev pub op_of : Op → grammar.Op
op_of Less = grammar.Less
op_of Equal = grammar.Equal
op_of Greater = grammar.Greater
op_of AtMost = grammar.AtMost
op_of AtLeast = grammar.AtLeast
op_of Differs = grammar.Differs

-- a value as the grammar has it
abbrev pub value_of : Value → grammar.Value
value_of (Number is_negative whole fraction) = grammar.Number is_negative whole fraction
value_of (Quoted text) = grammar.Quoted text
value_of (Pattern text) = grammar.Pattern text

-- a term as the grammar has it
abbrev pub term_of : Term → grammar.Term
term_of (Tag name) = grammar.Tag name
term_of (Found text) = grammar.Found text
term_of (Compare name op v) = grammar.Compare name (op_of op) (value_of v)

-- an item as the grammar has it
abbrev pub item_of : Item → grammar.Item
item_of i = grammar.item (link_of i.link) (sign_of i.sign) (term_of i.term)

-- the expression of two lists of items, by its kind
abbrev pub expr_of : Kind → List Item → List Item → grammar.Expr
expr_of Tags tags todo = grammar.Tags (map item_of tags)
expr_of Todo tags todo = grammar.Todo (map item_of tags) (map item_of todo)
expr_of Open tags todo = grammar.Open (map item_of tags) (map item_of todo)
