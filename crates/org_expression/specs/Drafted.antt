-- The definition's draft of the program's.
use Rattle.org_expression.specs.Draft as draft
use Rattle.org_expression.specs.declared.tree.Kind.{Kind}
use Rattle.org_expression.specs.declared.tree.Kind.TheVariants.{Tags, Todo, Open}
use Rattle.org_expression.specs.declared.shape.Shape.{Shape}
use Rattle.org_expression.specs.declared.shape.Shape.TheVariants.{AsTag, AsFound, AsNumber, AsQuoted, AsPattern}

-- the kind of expression, by the definition's names
abbrev pub kind_of : Kind → draft.Kind
kind_of Tags = draft.JustTags
kind_of Todo = draft.WithTodo
kind_of Open = draft.WithOpen

-- the shape of a term, by the definition's names
abbrev pub shape_of : Shape → draft.Shape
shape_of AsTag = draft.AsTag
shape_of AsFound = draft.AsFound
shape_of AsNumber = draft.AsNumber
shape_of AsQuoted = draft.AsQuoted
shape_of AsPattern = draft.AsPattern
