-- Whether an expression holds of a heading, by what the heading answers (Org manual 9.6, "Matching tags and
-- properties").
use Rattle.std.specs.Prelude.{Bool, List}
use Rattle.org_cal.specs.declared.moment.Moment.{Moment}
use Rattle.org_expression.specs.Grammar.{Expr, Item}
use Rattle.org_match.specs.Holds.{holds, is_open, item_holds, items_hold, tag_term_holds, todo_term_holds}
use Rattle.org_match.specs.declared.facts.Facts as facts

-- the expression holds of the heading
abbrev pub holds_by : {F : Type 0} → facts.Ghosts F → F → Moment → Expr → Bool
holds_by answers heading moment expr =
    holds (answers.tags heading) (answers.value heading) (answers.keyword heading) (answers.finished heading) moment expr

-- an item before the slash does
abbrev pub tag_item_holds_by : {F : Type 0} → facts.Ghosts F → F → Moment → Item → Bool
tag_item_holds_by answers heading moment i = item_holds (tag_term_holds (answers.tags heading) (answers.value heading) moment) i

-- the items before the slash do
abbrev pub tag_items_hold_by : {F : Type 0} → facts.Ghosts F → F → Moment → List Item → Bool
tag_items_hold_by answers heading moment is = items_hold (tag_term_holds (answers.tags heading) (answers.value heading) moment) is

-- the items after the slash do
abbrev pub todo_items_hold_by : {F : Type 0} → facts.Ghosts F → F → List Item → Bool
todo_items_hold_by answers heading is = items_hold (todo_term_holds (answers.keyword heading)) is

-- the heading has a keyword that isn't done
abbrev pub is_open_by : {F : Type 0} → facts.Ghosts F → F → Bool
is_open_by answers heading = is_open (answers.keyword heading) (answers.finished heading)
