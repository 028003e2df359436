-- Laws of giving the heading on a line of a text a property (Org manual 9.6, "Property Syntax").
use Rattle.std.specs.Prelude.{◌≡◌, ℕ, true, List, ◌++◌, length, drop, Some, Ok}
use Rattle.org_act.specs.Lines.{heading_at}
use Rattle.org_act.specs.PlanningLaws.{IsOldLine}
use Rattle.org_act.specs.PropertyActs.{given_text}
use Rattle.org_act.specs.declared.property_act.PropertyAct.{PropertyAct}
use Rattle.org_amend.specs.DrawerPuts.{Put, value_by}
use Rattle.org_amend.specs.PropertyLaws.{IsGiven}
use Rattle.org_class.specs.Heading.{begins_heading}

-- right under the heading on a line and its planning line, if it has one, stands a drawer in the place of the one that stood there,
-- where either may be none; it gives the property its value, or doesn't give it. All that stands before it and behind it stays
pub record IsPropertyGiven (a : PropertyAct) (text new : List ℕ) : Type 0 where
  pub front : List ℕ
  pub heading : List ℕ
  pub planning : List ℕ
  pub below : List ℕ
  pub put : Put
  pub place : heading_at text a.line ≡ Some (length front)
  pub begins : begins_heading heading ≡ true
  pub planning_is : IsOldLine (planning ++ below) planning
  pub text_is : text ≡ front ++ (heading ++ (planning ++ below))
  pub new_is : new ≡ front ++ (heading ++ (planning ++ (put.inserted ++ drop put.deleted below)))
  pub given : IsGiven a.change.name.now (value_by a.change) below put

-- what the act makes of a text, where it isn't refused
abbrev pub HeadingsGetProperties : Type 0
HeadingsGetProperties = (a : PropertyAct) (text new : List ℕ) → given_text a text ≡ Ok new → IsPropertyGiven a text new
