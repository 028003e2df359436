-- What is read and shown is an answer.
use Rattle.std.proofs.Common.{ℕ, List}
use Rattle.std.specs.Prelude.{Result, Ok, Err, chars}
use Rattle.org_base.specs.declared.fault.Fault.{Fault}
use Rattle.org_cal.specs.declared.moment.Moment.{Moment}
use Rattle.org_clocktable.specs.Request.{AsksFor, TableRequest}
use Rattle.org_expression.specs.Grammar.{Expr, Reads}
use Rattle.org_inherit.specs.Scope.{Scope}
use Rattle.org_answer.specs.Asked.{AnswersMatch, AnswersTable}
use Rattle.org_answer.specs.Chosen.{ShowsMatches}
use Rattle.org_answer.specs.Tables.{ShowsTable}
use Rattle.org_answer.specs.declared.view.Answer.{Answer}
use Rattle.org_answer.specs.declared.view.Chosen.{Chosen}

pub listed : (result : Result Answer Fault) (scopes : List Scope) (text : List ℕ) (chosen : Chosen) (expression : Expr) → Reads (chars text) expression →
    ShowsMatches result scopes chosen expression → AnswersMatch result scopes text chosen
listed (Ok answer) scopes text chosen expression reads shows = (expression, reads, shows)
listed (Err fault) scopes text chosen expression reads shows = tt

pub tabled : (result : Result Answer Fault) (scopes : List Scope) (options : List ℕ) (days : ℕ × ℕ) (now : Moment) (table : TableRequest Expr) → AsksFor options now.day table →
    ShowsTable result table scopes days now → AnswersTable result scopes options days now
tabled (Ok answer) scopes options days now table asks shows = (table, asks, shows)
tabled (Err fault) scopes options days now table asks shows = tt
