-- The lines of agendas have a row where a day has one.
use Rattle.std.proofs.Common.{◌≡◌, ◌∙◌, ◌==◌, ℕ, suc, subst, ◌+◌, ◌-◌, ◌<◌, ◌≤◌, Bool, true, false, ◌||◌, List, [], ◌∷◌, length, map, refl, sym, ap, ap₂, arith}
use Rattle.std.specs.Prelude.{Option, Some, Result, Ok, not}
use Rattle.std.specs.List.{flat_map, list_any, range_with_len}
use Rattle.std.proofs.lemmas.Bool.Decides.{nat_tests}
use Rattle.std.proofs.lemmas.List.Concat.{flat_map-cons}
use Rattle.std.proofs.lemmas.List.Folds.{list_any-append}
use Rattle.org_agenda.specs.Days.{AgendaView, day_rows, rows_ahead}
use Rattle.org_agenda.specs.declared.row.Row.{Row}
use Rattle.org_base.specs.declared.fault.Fault.{Fault}
use Rattle.org_inherit.specs.Scope.{Scope}
use Rattle.org_answer.specs.Asked.{AnswersQuestion, TellsAnswer}
use Rattle.org_answer.specs.Limits.{is_row}
use Rattle.org_answer.specs.declared.query.Question.{Question}
use Rattle.org_answer.specs.declared.view.Answer.{Answer}
use Rattle.org_layout.specs.Shown.{day_lines_shown, row_line}
use Rattle.org_layout.specs.declared.shown.Line.{Line}

-- whether there is a row among those of a day
abbrev pub some_row : List Row → Bool
some_row rows = not (length rows == 0)

of_rows : (day : Option ℕ) (rows : List Row) → some_row rows ≡ list_any is_row (map (row_line day) rows)
of_rows day [] = refl
of_rows day (row ∷ rows) =
    let some : (length (row ∷ rows) == 0) ≡ false = grind (arith, nat_tests) in
    ap not some

-- those of so many days of an agenda, from one on
abbrev pub lines_from : AgendaView → ℕ → ℕ → List Line
lines_from agenda first count = flat_map (λ day. day_lines_shown day (day_rows agenda.profile agenda.sources agenda.today day)) (range_with_len first count)

day_more : (agenda : AgendaView) (first count : ℕ) → list_any is_row (lines_from agenda first (suc count)) ≡ (some_row (day_rows agenda.profile agenda.sources agenda.today first) || list_any is_row (lines_from agenda (first + 1) count))
day_more agenda first count =
    let lines : ℕ → List Line = λ day. day_lines_shown day (day_rows agenda.profile agenda.sources agenda.today day) in
    ap (list_any is_row) (flat_map-cons lines first (range_with_len (first + 1) count))
    ∙ list_any-append is_row (lines first) (lines_from agenda (first + 1) count)
    ∙ ap (λ b. b || list_any is_row (lines_from agenda (first + 1) count)) (sym (of_rows (Some first) (day_rows agenda.profile agenda.sources agenda.today first)))

ahead_more : (agenda : AgendaView) (ahead : ℕ) → ahead < agenda.count →
    list_any is_row (lines_from agenda (agenda.first + ahead) (agenda.count - ahead)) ≡ (some_row (rows_ahead agenda ahead) || list_any is_row (lines_from agenda (agenda.first + (ahead + 1)) (agenda.count - (ahead + 1))))
ahead_more agenda ahead within =
    let left : agenda.count - ahead ≡ suc (agenda.count - (ahead + 1)) = omega (arith, within) in
    let next : agenda.first + ahead + 1 ≡ agenda.first + (ahead + 1) = omega arith in
    ap (λ n. list_any is_row (lines_from agenda (agenda.first + ahead) n)) left
    ∙ day_more agenda (agenda.first + ahead) (agenda.count - (ahead + 1))
    ∙ ap (λ n. some_row (rows_ahead agenda ahead) || list_any is_row (lines_from agenda n (agenda.count - (ahead + 1)))) next

pub found_ahead : (agenda : AgendaView) (ahead : ℕ) (found all : Bool) → ahead < agenda.count → found ≡ some_row (rows_ahead agenda ahead) → found ≡ true →
    list_any is_row (lines_from agenda (agenda.first + ahead) (agenda.count - ahead)) ≡ all → true ≡ all
found_ahead agenda ahead found all within is yes' so_far =
    let rest = list_any is_row (lines_from agenda (agenda.first + (ahead + 1)) (agenda.count - (ahead + 1))) in
    sym (ap (λ b. b || rest) (sym is ∙ yes')) ∙ sym (ahead_more agenda ahead within) ∙ so_far

pub none_ahead : (agenda : AgendaView) (ahead : ℕ) (found all : Bool) → ahead < agenda.count → found ≡ some_row (rows_ahead agenda ahead) → found ≡ false →
    list_any is_row (lines_from agenda (agenda.first + ahead) (agenda.count - ahead)) ≡ all → list_any is_row (lines_from agenda (agenda.first + (ahead + 1)) (agenda.count - (ahead + 1))) ≡ all
none_ahead agenda ahead found all within is no' so_far =
    let rest = list_any is_row (lines_from agenda (agenda.first + (ahead + 1)) (agenda.count - (ahead + 1))) in
    sym (ap (λ b. b || rest) (sym is ∙ no')) ∙ sym (ahead_more agenda ahead within) ∙ so_far

pub nothing_ahead : (agenda : AgendaView) (ahead : ℕ) (all : Bool) → agenda.count ≤ ahead → list_any is_row (lines_from agenda (agenda.first + ahead) (agenda.count - ahead)) ≡ all → false ≡ all
nothing_ahead agenda ahead all past so_far =
    let none : 0 ≡ agenda.count - ahead = omega (arith, past) in
    ap (λ n. list_any is_row (lines_from agenda (agenda.first + ahead) n)) none ∙ so_far

-- all days
pub begins : (agenda : AgendaView) → list_any is_row (lines_from agenda (agenda.first + 0) (agenda.count - 0)) ≡ list_any is_row (lines_from agenda agenda.first agenda.count)
begins agenda =
    let first : agenda.first + 0 ≡ agenda.first = omega arith in
    let count : agenda.count - 0 ≡ agenda.count = omega arith in
    ap₂ (λ f n. list_any is_row (lines_from agenda f n)) first count

-- an answer that was given is told of
pub told : (answered : Result Answer Fault) (scopes : List Scope) (q : Question) (answer : Answer) (found : Bool) → answered ≡ Ok answer → AnswersQuestion answered scopes q → found ≡ list_any is_row answer.lines.items →
    TellsAnswer (Ok found) scopes q
told answered scopes q answer found was said has = (answer, subst (λ (r : Result Answer Fault). AnswersQuestion r scopes q) was said, has)
