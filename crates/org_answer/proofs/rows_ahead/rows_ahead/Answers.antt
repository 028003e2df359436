use Rattle.std.proofs.Common.{◌∙◌, sym, subst}
use Rattle.org_answer.specs.Ahead.{ShowsNext, ShowsRows}
use Rattle.org_answer.proofs.rows_ahead.rows_ahead.Goals as goal

-- with no minutes named, all of them are shown
pub returns : goal.returns
returns c =
    record {
      value = subst (λ within. ShowsNext c.by_days-in-None.result c.args.agenda.now c.args.now.now within) (sym c.in-None.is)
          (subst (λ rows. ShowsRows c.by_days-in-None.result c.args.agenda.now rows) (c.as_slice-in-None.ensures.value ∙ c.in_ok-next.ensures.value) c.by_days-in-None.ensures);
    }
