use Rattle.std.proofs.Common.{◌∙◌}
use Rattle.org_amend.proofs.ColumnLemmas.{of_no_text, of_text}
use Rattle.org_amend.proofs.tags_column.columns_of.Goals as goal

pub returns-in-Ok : goal.returns-in-Ok
returns-in-Ok c = record { value = c.text_columns.ensures.value ∙ of_text c.in-Ok.text.now c.args.bytes.now c.in-Ok.ensures.cases.0 c.in-Ok.ensures.cases.1 }

pub returns-in-Err : goal.returns-in-Err
returns-in-Err c = record { value = of_no_text c.args.bytes.now c.in-Err.ensures.cases.0 }
