-- One more cell has the labels of one more day.
use Rattle.std.proofs.Common.{◌≡◌, ◌∙◌, ◌++◌, ◌∷◌, [], ap, map, slice_get, rules}
use Rattle.org_look.specs.Weeks.{cell_labels, day_labels}
use Rattle.org_look.proofs.WeekLemmas.{adds_one}
use Rattle.org_look.proofs.plan.cells_of.Goals as goal

pub loop-column-preserved : goal.loop-column-preserved
loop-column-preserved c =
    let cells = c.loop-column.cells.items in
    let cell = c.in_ok-cell.cell in
    let pushed : c.push.new.self.items ≡ cells ++ cell ∷ [] = search rules in
    record {
      count = search rules;
      labels = λ none. ap (map cell_labels) pushed ∙ adds_one cell_labels (λ column. day_labels (slice_get c.args.days.now column)) c.loop-column.column cells cell (c.loop-column.invariant.labels none) (c.in_ok-cell.ensures.labels none);
    }
