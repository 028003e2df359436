-- The rows of one file more.
use Rattle.std.proofs.Common.{◌≡◌, ◌∙◌, ◌+◌, ◌++◌, List, ℕ, suc, ap, arith, sym}
use Rattle.org_agenda.specs.declared.row.Row.{Row}
use Rattle.org_client.specs.FoundRows.{file_rows, files_rows, rows_in}
use Rattle.org_inherit.specs.Scope.{Scope}
use Rattle.org_search.specs.Typed.{Asked}
use Rattle.org_client.proofs.found.found_rows.Goals as goal

pub loop-place-preserved : goal.loop-place-preserved
loop-place-preserved g c =
    let files = c.args.file_set.now.files in
    let scopes : List Scope = c.args.inherits.now in
    let asked : List Asked = c.args.scan.now in
    let k : ℕ = c.loop-place.place in
    let next : suc k ≡ k + 1 = omega arith in
    let found : c.as_slice.result.now ≡ rows_in asked c.file.result.now c.get.result.now k =
    c.as_slice.ensures.value ∙ c.in_ok-found.ensures.value ∙ ap (λ (s : List Asked). rows_in s c.file.result.now c.get.result.now k) c.loop-place.invariant.same in
    record {
      rows = c.in_ok-extend_from_slice.ensures.items
          ∙ ap (λ (rows : List Row). rows ++ c.as_slice.result.now) c.loop-place.invariant.rows
          ∙ ap (λ (rows : List Row). files_rows asked files scopes k ++ rows) found
          ∙ (λ i. files_rows asked files scopes k ++ file_rows asked (sym c.file.ensures.value i) (sym c.get.ensures.value i) k)
          ∙ ap (files_rows asked files scopes) next;
      same = c.in_ok-found.ensures.unchanged ∙ c.loop-place.invariant.same;
    }
