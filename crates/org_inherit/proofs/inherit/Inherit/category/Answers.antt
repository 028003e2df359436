use Rattle.std.proofs.Common.{length, ap, ◌∙◌, arith}
use Rattle.org_inherit.specs.Category.{category, category_under}
use Rattle.org_inherit.specs.Scope.{Scope}
use Rattle.org_inherit.specs.Tables.{AreTables}
use Rattle.org_inherit.proofs.LineageLemmas.{category_in}
use Rattle.org_outline.proofs.ByPlace.{table_length}
use Rattle.org_inherit.proofs.inherit.Inherit.category.Goals as goal

pub get-requires : goal.get-requires
get-requires c =
    let es = c.self.inside.outline.now in
    let file = c.self.inside.file_category.now in
    let are : AreTables es file c.in-Some.tables = rw c.in-Some.is at c.self.invariant.tables_are in
    let n = table_length (category_under es file) c.in-Some-categories.categories (length es) (rw c.in-Some-categories.is at are.categories_are) in
    let m = ap (λ (s : Scope). length s.entries) c.self.view_is in
    omega (arith, n, m, c.requires)

pub returns-in-Some-categories : goal.returns-in-Some-categories
returns-in-Some-categories c =
    let es = c.self.inside.outline.now in
    let file = c.self.inside.file_category.now in
    let place = c.args.place in
    let are : AreTables es file c.in-Some.tables = rw c.in-Some.is at c.self.invariant.tables_are in
    let m = ap (λ (s : Scope). length s.entries) c.self.view_is in
    record {
      value = category_in es file c.in-Some-categories.categories (length es) place c.get.result.now (rw c.in-Some-categories.is at are.categories_are) (omega (arith, m, c.requires)) c.get.ensures.value
          ∙ ap (λ v. category_under es v place) c.self.invariant.file_is
          ∙ ap (λ (s : Scope). category s place) c.self.view_is;
    }
