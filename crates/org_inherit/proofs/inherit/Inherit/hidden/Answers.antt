use Rattle.std.proofs.Common.{length, ap, ◌∙◌, arith}
use Rattle.org_inherit.specs.Hidden.{hides, is_hidden}
use Rattle.org_inherit.specs.Scope.{Scope}
use Rattle.org_inherit.specs.Tables.{AreTables}
use Rattle.org_inherit.proofs.LineageLemmas.{all_passing_at, all_passing_length}
use Rattle.org_inherit.proofs.inherit.Inherit.hidden.Goals as goal

pub index-requires : goal.index-requires
index-requires c =
    let es = c.self.inside.outline.now in
    let are : AreTables es c.self.inside.file_category.now c.in-Some.tables = rw c.in-Some.is at c.self.invariant.tables_are in
    let n = all_passing_length hides es c.in-Some.tables.flags.hidden.items are.hidden_are in
    let m = ap (λ (s : Scope). length s.entries) c.self.view_is in
    omega (arith, n, m, c.requires)

pub returns-in-Some : goal.returns-in-Some
returns-in-Some c =
    let es = c.self.inside.outline.now in
    let are : AreTables es c.self.inside.file_category.now c.in-Some.tables = rw c.in-Some.is at c.self.invariant.tables_are in
    let m = ap (λ (s : Scope). length s.entries) c.self.view_is in
    record {
      value = c.index.ensures
          ∙ all_passing_at hides es c.in-Some.tables.flags.hidden.items c.args.place c.index.result.now are.hidden_are (omega (arith, m, c.requires))
          ∙ ap (λ (s : Scope). is_hidden s.entries c.args.place) c.self.view_is;
    }

pub returns-in-None : goal.returns-in-None
returns-in-None c = record { value = c.lineage_passes.ensures.value ∙ ap (λ (s : Scope). is_hidden s.entries c.args.place) c.self.view_is }
