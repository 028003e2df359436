use Rattle.std.proofs.Common.{◌≡◌, ◌∙◌, [], sym}
use Rattle.std.specs.Str.Iter.{chars_rest}
use Rattle.std.proofs.lemmas.Str.{IsUtf8-past_char}
use Rattle.std.proofs.lemmas.List.{nil_from_length}
use Rattle.org_amend.proofs.ColumnLemmas.{none_left, one_passed}
use Rattle.org_amend.proofs.tags_column.text_columns.Goals as goal

pub loop-c-preserved : goal.loop-c-preserved
loop-c-preserved c =
    let inv = c.loop-c.invariant in
    let parts = c.in-Some.ensures.steps.0 in
    record {
      utf8 = IsUtf8-past_char _ _ c.in-Some.c inv.utf8 parts;
      few = c.column_after-column.ensures.at_most;
      told = one_passed _ _ c.in-Some.c c.loop-c.column c.column_after-column.result _ inv.utf8 parts c.column_after-column.ensures.value inv.told;
    }

pub returns : goal.returns
returns c =
    let inv = c.loop-c.invariant in
    let none : chars_rest c.loop-c.c-iterator ≡ [] = nil_from_length _ c.in-None.ensures.steps.0.0 in
    record { value = sym (none_left _ c.loop-c.column none) ∙ inv.told }
