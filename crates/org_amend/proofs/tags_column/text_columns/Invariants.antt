-- The columns so far, and then those of the rest.
use Rattle.std.proofs.Common.{◌≡◌, ◌≤◌, chars}
use Rattle.std.specs.Str.{IsUtf8}
use Rattle.std.specs.Str.Iter.{chars_rest}
use Rattle.org_amend.specs.TagsColumn.{columns_from}
use Rattle.org_amend.proofs.tags_column.text_columns.Given as goal

abbrev pub invariant-loop-c : goal.invariant-loop-c
invariant-loop-c l = record {
  utf8 : IsUtf8 (chars_rest l.c-iterator);
  few : l.column ≤ 77;
  told : columns_from l.column (chars (chars_rest l.c-iterator)) ≡ columns_from 0 (chars l.text);
}
