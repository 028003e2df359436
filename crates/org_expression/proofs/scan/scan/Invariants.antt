use Rattle.std.proofs.Common.{◌≡◌, Some, chars, ◌+◌, length}
use Rattle.std.specs.Str.{IsUtf8}
use Rattle.std.specs.Str.Iter.{chars_rest}
use Rattle.org_expression.specs.Automaton.{reach, run}
use Rattle.org_expression.specs.declared.state.State.TheVariants.{Start}
use Rattle.org_expression.proofs.scan.scan.Given as goal

abbrev pub invariant-loop-c : goal.invariant-loop-c
invariant-loop-c l = record {
  utf8 : IsUtf8 (chars_rest l.c-iterator);
  bytes : l.at + length (chars_rest l.c-iterator) ≡ length l.text;
  at : l.at + reach (Some l.state) (chars (chars_rest l.c-iterator)) ≡ reach (Some Start) (chars l.text);
  whole : run (Some l.state) (chars (chars_rest l.c-iterator)) ≡ run (Some Start) (chars l.text);
}
