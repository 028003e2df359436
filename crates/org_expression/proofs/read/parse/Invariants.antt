use Rattle.std.proofs.Common.{◌≡◌, Some, chars}
use Rattle.std.specs.Str.{IsUtf8}
use Rattle.std.specs.Str.Iter.{chars_rest}
use Rattle.org_expression.specs.Automaton.{run}
use Rattle.org_expression.specs.Draft.{advance, finished, read_all}
use Rattle.org_expression.proofs.read.parse.Given as goal

abbrev pub invariant-loop-c : goal.invariant-loop-c
invariant-loop-c l = record {
  utf8 : IsUtf8 (chars_rest l.c-iterator);
  told : finished (run (Some l.state) (chars (chars_rest l.c-iterator))) (advance (Some l.state) l.draft (chars (chars_rest l.c-iterator))) ≡ read_all (chars l.text);
}
