-- What was written, and the characters that are left, give all.
use Rattle.std.proofs.Common.{◌≡◌, ◌++◌, chars, encode_utf8_all, map, string_bytes}
use Rattle.std.specs.Str.{IsUtf8}
use Rattle.std.specs.Str.Iter.{chars_rest}
use Rattle.org_day.specs.Shown.{shown}
use Rattle.org_day.proofs.shown.push_shown.Given as goal

abbrev pub invariant-loop-c : goal.invariant-loop-c
invariant-loop-c l = record {
  utf8 : IsUtf8 (chars_rest l.c-iterator);
  told : string_bytes l.out ++ encode_utf8_all (map shown (chars (chars_rest l.c-iterator))) ≡ string_bytes l.fn.out ++ encode_utf8_all (map shown (chars l.text));
}
