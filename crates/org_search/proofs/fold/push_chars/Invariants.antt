use Rattle.std.proofs.Common.{◌≡◌, ◌++◌, chars, encode_utf8_all, string_bytes}
use Rattle.std.specs.Str.{IsUtf8}
use Rattle.std.specs.Str.Iter.{chars_rest}
use Rattle.caseless.specs.Caseless.{default_case_fold}
use Rattle.org_search.proofs.fold.push_chars.Given as goal

abbrev pub invariant-loop-c : goal.invariant-loop-c
invariant-loop-c l = record {
  utf8 : IsUtf8 (chars_rest l.c-iterator);
  told : string_bytes l.out ++ encode_utf8_all (default_case_fold (chars (chars_rest l.c-iterator))) ≡ string_bytes l.fn.out ++ encode_utf8_all (default_case_fold (chars l.text));
}
