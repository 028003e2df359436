use Rattle.std.proofs.Common.{◌≡◌, ◌++◌, chars, encode_utf8_all, string_bytes}
use Rattle.std.specs.Str.{IsUtf8}
use Rattle.std.specs.Str.Iter.{chars_rest}
use Rattle.org_page.specs.Characters.{part_text}
use Rattle.org_page.proofs.character.push_part.Given as goal

abbrev pub invariant-loop-c : goal.invariant-loop-c
invariant-loop-c l = record {
  utf8 : IsUtf8 (chars_rest l.c-iterator);
  told : string_bytes l.out ++ encode_utf8_all (part_text l.part (chars (chars_rest l.c-iterator))) ≡ string_bytes l.fn.out ++ encode_utf8_all (part_text l.part (chars l.text));
}
