use Rattle.std.proofs.Common.{◌≡◌, ◌++◌, drop, encode_utf8_all, string_bytes}
use Rattle.org_page.specs.Pieces.{attributes_text}
use Rattle.org_page.proofs.written.push_attributes.Given as goal

abbrev pub invariant-loop-attribute : goal.invariant-loop-attribute
invariant-loop-attribute l = string_bytes l.out ++ encode_utf8_all (attributes_text (drop l.attribute-index l.attributes)) ≡ string_bytes l.fn.out ++ encode_utf8_all (attributes_text l.attributes)
