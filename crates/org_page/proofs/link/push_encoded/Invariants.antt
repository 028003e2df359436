use Rattle.std.proofs.Common.{◌≡◌, ◌++◌, drop, encode_utf8_all, string_bytes}
use Rattle.org_page.specs.Links.{encoded}
use Rattle.org_page.proofs.link.push_encoded.Given as goal

abbrev pub invariant-loop-byte : goal.invariant-loop-byte
invariant-loop-byte l = string_bytes l.out ++ encode_utf8_all (encoded (drop l.byte-index l.byte-items)) ≡ string_bytes l.fn.out ++ encode_utf8_all (encoded l.path)
