-- What is written, with the values of the bytes that are left.
use Rattle.std.proofs.Common.{◌≡◌, ◌++◌, drop}
use Rattle.org_ical.specs.Texts.{escaped, plain_behind, value_text}
use Rattle.org_ical.proofs.value.push_value.Given as goal

abbrev pub invariant-loop-byte : goal.invariant-loop-byte
invariant-loop-byte l = l.out.items ++ escaped (plain_behind l.led (drop l.byte-index l.text)) ≡ l.fn.out.items ++ value_text l.text
