-- What is written, with the octets that are left.
use Rattle.std.proofs.Common.{◌≡◌, ◌≤◌, ◌++◌, drop}
use Rattle.org_ical.specs.Lines.{folded_behind}
use Rattle.org_ical.specs.declared.line.TheConstants.{MOST_OCTETS}
use Rattle.org_ical.proofs.line.push_line.Given as goal

abbrev pub invariant-loop-octet : goal.invariant-loop-octet
invariant-loop-octet l = record {
  within : l.used ≤ MOST_OCTETS;
  text : l.out.items ++ folded_behind l.used (drop l.octet-index l.line) ≡ l.fn.out.items ++ folded_behind 0 l.line;
}
