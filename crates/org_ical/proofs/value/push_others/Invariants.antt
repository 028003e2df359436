-- What is written, with the values of the texts that are left.
use Rattle.std.proofs.Common.{◌≡◌, ◌++◌, drop}
use Rattle.org_ical.specs.Results.{bytes_of}
use Rattle.org_ical.specs.Texts.{values_behind}
use Rattle.org_ical.proofs.value.push_others.Given as goal

abbrev pub invariant-loop-text : goal.invariant-loop-text
invariant-loop-text l =
    l.out.items ++ values_behind (bytes_of (drop l.text-index l.texts)) ≡ l.fn.out.items ++ values_behind (bytes_of l.texts)
