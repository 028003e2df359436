use Rattle.std.proofs.Common.{◌≡◌, ◌++◌, string_bytes}
use Rattle.org_look.specs.Bars.{times}
use Rattle.org_look.specs.Signs.{sign_text}
use Rattle.org_look.proofs.rule.push_times.Given as goal

abbrev pub invariant-loop-time : goal.invariant-loop-time
invariant-loop-time l = string_bytes l.out ≡ string_bytes l.fn.out ++ times l._time (sign_text l.signs l.sign)
