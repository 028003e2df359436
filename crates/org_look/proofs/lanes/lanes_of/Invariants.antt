use Rattle.std.proofs.Common.{◌≡◌, ◌++◌, drop, vec_len}
use Rattle.org_look.proofs.LaneLemmas.{Apart, Held}
use Rattle.org_look.specs.FreeLanes.{lanes_from, lanes_of}
use Rattle.org_look.specs.Lanes.{firsts, lasts}
use Rattle.org_look.proofs.lanes.lanes_of.Given as goal

abbrev pub invariant-loop-span : goal.invariant-loop-span
invariant-loop-span l = record {
  count : vec_len l.lanes ≡ l.span-index;
  first : l.lanes.items ++ lanes_from l.most l.free.items (drop l.span-index l.spans) ≡ lanes_of l.most l.spans;
  apart : Apart l.span-index l.lanes.items (firsts l.spans) (lasts l.spans) l.most;
  held : Held l.span-index l.lanes.items (lasts l.spans) l.free.items l.most;
}
