-- The headings of the entries so far have names.
use Rattle.std.proofs.Common.{◌≡◌, take}
use Rattle.org_client.specs.HeadingNames.{id_headings, last_part}
use Rattle.org_ids.specs.Names.{names_view}
use Rattle.org_client.proofs.heading_names.HeadingNames.of.Given as goal

abbrev pub invariant-loop-place : goal.invariant-loop-place
invariant-loop-place l = l.names ≡ names_view (last_part l.path) (id_headings (take l.place l.outline))
