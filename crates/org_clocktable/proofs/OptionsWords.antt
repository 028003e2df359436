-- Words of the proofs about Options: parts of its definitions.
use Rattle.std.specs.Prelude.{false, None}
use Rattle.org_clocktable.specs.declared.options.Draft.{Draft}

-- no option is read
abbrev pub no_options : Draft
no_options = record { block_at = None; level = None; file_at = None; step = None; effort = false; match_at = None }
