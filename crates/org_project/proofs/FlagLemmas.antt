-- How many flags there are.
use Rattle.std.proofs.Common.{◌≡◌, ℕ, ◌+◌, List, [], ◌∷◌, Bool, length, refl, arith}
use Rattle.std.proofs.lemmas.List.FromFn.{length-map-range_with_len}
use Rattle.org_entry.specs.declared.entry.Entry.{Entry}
use Rattle.org_inherit.specs.Scope.{Scope}
use Rattle.org_project.specs.Flags.{both, either, flags, flags_from}
use Rattle.org_project.specs.Topmost.{all_topmost, both_at, either_at, is_topmost}
use Rattle.org_project.specs.declared.entry_flags.Flag.{Flag}

flags_from_length : (flag : Flag) (scope : Scope) (i : ℕ) (es : List Entry) → length (flags_from flag scope i es) ≡ length es
flags_from_length flag scope i [] = refl
flags_from_length flag scope i (e ∷ es) = omega (arith, flags_from_length flag scope (i + 1) es)

-- as many as entries
pub flags_length : (flag : Flag) (scope : Scope) → length (flags flag scope) ≡ length scope.entries
flags_length flag scope = flags_from_length flag scope 0 scope.entries

pub both_length : (one other : List Bool) → length (both one other) ≡ length one
both_length one other = length-map-range_with_len (both_at one other) 0 (length one)

pub either_length : (one other : List Bool) → length (either one other) ≡ length one
either_length one other = length-map-range_with_len (either_at one other) 0 (length one)

pub topmost_length : (es : List Entry) (kind : List Bool) → length (all_topmost es kind) ≡ length es
topmost_length es kind = length-map-range_with_len (is_topmost es kind) 0 (length es)
