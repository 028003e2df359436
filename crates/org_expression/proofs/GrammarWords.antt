-- Words of the proofs about Grammar: parts of its definitions.
use Rattle.std.specs.Prelude.{ℕ, Bool, ◌||◌, ◌==◌}
use Rattle.org_base.specs.Characters.{is_tag_char}

-- a name may hold minuses, each spelled with a backslash
abbrev pub is_name_char : ℕ → Bool
is_name_char c = is_tag_char c || c == 45
