-- Marks of keywords (Org manual 9.6, "Tracking TODO state changes").
-- Characters by their codes: 33 exclamation mark, 47 slash, 64 at sign.
use Rattle.std.specs.Prelude.{ℕ, Bool, ◌&&◌, ◌||◌, ◌==◌, nat_le, nat_lt, if◌then◌else◌, List, [], ◌∷◌, drop, Option, Some, None, is_some}
use Rattle.std.specs.List.{prefix_len}
use Rattle.org_log.specs.declared.how.How.{How}
use Rattle.org_log.specs.declared.how.How.TheVariants.{Note, Time}
use Rattle.org_log.specs.declared.how.Marks.{Marks}

abbrev pub no_marks : Marks
no_marks = record { entering = None; leaving = None }

-- what a mark asks for
abbrev pub mark : ℕ → Option How
mark b = if b == 33 then Some Time else (if b == 64 then Some Note else None)

-- a mark for entering and one for leaving, where the first is one
abbrev pub both_marks : ℕ → ℕ → Marks
both_marks one two = if is_some (mark one) && is_some (mark two) then record { entering = mark one; leaving = mark two } else no_marks

-- what is asked for behind a key: perhaps by a mark for entering, perhaps by a slash and one for leaving
abbrev pub marks_behind : List ℕ → Marks
marks_behind (one ∷ []) = record { entering = mark one; leaving = None }
marks_behind (one ∷ two ∷ []) = if one == 47 then record { entering = None; leaving = mark two } else no_marks
marks_behind (one ∷ slash ∷ two ∷ []) = if slash == 47 then both_marks one two else no_marks
marks_behind bytes = no_marks

-- a byte that doesn't begin a character
abbrev pub goes_on : ℕ → Bool
goes_on b = nat_le 128 b && nat_lt b 192

-- what stands behind the key, which is any one character but a mark and the slash
abbrev pub behind_key : List ℕ → List ℕ
behind_key [] = []
behind_key (b ∷ bs) = if is_some (mark b) || b == 47 then b ∷ bs else drop (prefix_len goes_on bs) bs

-- what is asked for between parentheses
abbrev pub marks_of : List ℕ → Marks
marks_of inner = marks_behind (behind_key inner)
