-- Worked examples: what the definitions say of ordinary inputs, and of those at which a wrong rule says something else.
use Rattle.std.specs.Prelude.{◌≡◌, ◌++◌, ℕ, List, [], ◌∷◌, codes, Some, None}
use Rattle.org_history.specs.Bytes.{history_at, mark, number_at, piece_at, piece_bytes}
use Rattle.org_history.specs.Changes.{Kept, text_before}

-- a keyword that became another
abbrev pub done : Kept
done = record { minute = 0; order = 0; at = 2; deleted = codes "TODO"; inserted = codes "DONE" }

-- a number has its lowest byte first and all of its eight; a piece that is cut is none, and what stands behind one stays. Another mark is
-- no history's. Before a change stands what it took away, if what it put in stands there
pub record ExamplesHold : Type 0 where
  pub low_first : number_at (1 ∷ 2 ∷ 0 ∷ 0 ∷ 0 ∷ 0 ∷ 0 ∷ 0 ∷ 9 ∷ []) ≡ Some (513, 9 ∷ [])
  pub too_short : number_at (codes "1234567") ≡ None
  pub piece : piece_at (piece_bytes (codes "ab") ++ codes "c") ≡ Some (codes "ab", codes "c")
  pub too_long : piece_at (3 ∷ 0 ∷ 0 ∷ 0 ∷ 0 ∷ 0 ∷ 0 ∷ 0 ∷ codes "ab") ≡ None
  pub empty : history_at (mark ++ piece_bytes [] ++ piece_bytes []) ≡ Some (record { path = []; left = []; changes = [] })
  pub another : history_at (codes "orgq undo 2\n" ++ piece_bytes [] ++ piece_bytes []) ≡ None
  pub before : text_before (codes "* DONE a") done ≡ Some (codes "* TODO a")
  pub not_there : text_before (codes "* TODO a") done ≡ None
  pub past_end : text_before (codes "*") done ≡ None
