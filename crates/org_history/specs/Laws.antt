-- Laws of histories.
use Rattle.std.specs.Prelude.{◌≡◌, ℕ, ◌^◌, ◌<◌, List, ◌++◌, length, Some}
use Rattle.org_history.specs.Bytes.{change_at, change_bytes, history_at, history_bytes}
use Rattle.org_history.specs.Changes.{IsOf, Kept, Past, text_after, text_before}

-- what a number of eight bytes can say
abbrev pub Fits : ℕ → Type 0
Fits n = n < 2 ^ 64

-- a change whose numbers and lengths do
pub record IsKept (k : Kept) : Type 0 where
  pub minute : Fits k.minute
  pub order : Fits k.order
  pub at : Fits k.at
  pub deleted : Fits (length k.deleted)
  pub inserted : Fits (length k.inserted)

-- the change in front of others is found
abbrev pub ChangesAreFound : Type 0
ChangesAreFound = (k : Kept) (older : List ℕ) → IsKept k → change_at (change_bytes k ++ older) ≡ Some (k, older)

-- a history is read back
abbrev pub HistoriesAreRead : Type 0
HistoriesAreRead = (p : Past) → Fits (length p.path) → Fits (length p.left) → history_at (history_bytes p) ≡ Some p

-- before a change stands the text in which it was made
abbrev pub ChangesAreTakenBack : Type 0
ChangesAreTakenBack = (text : List ℕ) (k : Kept) → IsOf text k → text_before (text_after text k) k ≡ Some text
