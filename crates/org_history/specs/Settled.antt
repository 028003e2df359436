-- What a history says of the text that a file has.
use Rattle.std.specs.Prelude.{◌≡◌, ◌≢◌, ℕ, List, ◌++◌, Option, Some, None, if◌then◌else◌, bytes_eq, Result, IfOk}
use Rattle.std.specs.Option.{option_and_then, option_map}
use Rattle.std.specs.Borrow.{Bor}
use Rattle.org_history.specs.Bytes.{change_at, change_bytes}
use Rattle.org_history.specs.Changes.{IsOf, Kept, Past, text_after, text_before}
use Rattle.org_history.specs.Laws.{IsKept}

-- what is older, where the text is the one before the newest change
abbrev pub older_of : Option (List ℕ) → List ℕ → List ℕ → Option (List ℕ)
older_of None text older = None
older_of (Some before) text older = if bytes_eq before text then Some older else None

-- the changes by which a text came to be: all, where the newest left it; the older ones, where it is the text before that; else none
unfoldable pub settled : Past → List ℕ → Option (List ℕ)
settled p text =
    if bytes_eq p.left text then Some p.changes else option_and_then (λ newest. older_of (text_before p.left newest.0) text newest.1) (change_at p.changes)

-- what code gives: this piece, or none, unless memory is refused
abbrev pub GivesPiece : {E : Type 0} → Result (Option (Bor (List ℕ))) E → Option (List ℕ) → Type 0
GivesPiece result piece = IfOk result (λ given. option_map (λ b. b.now) given ≡ piece)

-- with a change put in front of others, both texts have their changes: the one that it left all of them, and the one in which it was to be
-- made the older ones
pub record IsSettled (text : List ℕ) (k : Kept) (older : List ℕ) (p : Past) : Type 0 where
  pub made : settled p p.left ≡ Some (change_bytes k ++ older)
  pub not_made : text ≢ p.left → settled p text ≡ Some older

abbrev pub NewestMayFail : Type 0
NewestMayFail = (text path : List ℕ) (k : Kept) (older : List ℕ) → IsOf text k → IsKept k →
    IsSettled text k older (record { path = path; left = text_after text k; changes = change_bytes k ++ older })
