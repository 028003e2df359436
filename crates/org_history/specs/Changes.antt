-- Changes that acts made in a file, and the text before one.
use Rattle.std.specs.Prelude.{◌≡◌, ℕ, ◌+◌, ◌≤◌, List, ◌++◌, length, take, drop, Option, Some, None, nat_lt, if◌then◌else◌, bytes_eq, Result, IfOk}
use Rattle.std.specs.Option.{option_map}
use Rattle.std.specs.Global.{Vec}
use Rattle.org_history.specs.declared.change.KeptChange.{KeptChange}
use Rattle.org_history.specs.declared.history.History.{History}

-- a change without where its pieces lie in memory
pub record Kept : Type 0 where
  pub minute : ℕ
  pub order : ℕ
  pub at : ℕ
  pub deleted : List ℕ
  pub inserted : List ℕ

abbrev pub kept : KeptChange → Kept
kept k = record { minute = k.minute; order = k.order; at = k.at; deleted = k.deleted.now; inserted = k.inserted.now }

-- a history likewise, with its changes as bytes
pub record Past : Type 0 where
  pub path : List ℕ
  pub left : List ℕ
  pub changes : List ℕ

abbrev pub past : History → Past
past h = record { path = h.path.now; left = h.left.now; changes = h.changes.now }

-- the text that a change makes of another
abbrev pub text_after : List ℕ → Kept → List ℕ
text_after text k = take k.at text ++ k.inserted ++ drop (k.at + length k.deleted) text

-- what a change deleted lies within a text
abbrev pub LiesIn : List ℕ → Kept → Type 0
LiesIn text k = k.at + length k.deleted ≤ length text

-- what a change deleted stands at its place in a text
pub record IsOf (text : List ℕ) (k : Kept) : Type 0 where
  pub stands : take (length k.deleted) (drop k.at text) ≡ k.deleted
  pub within : LiesIn text k

-- a text with one piece in the place of another, which stands at the front of what is behind; none where that doesn't
abbrev pub put_back : List ℕ → List ℕ → List ℕ → List ℕ → Option (List ℕ)
put_back front behind inserted deleted =
    if bytes_eq (take (length inserted) behind) inserted then Some (front ++ deleted ++ drop (length inserted) behind) else None

-- the text in which a change was made that left this one; none where what it put in doesn't stand there
unfoldable pub text_before : List ℕ → Kept → Option (List ℕ)
text_before left k = if nat_lt (length left) k.at then None else put_back (take k.at left) (drop k.at left) k.inserted k.deleted

-- what code gives: this text, or none, unless memory is refused
abbrev pub GivesText : {E : Type 0} → Result (Option (Vec ℕ)) E → Option (List ℕ) → Type 0
GivesText result text = IfOk result (λ given. option_map (λ v. v.items) given ≡ text)
