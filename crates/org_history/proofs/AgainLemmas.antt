-- What was written is read again.
use Rattle.std.proofs.Common.{◌≡◌, ℕ, ◌+◌, ◌^◌, ◌<◌, ◌≤◌, Bool, true, false, ltb, List, [], ◌∷◌, ◌++◌, length, take, drop, Option, Some, None, refl, sym, ap, ◌∙◌, append_assoc, arith}
use Rattle.std.specs.Int.{w64, from_le_bytes, to_le_bytes}
use Rattle.std.proofs.lemmas.Bool.{le-ltb}
use Rattle.std.proofs.lemmas.List.{take_at, drop_at, length-append}
use Rattle.std.proofs.lemmas.Nat.{from_le_bytes-to_le_bytes_8}
use Rattle.org_history.specs.Bytes.{change_at, change_bytes, history_at, history_bytes, number_at, number_bytes, past_at, piece_at, piece_bytes}
use Rattle.org_history.specs.Changes.{Kept, Past}
use Rattle.org_history.specs.Laws.{Fits, IsKept}

-- eight bytes are read as the number that they are of
front_again : (front rest : List ℕ) (n : ℕ) → length front ≡ 8 → from_le_bytes w64 front ≡ n → number_at (front ++ rest) ≡ Some (n, rest)
front_again front rest n len is =
    let long : ltb (length (front ++ rest)) 8 ≡ false = le-ltb _ _ (omega (arith, len, length-append front rest)) in
    rw (long, take_at front rest 8 len, drop_at front rest 8 len, is) refl

pub number_again : (n : ℕ) (rest : List ℕ) → Fits n → number_at (number_bytes n ++ rest) ≡ Some (n, rest)
number_again n rest fits = front_again (number_bytes n) rest n refl (from_le_bytes-to_le_bytes_8 n fits)

pub piece_again : (piece rest : List ℕ) → Fits (length piece) → piece_at (piece_bytes piece ++ rest) ≡ Some (piece, rest)
unfolding piece_at
piece_again piece rest fits =
    let long : ltb (length (piece ++ rest)) (length piece) ≡ false = le-ltb _ _ (omega (arith, length-append piece rest)) in
    rw (number_again (length piece) (piece ++ rest) fits, long, take_at piece rest (length piece) refl, drop_at piece rest (length piece) refl) refl

pub change_again : (k : Kept) (older : List ℕ) → IsKept k → change_at (change_bytes k ++ older) ≡ Some (k, older)
unfolding change_at
change_again k older fits =
    let pieces : (piece_bytes k.deleted ++ piece_bytes k.inserted) ++ older ≡ piece_bytes k.deleted ++ (piece_bytes k.inserted ++ older) = append_assoc (piece_bytes k.deleted) (piece_bytes k.inserted) older in
    let grouped : change_bytes k ++ older ≡ number_bytes k.minute ++ (number_bytes k.order ++ (number_bytes k.at ++ (piece_bytes k.deleted ++ (piece_bytes k.inserted ++ older)))) = ap (λ (x : List ℕ). number_bytes k.minute ++ (number_bytes k.order ++ (number_bytes k.at ++ x))) pieces in
    ap change_at grouped ∙ rw (number_again k.minute (number_bytes k.order ++ (number_bytes k.at ++ (piece_bytes k.deleted ++ (piece_bytes k.inserted ++ older)))) fits.minute, number_again k.order (number_bytes k.at ++ (piece_bytes k.deleted ++ (piece_bytes k.inserted ++ older))) fits.order, number_again k.at (piece_bytes k.deleted ++ (piece_bytes k.inserted ++ older)) fits.at, piece_again k.deleted (piece_bytes k.inserted ++ older) fits.deleted, piece_again k.inserted older fits.inserted) refl

pub past_again : (p : Past) → Fits (length p.path) → Fits (length p.left) → past_at (piece_bytes p.path ++ (piece_bytes p.left ++ p.changes)) ≡ Some p
unfolding past_at
past_again p path left = rw (piece_again p.path (piece_bytes p.left ++ p.changes) path, piece_again p.left p.changes left) refl

pub history_again : (p : Past) → Fits (length p.path) → Fits (length p.left) → history_at (history_bytes p) ≡ Some p
unfolding history_at
history_again p path left =
    let pieces : (piece_bytes p.path ++ piece_bytes p.left) ++ p.changes ≡ piece_bytes p.path ++ (piece_bytes p.left ++ p.changes) = append_assoc (piece_bytes p.path) (piece_bytes p.left) p.changes in
    ap past_at pieces ∙ past_again p path left
