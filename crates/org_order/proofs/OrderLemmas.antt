-- The laws of the order.
use Rattle.std.proofs.Common.{◌≡◌, refl}
use Rattle.std.specs.Prelude.{true, false, is_none, Option, None, Some, ℕ, bytes_eq, length, position, unwrap_or}
use Rattle.org_order.specs.Laws.{GroupsComeInOrder, LaterKeysDecideTies, MinusTurnsTheOrder, MissingIsLast, UnnamedIsLast}

pub missing_is_last : MissingIsLast
missing_is_last true value = refl
missing_is_last false value = refl

pub minus_turns_the_order : MinusTurnsTheOrder
minus_turns_the_order x y = refl

pub later_keys_decide_ties : LaterKeysDecideTies
later_keys_decide_ties x y xs ys = refl

next_place : (found : Option ℕ) (count : ℕ) → is_none found ≡ true → unwrap_or found count ≡ count
next_place None count e = refl
next_place (Some place) count e = search

pub groups_come_in_order : GroupsComeInOrder
groups_come_in_order names name new = next_place (position (bytes_eq name) names) (length names) new

pub unnamed_is_last : UnnamedIsLast
unnamed_is_last place = refl
