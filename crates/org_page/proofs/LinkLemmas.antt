-- What an encoded path has.
use Rattle.std.proofs.Common.{◌≡◌, ℕ, ◌+◌, ◌<◌, ◌/◌, ◌%◌, ◌==◌, ◌||◌, Bool, true, false, List, [], ◌∷◌, ◌++◌, refl, sym, subst, arith, cond}
use Rattle.std.specs.List.{All}
use Rattle.std.proofs.lemmas.Bool.{or_right, cond_both, agree_below, agree_below_at}
use Rattle.std.proofs.lemmas.List.Elements.{All-append, All-cons, All-head, All-nil, All-tail}
use Rattle.org_page.specs.Links.{encoded, encoded_byte, hex_digit, is_plain_byte, IsOfAddress, PathsArePlain}

hex_plain : (d : ℕ) → d < 16 → is_plain_byte (hex_digit d) ≡ true
hex_plain d below = agree_below_at (λ d. is_plain_byte (hex_digit d)) (λ d. true) 16 d refl below

byte_plain : (b : ℕ) → b < 256 → All IsOfAddress (encoded_byte b)
byte_plain b below =
    cond_both (is_plain_byte b) (b ∷ []) (37 ∷ hex_digit (b / 16) ∷ hex_digit (b % 16) ∷ []) (λ t. All IsOfAddress t)
    (λ e. All-cons IsOfAddress b [] (or_right (b == 37) (is_plain_byte b) e) (All-nil IsOfAddress))
    (λ _. All-cons IsOfAddress 37 (hex_digit (b / 16) ∷ hex_digit (b % 16) ∷ []) refl
    (All-cons IsOfAddress (hex_digit (b / 16)) (hex_digit (b % 16) ∷ []) (or_right (hex_digit (b / 16) == 37) _ (hex_plain (b / 16) (omega arith)))
    (All-cons IsOfAddress (hex_digit (b % 16)) [] (or_right (hex_digit (b % 16) == 37) _ (hex_plain (b % 16) (omega arith))) (All-nil IsOfAddress))))

pub paths_are_plain : PathsArePlain
paths_are_plain [] all = All-nil IsOfAddress
paths_are_plain (b ∷ path) all =
    All-append IsOfAddress (encoded_byte b) (encoded path) (byte_plain b (All-head (λ c. c < 256) b path all)) (paths_are_plain path (All-tail (λ c. c < 256) b path all))
