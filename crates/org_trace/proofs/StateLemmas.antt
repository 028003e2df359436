-- Where a quotation mark stands.
use Rattle.std.proofs.Common.{◌≡◌, ℕ, ◌==◌, Option, Some, None, List, length, refl, arith}
use Rattle.std.proofs.lemmas.Bool.{false_from_ne_true, le-ltb, lt-ltb}
use Rattle.std.proofs.lemmas.List.Sums.{position_or_len_is}
use Rattle.memchr.specs.Find.{IsFirstByte, is_byte}
use Rattle.std.specs.List.{position}

-- the first one, as a search finds it
pub quote_is : (text : List ℕ) (found : Option ℕ) → IsFirstByte (is_byte 34) text found → found ≡ position (λ b. b == 34) text
quote_is text None h =
    let at = position_or_len_is (is_byte 34) text (length text) 0 (omega arith) (λ k lt. false_from_ne_true _ (h k (omega arith) lt)) (λ lt. absurd (omega (arith, lt))) in
    rw (at, le-ltb (length text) (length text) (omega arith)) refl
quote_is text (Some i) h =
    let at = position_or_len_is (is_byte 34) text i 0 (omega (arith, h.0.high)) (λ k lt. false_from_ne_true _ (h.0.before k (omega arith) lt)) (λ lt. h.1) in
    rw (at, lt-ltb i (length text) h.0.high) refl
