-- Short ids have no control character.
use Rattle.std.proofs.Common.{◌≡◌, ◌∙◌, ℕ, zero, suc, ◌+◌, ◌-◌, ◌/◌, ◌%◌, ◌^◌, ◌<◌, ◌≤◌, Bool, true, false, List, [], ◌∷◌, ◌++◌, get_or, length, map, refl, sym, ap, arith, append_assoc, append-nil}
use Rattle.std.specs.Prelude.{decimal, max, min, nat_le, nat_lt, ◌&&◌, Option, None, Some}
use Rattle.std.specs.List.{range_with_len}
use Rattle.std.proofs.lemmas.Bool.{and_parts, leb-true, ltb-true}
use Rattle.org_visible.specs.Clean.{IsClean}
use Rattle.org_visible.proofs.CleanLemmas.{clean_append, clean_byte, clean_front}
use Rattle.org_client.specs.RowIds.{IdsView, id_letters, id_text, key_of, sum_in}
use Rattle.org_client.specs.declared.row_ids.HeadingAt.{HeadingAt}
use Rattle.org_client.proofs.JsonLemmas.{decimal_clean}
use Rattle.org_ids.specs.Letters.{id_of, letter_at, letters}
use Rattle.org_answer.specs.Shown.{AddsClean}

-- bytes of ASCII that print
abbrev print_all : List ℕ → Bool
print_all [] = true
print_all (b ∷ bytes) = (nat_le 32 b && nat_lt b 127) && print_all bytes

pub record Prints (b : ℕ) : Type 0 where
  low : 32 ≤ b
  high : b < 127

at_place : (bytes : List ℕ) (i : ℕ) → print_all bytes ≡ true → i < length bytes → Prints (get_or bytes i 0)
at_place [] i all within = absurd (omega (arith, within))
at_place (b ∷ bytes) zero all within =
    let both = and_parts (nat_le 32 b && nat_lt b 127) (print_all bytes) all in
    let own = and_parts (nat_le 32 b) (nat_lt b 127) both.0 in
    record { low = leb-true 32 b own.0; high = ltb-true b 127 own.1 }
at_place (b ∷ bytes) (suc i) all within =
    at_place bytes i (and_parts (nat_le 32 b && nat_lt b 127) (print_all bytes) all).1 (omega (arith, within))

letter_prints : (sum place : ℕ) → Prints (letter_at sum place)
letter_prints sum place = at_place letters (sum / 32 ^ (11 - place) % 32) refl (omega arith)

letters_clean : (sum from n : ℕ) → IsClean (map (letter_at sum) (range_with_len from n))
letters_clean sum from zero = refl
letters_clean sum from (suc n) =
    let own = letter_prints sum from in
    clean_front (letter_at sum from) (map (letter_at sum) (range_with_len (from + 1) n)) own.low own.high (letters_clean sum (from + 1) n)

id_clean : (count : ℕ) (sum : Option ℕ) → IsClean (id_letters count sum)
id_clean count None = refl
id_clean count (Some sum) = letters_clean sum 0 count

-- an id and a byte behind it
pub told_id : (ids : IdsView) (at : HeadingAt) (behind : ℕ) (old new : List ℕ) → 32 ≤ behind → behind < 127 →
    new ≡ old ++ (id_text ids at 0 ++ behind ∷ []) → AddsClean old new
told_id ids at behind old new low high added =
    let text : List ℕ = id_text ids at 0 in
    record {
      text = text ++ behind ∷ [];
      clean = clean_append text (behind ∷ []) (id_clean (min (max ids.length 0) 12) (sum_in ids (key_of at))) (clean_byte behind low high);
      added = added;
    }

-- a line that an id follows, behind a name
pub places_with_id : (number : ℕ) (old named numbered told new : List ℕ) → number < 2 ^ 64 → AddsClean old named →
    numbered ≡ named ++ (58 ∷ decimal number ++ 64 ∷ []) → AddsClean numbered told → AddsClean told new → AddsClean old new
places_with_id number old named numbered told new small front middle id last =
    let line : List ℕ = 58 ∷ decimal number ++ 64 ∷ [] in
    let clean : IsClean line = clean_append (58 ∷ decimal number) (64 ∷ []) (clean_front 58 (decimal number) (omega arith) (omega arith) (decimal_clean number small)) refl in
    record {
      text = front.text ++ (line ++ (id.text ++ last.text));
      clean = clean_append front.text (line ++ (id.text ++ last.text)) front.clean
          (clean_append line (id.text ++ last.text) clean (clean_append id.text last.text id.clean last.clean));
      added = last.added ∙ ap (λ (s : List ℕ). s ++ last.text) (id.added ∙ ap (λ (s : List ℕ). s ++ id.text) (middle ∙ ap (λ (s : List ℕ). s ++ line) front.added))
          ∙ append_assoc ((old ++ front.text) ++ line) id.text last.text
          ∙ append_assoc (old ++ front.text) line (id.text ++ last.text)
          ∙ append_assoc old front.text (line ++ (id.text ++ last.text));
    }

pub spaced : (old new : List ℕ) → new ≡ old ++ 32 ∷ [] → AddsClean old new
spaced old new added = record { text = 32 ∷ []; clean = refl; added = added }
