-- Keys with numbers are different.
use Rattle.std.proofs.Common.{◌≡◌, ◌≢◌, ◌∙◌, ℕ, zero, suc, ◌+◌, ◌%◌, ◌^◌, ◌<◌, ◌≤◌, Bool, true, false, cond, List, [], ◌∷◌, ◌++◌, refl, sym, ap, arith, drop, get_or, length}
use Rattle.std.specs.Prelude.{◌||◌, ◌==◌, bytes_eq, decimal}
use Rattle.std.specs.List.{list_any}
use Rattle.std.proofs.lemmas.Bool.{true≢false}
use Rattle.std.proofs.lemmas.Bool.Decides.{nat_tests}
use Rattle.std.proofs.lemmas.Fmt.{decimal_by_steps, decimal_injective}
use Rattle.std.proofs.lemmas.List.Folds.{list_any-append}
use Rattle.std.proofs.lemmas.List.Sums.{count_by-le-length, sum_by-cons}
use Rattle.std.proofs.lemmas.Slice.Eq.{bytes_eq-Decides}
use Rattle.org_ical.specs.Laws.{UidsDiffer}
use Rattle.org_ical.specs.Uids.{times_in, uid_text, uids}

-- a text has a minus
abbrev has_minus : List ℕ → Bool
has_minus text = list_any (λ b. b == 45) text

digits_alone : (n : ℕ) → n < 2 ^ 64 → has_minus (decimal n) ≡ false
digits_alone = decimal_by_steps (λ n ds. has_minus ds ≡ false) one more
  where
    one : (n : ℕ) → n < 10 → has_minus ((48 + n) ∷ []) ≡ false
    one n low = let apart : (48 + n == 45) ≡ false = grind (arith, nat_tests) in ap (λ b. b || false) apart

    more : (n : ℕ) (ds : List ℕ) → 10 ≤ n → has_minus ds ≡ false → has_minus (ds ++ (48 + n % 10) ∷ []) ≡ false
    more n ds high e =
        let apart : (48 + n % 10 == 45) ≡ false = grind (arith, nat_tests) in
        list_any-append (λ b. b == 45) ds ((48 + n % 10) ∷ []) ∙ (λ i. e i || (apart i || false))

or_true : (b : Bool) → (b || true) ≡ true
or_true true = refl
or_true false = refl

minus_within : (key ds : List ℕ) → has_minus (key ++ 45 ∷ ds) ≡ true
minus_within [] ds = refl
minus_within (k ∷ ks) ds = ap (λ b. (k == 45) || b) (minus_within ks ds) ∙ or_true (k == 45)

-- the last minus parts a key from its number
parted : (a b ds es : List ℕ) → has_minus ds ≡ false → has_minus es ≡ false → a ++ 45 ∷ ds ≡ b ++ 45 ∷ es → (a ≡ b) × (ds ≡ es)
parted [] [] ds es d e same = (refl, ap (drop 1) same)
parted [] (b ∷ bs) ds es d e same =
    let inner : ds ≡ bs ++ 45 ∷ es = ap (drop 1) same in
    absurd (true≢false (sym (minus_within bs es) ∙ ap has_minus (sym inner) ∙ d))
parted (a ∷ as_) [] ds es d e same =
    let inner : as_ ++ 45 ∷ ds ≡ es = ap (drop 1) same in
    absurd (true≢false (sym (minus_within as_ ds) ∙ ap has_minus inner ∙ e))
parted (a ∷ as_) (b ∷ bs) ds es d e same =
    let rest = parted as_ bs ds es d e (ap (drop 1) same) in
    let first : a ≡ b = ap (λ t. get_or t 0 0) same in
    ((λ i. first i ∷ rest.0 i), rest.1)

same_times : (a b : List ℕ) (m n : ℕ) → m < 2 ^ 64 → n < 2 ^ 64 → uid_text a m ≡ uid_text b n → (a ≡ b) × (m ≡ n)
same_times a b m n low high same =
    let parts = parted a b (decimal m) (decimal n) (digits_alone m low) (digits_alone n high) same in
    (parts.0, decimal_injective m n low high parts.1)

pub times_more : (key k : List ℕ) (seen : List (List ℕ)) → times_in key (k ∷ seen) ≡ cond (bytes_eq key k) 1 0 + times_in key seen
times_more key k seen = sum_by-cons (λ x. cond (bytes_eq key x) 1 0) k seen

-- the name at a place has a number that is greater than how often its key came before
pub record Numbered (seen : List (List ℕ)) (keys : List (List ℕ)) (place : ℕ) : Type 0 where
  pub key : List ℕ
  pub before : ℕ
  pub is : get_or (uids seen keys) place [] ≡ uid_text key (before + 1)
  pub least : times_in key seen ≤ before
  pub most : before ≤ length seen + length keys

numbered : (seen keys : List (List ℕ)) (place : ℕ) → place < length keys → Numbered seen keys place
numbered seen [] place in_range = absurd (omega (arith, in_range))
numbered seen (k ∷ ks) zero in_range =
    let bound = count_by-le-length (bytes_eq k) seen in
    record { key = k; before = times_in k seen; is = refl; least = omega arith; most = omega (arith, bound) }
numbered seen (k ∷ ks) (suc place) in_range =
    let rest = numbered (k ∷ seen) ks place (omega (arith, in_range)) in
    let more = times_more rest.key k seen in
    let low : times_in rest.key seen ≤ times_in rest.key (k ∷ seen) = omega (arith, more) in
    record { key = rest.key; before = rest.before; is = rest.is; least = omega (arith, low, rest.least); most = omega (arith, rest.most) }

differ : (seen keys : List (List ℕ)) (i j : ℕ) → length seen + length keys < 2 ^ 63 → i < j → j < length keys → get_or (uids seen keys) i [] ≢ get_or (uids seen keys) j []
differ seen [] i j few order in_range same = omega (arith, in_range)
differ seen (k ∷ ks) i zero few order in_range same = omega (arith, order)
differ seen (k ∷ ks) zero (suc j) few order in_range same =
    let later = numbered (k ∷ seen) ks j (omega (arith, in_range)) in
    let bound = count_by-le-length (bytes_eq k) seen in
    let parts = same_times k later.key (times_in k seen + 1) (later.before + 1) (omega (arith, bound, few)) (omega (arith, later.most, few)) (same ∙ later.is) in
    let own : bytes_eq later.key k ≡ true = (bytes_eq-Decides later.key k).1 (sym parts.0) in
    let more : times_in later.key (k ∷ seen) ≡ 1 + times_in later.key seen = times_more later.key k seen ∙ ap (λ b. cond b 1 0 + times_in later.key seen) own in
    let moved : times_in later.key seen ≡ times_in k seen = ap (λ t. times_in t seen) (sym parts.0) in
    omega (arith, parts.1, later.least, more, moved)
differ seen (k ∷ ks) (suc i) (suc j) few order in_range same = differ (k ∷ seen) ks i j (omega (arith, few)) (omega (arith, order)) (omega (arith, in_range)) same

pub uids_differ : UidsDiffer
uids_differ keys i j few order in_range = differ [] keys i j (omega (arith, few)) order in_range
