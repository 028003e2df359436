-- A title without < has no active stamps.
use Rattle.std.proofs.Common.{◌≡◌, ◌∙◌, inl, inr, ℕ, zero, suc, Bool, true, false, List, [], ◌∷◌, ◌++◌, take, drop, refl, sym, ap}
use Rattle.std.specs.Prelude.{◌==◌, ◌||◌}
use Rattle.std.specs.List.{AllByRecursion, list_any}
use Rattle.std.proofs.lemmas.Bool.{cases_Bool, true≢false}
use Rattle.org_client.specs.HeadingNames.{plain_title}
use Rattle.org_client.specs.TitleWords.{beside_stamps}
use Rattle.org_stamp.specs.Line.{IsLongestAt, stamps_of}
use Rattle.org_stamp.specs.Stamp.{IsSingle, IsStamp, open_of}
use Rattle.org_stamp.specs.declared.stamp.Found.{Found}
use Rattle.org_stamp.specs.declared.stamp.Stamp.{Stamp}
use Rattle.org_stamp.proofs.LawLemmas.{stamps_of_line}

abbrev pub has_open : List ℕ → Bool
has_open bytes = list_any (λ byte. byte == 60) bytes

none_behind : (n : ℕ) (bytes : List ℕ) → has_open bytes ≡ false → has_open (drop n bytes) ≡ false
none_behind zero bytes none = none
none_behind (suc n) [] none = none
none_behind (suc n) (byte ∷ bytes) none = none_behind n bytes (tail (byte == 60) (has_open bytes) none)
  where
    tail : (here rest : Bool) → (here || rest) ≡ false → rest ≡ false
    tail true rest e = absurd (true≢false e)
    tail false rest e = e

none_front : (n : ℕ) (bytes : List ℕ) → has_open bytes ≡ false → has_open (take n bytes) ≡ false
none_front zero bytes none = refl
none_front (suc n) [] none = refl
none_front (suc n) (byte ∷ bytes) none = both (byte == 60) (has_open bytes) (has_open (take n bytes)) (none_front n bytes) none
  where
    both : (here rest front : Bool) → (rest ≡ false → front ≡ false) → (here || rest) ≡ false → (here || front) ≡ false
    both true rest front step e = absurd (true≢false e)
    both false rest front step e = step e

-- what begins with the bracket of an active stamp has it
begun_open : (active : Bool) (bytes rest : List ℕ) → bytes ≡ open_of active ∷ rest → active ≡ true → has_open bytes ≡ true
begun_open true bytes rest e h = ap has_open e
begun_open false bytes rest e h = absurd (true≢false (sym h))

open_front : (front back : List ℕ) → has_open front ≡ true → has_open (front ++ back) ≡ true
open_front [] back h = absurd (true≢false (sym h))
open_front (byte ∷ front) back h = both (byte == 60) (has_open front) (has_open (front ++ back)) (open_front front back) h
  where
    both : (here rest whole : Bool) → (rest ≡ true → whole ≡ true) → (here || rest) ≡ true → (here || whole) ≡ true
    both true rest whole step e = refl
    both false rest whole step e = step e

single_open : (bytes : List ℕ) (s : Stamp) → IsSingle bytes s → s.active ≡ true → has_open bytes ≡ true
single_open bytes s is active = begun_open s.active bytes _ is.bytes_is active

stamp_open : (bytes : List ℕ) (s : Stamp) → IsStamp bytes s → s.active ≡ true → has_open bytes ≡ true
stamp_open bytes s (inl is) active = single_open bytes s is active
stamp_open bytes s (inr is) active =
    let first : is.first.active ≡ true = sym (ap (λ (t : Stamp). t.active) is.stamp_is) ∙ active in
    ap has_open is.bytes_is ∙ open_front is.front _ (single_open is.front is.first is.first_is first)

inactive : (title : List ℕ) (found : Found) → has_open title ≡ false → IsLongestAt title found → found.stamp.active ≡ false
inactive title found none is = elim (cases_Bool found.stamp.active) [
  | inl active ↦
      absurd (true≢false (sym (stamp_open (take found.len (drop found.at title)) found.stamp is.is active)
      ∙ none_front found.len (drop found.at title) (none_behind found.at title none)))
  | inr other ↦ other
]

beside_none : (title : List ℕ) (from : ℕ) (founds : List Found) → has_open title ≡ false → AllByRecursion (IsLongestAt title) founds → beside_stamps title from founds ≡ drop from title
beside_none title from [] none all = refl
beside_none title from (found ∷ founds) none all = rw (inactive title found none all.0) (beside_none title from founds none all.1)

pub plain_already : (title : List ℕ) → has_open title ≡ false → plain_title title ≡ title
plain_already title none = beside_none title 0 (stamps_of title) none (stamps_of_line title).each
